-- The device calls that the code makes are those of the lists; blocks of records.
use Rattle.std.proofs.Common.{◌≡◌, ℕ, ◌/◌, ◌%◌, ◌≤◌, Bool, true, false, cond, ◌&&◌, leb, List, [], ◌∷◌, length, is_some, Some, None, Ok, Err, Option, Result, sym, refl, ap, ◌∙◌, subst, inl, inr, arith}
use Rattle.std.specs.Option.{ok_or}
use Rattle.std.proofs.lemmas.List.{length-take-le}
use Rattle.std.proofs.lemmas.Bool.{ne_eqb, eq-eqb, cond-true, cond-false, cases_Bool, false≢true}
use Rattle.intent_log.specs.declared.refusal.LogRefusal.{LogRefusal}
use Rattle.intent_log.specs.declared.refusal.LogRefusal.TheVariants.{Off}
use Rattle.member_store.specs.Meaning.{Meaning}
use Rattle.member_store.specs.declared.refusal.Refusal.{Refusal}
use Rattle.device_calls.specs.Lists as device
use Rattle.device_calls.specs.Lists.{DeviceCall, Accepted, Rejected, Completed, Stopped, for_each}
use Rattle.device_calls.proofs.Append.{completed_then, stopped_first, stopped_then}
use Rattle.stripe_set.specs.Rising.{rising}
use Rattle.stripe_set.specs.Stripes.{stripes, held, bounded}
use Rattle.stripe_set.specs.declared.set.StripeSet.{StripeSet}
use Rattle.record.specs.Contents.{Contents}
use Rattle.record.specs.Form.{block}
use Rattle.record.proofs.Steps.{some≢none}
use Rattle.ring_log.specs.Slots.{slots, slot_for}
use Rattle.ring_log.specs.Highest.{slot_or, present}
use Rattle.ring_log.specs.Own.{put_calls, zero_block, zero_slot, zero_standing, blank_calls, read_slot}

pub same_slots : (s : Meaning) (mm bb cnt : ℕ) → mm ≡ s.members → bb ≡ s.blocks → cnt ≡ slots mm bb → cnt ≡ slots s.members s.blocks
same_slots s mm bb cnt em eb ec = ec ∙ ap (λ (x : ℕ). slots x bb) em ∙ ap (λ (x : ℕ). slots s.members x) eb

module _ (s : Meaning) (mm bb cnt v slot : ℕ) (r : Contents) (em : mm ≡ s.members) (eb : bb ≡ s.blocks) (ec : cnt ≡ slots mm bb) (ev : v ≡ r.version) (es : slot ≡ v % cnt) where
  pub same_slot : slot ≡ slot_for s.members s.blocks r.version
  same_slot = es ∙ ap (λ (j : ℕ). v % j) (same_slots s mm bb cnt em eb ec) ∙ ap (λ (w : ℕ). w % slots s.members s.blocks) ev

  pub put_list : (x : List ℕ) → x ≡ block r → ◌≡◌ {A = List DeviceCall} (device.store (slot % mm) (slot / mm) x ∷ device.barrier ∷ []) (put_calls s.members s.blocks r)
  put_list x ex =
      ap (λ (i : ℕ). device.store (i % mm) (i / mm) x ∷ device.barrier ∷ []) same_slot
      ∙ ap (λ (m : ℕ). device.store (slot_for s.members s.blocks r.version % m) (slot_for s.members s.blocks r.version / m) x ∷ device.barrier ∷ []) em
      ∙ ap (λ (y : List ℕ). device.store (slot_for s.members s.blocks r.version % s.members) (slot_for s.members s.blocks r.version / s.members) y ∷ device.barrier ∷ []) ex

pub few_stripes : (z : StripeSet) → length (stripes z) ≤ 64
few_stripes z =
    let w = z.whole in
    let f = z.few in
    omega (arith, length-take-le z.len z.items (omega arith))

-- ---- zeros to one slot

pub zero_skipped : (m keep i : ℕ) (u : Meaning) → i ≡ keep → Completed (zero_slot m keep i) u u
zero_skipped m keep i u e = subst (λ (q : Bool). Completed (cond q [] (device.store (i % m) (i / m) zero_block ∷ [])) u u) (sym (eq-eqb i keep e)) refl

pub zero_done : (m keep i : ℕ) (u t : Meaning) → (i ≡ keep → ⊥) → Accepted (device.store (i % m) (i / m) zero_block) u t → Completed (zero_slot m keep i) u t
zero_done m keep i u t e d = subst (λ (q : Bool). Completed (cond q [] (device.store (i % m) (i / m) zero_block ∷ [])) u t) (sym (ne_eqb i keep e)) (t, d, refl)

pub zero_stopped : (m keep i : ℕ) (u : Meaning) (f : Refusal) (t : Meaning) → (i ≡ keep → ⊥) → Rejected (device.store (i % m) (i / m) zero_block) u f t → Stopped (zero_slot m keep i) u f t
zero_stopped m keep i u f t e d = subst (λ (q : Bool). Stopped (cond q [] (device.store (i % m) (i / m) zero_block ∷ [])) u f t) (sym (ne_eqb i keep e)) (inl d)

-- ---- unions

bounded_fits : (ss : List ℕ) → rising 0 ss ≡ true → is_some (bounded ss) ≡ leb (length ss) 64
bounded_fits ss up =
    elim (leb (length ss) 64) as (λ b. is_some (cond (b && rising 0 ss) (Some ss) None) ≡ b) [ true ↦ ap (λ (q : Bool). is_some (cond q (Some ss) None)) up | false ↦ refl ]

held_some : (o : Option StripeSet) → is_some o ≡ is_some (held o)
held_some None = refl
held_some (Some z) = refl

-- a set of both exists just where they are at most 64
pub union_fits : (o : Option StripeSet) (ss : List ℕ) → held o ≡ bounded ss → rising 0 ss ≡ true → is_some o ≡ leb (length ss) 64
union_fits o ss e up = held_some o ∙ ap is_some e ∙ bounded_fits ss up

pub union_is : (z : StripeSet) (ss : List ℕ) → Some (stripes z) ≡ bounded ss → stripes z ≡ ss
union_is z ss e =
    elim (cases_Bool (leb (length ss) 64 && rising 0 ss)) [
      | inl t ↦ (let q : Some (stripes z) ≡ Some ss = e ∙ cond-true (leb (length ss) 64 && rising 0 ss) (Some ss) None t in cc)
      | inr t ↦ absurd (some≢none (e ∙ cond-false (leb (length ss) 64 && rising 0 ss) (Some ss) None t))
    ]

-- the refusal where there is no set of both
pub unfit : (o : Option StripeSet) (e d : LogRefusal) → Err d ≡ ok_or o e → d ≡ e
unfit None e d h = ap (λ (q : Result StripeSet LogRefusal). elim q [ Ok z ↦ e | Err y ↦ y ]) h
unfit (Some z) e d h = ap (λ (q : Result StripeSet LogRefusal). elim q [ Ok z ↦ e | Err y ↦ y ]) h

pub fits_answer : (on is_list answer fit : Bool) → on ≡ true → is_list ≡ true → answer ≡ fit → ◌≡◌ {A = Result Bool LogRefusal} (Ok answer) (cond on (Ok (is_list && fit)) (Err Off))
fits_answer on is_list answer fit e f q =
    ap Ok (q ∙ sym (ap (λ (z : Bool). z && fit) f)) ∙ sym (cond-true on (Ok (is_list && fit)) (Err Off) e)

-- ---- the list of a blank, piece by piece

standing_list : (m mm cnt keep : ℕ) (b : Option (ℕ × Contents)) → mm ≡ m → present b ≡ true → keep ≡ slot_or cnt b → ◌≡◌ {A = List DeviceCall} (device.store (keep % mm) (keep / mm) zero_block ∷ device.barrier ∷ []) (zero_standing m b)
standing_list m mm cnt keep None em pr ek = absurd (false≢true pr)
standing_list m mm cnt keep (Some x) em pr ek =
    ap (λ (i : ℕ). device.store (i % mm) (i / mm) zero_block ∷ device.barrier ∷ []) ek ∙ ap (λ (z : ℕ). device.store (x.0 % z) (x.0 / z) zero_block ∷ device.barrier ∷ []) em

nothing_more : (m : ℕ) (x : Option (ℕ × Contents)) → present x ≡ false → zero_standing m x ≡ []
nothing_more m None e = refl
nothing_more m (Some x) e = absurd (false≢true (sym e))

module _ (s : Meaning) (b : Option (ℕ × Contents)) (mm cnt keep : ℕ) (em : mm ≡ s.members) (ec : cnt ≡ slots s.members s.blocks) (ek : keep ≡ slot_or cnt b) where
  abbrev firsts : List DeviceCall
  firsts = for_each (zero_slot s.members (slot_or (slots s.members s.blocks) b)) (slots s.members s.blocks)

  firsts_same : for_each (zero_slot mm keep) cnt ≡ firsts
  firsts_same =
      ap (λ (k : ℕ). for_each (zero_slot mm k) cnt) (ek ∙ ap (λ (n : ℕ). slot_or n b) ec)
      ∙ ap (λ (m : ℕ). for_each (zero_slot m (slot_or (slots s.members s.blocks) b)) cnt) em
      ∙ ap (for_each (zero_slot s.members (slot_or (slots s.members s.blocks) b))) ec

  pub blank_first : (e : Refusal) (t : Meaning) → Stopped (for_each (zero_slot mm keep) cnt) s e t → Stopped (blank_calls s.members s.blocks b) s e t
  blank_first e t h = stopped_first firsts (device.barrier ∷ zero_standing s.members b) s e t (subst (λ (os : List DeviceCall). Stopped os s e t) firsts_same h)

  module _ (u : Meaning) (d : Completed (for_each (zero_slot mm keep) cnt) s u) where
    done_firsts : Completed firsts s u
    done_firsts = subst (λ (os : List DeviceCall). Completed os s u) firsts_same d

    pub blank_bar : (e : Refusal) (t : Meaning) → Rejected device.barrier u e t → Stopped (blank_calls s.members s.blocks b) s e t
    blank_bar e t h = stopped_then firsts (device.barrier ∷ zero_standing s.members b) s u e t done_firsts (inl h)

    module _ (v : Meaning) (k : Accepted device.barrier u v) where
      pub blank_none : present b ≡ false → Completed (blank_calls s.members s.blocks b) s v
      blank_none e = completed_then firsts (device.barrier ∷ zero_standing s.members b) s u v done_firsts (v, k, subst (λ (os : List DeviceCall). Completed os v v) (sym (nothing_more s.members b e)) refl)

      pub blank_stop : present b ≡ true → (e : Refusal) (t : Meaning) → Stopped (device.store (keep % mm) (keep / mm) zero_block ∷ device.barrier ∷ []) v e t → Stopped (blank_calls s.members s.blocks b) s e t
      blank_stop pr e t h = stopped_then firsts (device.barrier ∷ zero_standing s.members b) s u e t done_firsts (inr (v, k, subst (λ (os : List DeviceCall). Stopped os v e t) (standing_list s.members mm cnt keep b em pr ek) h))

      pub blank_all : present b ≡ true → (t : Meaning) → Completed (device.store (keep % mm) (keep / mm) zero_block ∷ device.barrier ∷ []) v t → Completed (blank_calls s.members s.blocks b) s t
      blank_all pr t h = completed_then firsts (device.barrier ∷ zero_standing s.members b) s u t done_firsts (v, k, subst (λ (os : List DeviceCall). Completed os v t) (standing_list s.members mm cnt keep b em pr ek) h)

-- ---- the reads of a power-on

pub reads_same : (s : Meaning) (mm cnt : ℕ) → mm ≡ s.members → cnt ≡ slots s.members s.blocks → for_each (read_slot mm) cnt ≡ for_each (read_slot s.members) (slots s.members s.blocks)
reads_same s mm cnt em ec = ap (λ (m : ℕ). for_each (read_slot m) cnt) em ∙ ap (for_each (read_slot s.members)) ec
