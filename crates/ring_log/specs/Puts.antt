-- A put, whole and cut: from its device calls to what the log means then.
use Rattle.std.specs.Prelude.{◌≡◌, ℕ, ◌/◌, ◌%◌, ◌<◌, ◌≤◌, Bool, true, false, ◌&&◌, ◌⊎◌, List, Some, Ok, Err, Option, Result, ◌≢◌, refl}
use Rattle.std.proofs.Common.{sym, ap, subst, ◌∙◌, inl, inr, ⊎_elim, mod-lt, arith}
use Rattle.std.proofs.lemmas.Bool.{cases_eq, and_right, and_from}
use Rattle.std.specs.Result as results
use Rattle.member_store.specs.Meaning.{Meaning, current, Version, HasBlock}
use Rattle.member_store.specs.Refusals.{IsPowerOff}
use Rattle.member_store.specs.Calls.{SameCounts, Cut, CutStore, Stored, Barred, barrier_checks}
use Rattle.member_store.specs.declared.refusal.Refusal.{Refusal}
use Rattle.member_store.proofs.Checks.{passing}
use Rattle.device_calls.specs.Lists.{Completed, Stopped}
use Rattle.device_calls.proofs.Left.{still_has, counts_then}
use Rattle.device_calls.proofs.Refusals.{CurrentStands, went}
use Rattle.record.specs.Contents.{Contents}
use Rattle.record.specs.Form.{block}
use Rattle.record.specs.Reading.{recorded}
use Rattle.intent_log.specs.Meaning.{Standing, MayStand, listed}
use Rattle.intent_log.specs.Refusals.{PowerWent}
use Rattle.intent_log.specs.Calls.{ChangeDone, CutShort, fresh_checks}
use Rattle.intent_log.specs.Devices.{Makes}
use Rattle.intent_log.specs.declared.refusal.LogRefusal.{LogRefusal}
use Rattle.intent_log.proofs.Changes.{in_map}
use Rattle.ring_log.specs.Slots.{slots, slot_for}
use Rattle.ring_log.specs.Highest.{highest, candidates, version_of, present}
use Rattle.ring_log.specs.Ring.{slot_record, slot_records, standing_of, stands_in, ring_on, ring, Steady, Sound}
use Rattle.ring_log.specs.Own.{put_record, put_calls}
use Rattle.ring_log.specs.HighestLemmas.{highest_same, highest_put, chosen_from}
use Rattle.ring_log.specs.Places.{place, apart}

-- every choice among what the slots may hold
pub record Choice (m b : ℕ) (s : Meaning) (d : ℕ → Option Contents) : Type 0 where
  pub each : (i : ℕ) → i < slots m b → (v : List ℕ) × (Version s (i % m) (i / m) v × (d i ≡ recorded v))

-- a put of r in which power went: what stood before stands, or r
pub record CutPut (s : Meaning) (r : Contents) (t : Meaning) : Type 0 where
  pub off : t.on ≡ false
  pub sized : SameCounts s t
  pub either : (d : ℕ → Option Contents) → Choice s.members s.blocks t d → (highest d (slots s.members s.blocks) ≡ stands_in s.members s.blocks s) ⊎ (highest d (slots s.members s.blocks) ≡ put_record s.members s.blocks r)

-- a whole put of r: just r stands
pub record WholePut (s : Meaning) (r : Contents) (t : Meaning) : Type 0 where
  pub on : t.on ≡ true
  pub sized : SameCounts s t
  pub steady : Steady s.members s.blocks t (put_record s.members s.blocks r)

abbrev pub Puts : Meaning → Contents → Result (Unit {0}) LogRefusal → Meaning → Type 0
Puts s r e t = results.MatchResult e (λ _. WholePut s r t) (λ x. PowerWent x × CutPut s r t)

module _ (s : Meaning) (k : ℕ) (x : List ℕ) (r : Contents) (kept : Option (ℕ × Contents)) (l : 1 ≤ s.members) (st : Steady s.members s.blocks s kept) (below : k < slots s.members s.blocks) (reads : recorded x ≡ Some r) (up : version_of kept < r.version) where
  abbrev m : ℕ
  m = s.members

  abbrev n : ℕ
  n = slots s.members s.blocks

  higher : version_of (stands_in s.members s.blocks s) < r.version
  higher = subst (λ b. version_of b < r.version) st.same up

  -- one slot of a choice
  each : (t : Meaning) → ((i j : ℕ) (v : List ℕ) → HasBlock s i j → Version t i j v → Version s i j v ⊎ ((i ≡ k % m) × (j ≡ k / m) × (v ≡ x))) → (d : ℕ → Option Contents) → Choice s.members s.blocks t d → (i : ℕ) → i < n → (d i ≡ slot_record m s i) ⊎ ((i ≡ k) × (d i ≡ Some r))
  each t f d c i h =
      let e = c.each i h in
      let p = place m s.blocks i l h in
      ⊎_elim
      (λ a. inl (e.1.1 ∙ ap recorded (st.single i e.0 h a)))
      (λ a. inr (⊎_elim (λ q. q) (λ q. absurd (apart m i k q (a.0, a.1))) (cases_eq i k), e.1.1 ∙ ap recorded a.2 ∙ reads))
      (f (i % m) (i / m) e.0 p e.1.0)

  either : (t : Meaning) → ((i j : ℕ) (v : List ℕ) → HasBlock s i j → Version t i j v → Version s i j v ⊎ ((i ≡ k % m) × (j ≡ k / m) × (v ≡ x))) → (d : ℕ → Option Contents) → Choice s.members s.blocks t d → (highest d n ≡ stands_in s.members s.blocks s) ⊎ (highest d n ≡ Some (k, r))
  either t f d c =
      let other : (i : ℕ) → i < n → (i ≢ k) → d i ≡ slot_record m s i = λ i h q. ⊎_elim (λ e. e) (λ e. absurd (q e.0)) (each t f d c i h) in
      ⊎_elim
      (λ e. inl (highest_same (slot_record m s) d n (λ i h. ⊎_elim (λ q. ap d q ∙ e ∙ ap (slot_record m s) (sym q)) (other i h) (cases_eq i k))))
      (λ e. inr (highest_put (slot_record m s) d n k r below other e.1 higher))
      (each t f d c k below)

  cut_store : (t : Meaning) → CutStore s (k % m) (k / m) x t → k ≡ r.version % n → CutPut s r t
  cut_store t c e = record {
    off = c.off;
    sized = c.sized;
    either = λ d h. subst (λ j. (highest d n ≡ stands_in s.members s.blocks s) ⊎ (highest d n ≡ Some (j, r))) e (either t c.former d h);
  }

  cut_bar : (t u : Meaning) → Stored s (k % m) (k / m) x t → Cut t u → k ≡ r.version % n → CutPut s r u
  cut_bar t u a c e = record {
    off = c.off;
    sized = counts_then _ _ _ a.sized c.sized;
    either = λ d h. subst (λ j. (highest d n ≡ stands_in s.members s.blocks s) ⊎ (highest d n ≡ Some (j, r))) e (either u (λ i j v p q. a.former i j v p (c.former i j v (still_has _ _ i j a.sized p) q)) d h);
  }

  whole_put : (t u : Meaning) → Stored s (k % m) (k / m) x t → Barred t u → k ≡ r.version % n → WholePut s r u
  whole_put t u a c e =
      let pl : (i : ℕ) → i < n → HasBlock t (i % m) (i / m) = λ i h. still_has _ _ (i % m) (i / m) a.sized (place m s.blocks i l h) in
      let other : (i : ℕ) → i < n → (i ≢ k) → slot_record m u i ≡ slot_record m s i = λ i h q. ap recorded (c.same (i % m) (i / m) (pl i h) ∙ a.elsewhere (i % m) (i / m) (place m s.blocks i l h) (apart m i k q)) in
      let here : slot_record m u k ≡ Some r = ap recorded (c.same (k % m) (k / m) (pl k below) ∙ a.here) ∙ reads in
      record {
        on = c.on;
        sized = counts_then _ _ _ a.sized c.sized;
        steady = record {
          wide = st.wide;
          single = λ i v h q. c.only (i % m) (i / m) v (pl i h) q ∙ sym (c.same (i % m) (i / m) (pl i h));
          same = ap (λ (j : ℕ). Some (j, r)) (sym e) ∙ sym (highest_put (slot_record m s) (slot_record m u) n k r below other here higher);
        };
      }

-- the same from the list of device calls
module _ (s : Meaning) (r : Contents) (kept : Option (ℕ × Contents)) (l : 1 ≤ s.members) (on : s.on ≡ true) (st : Steady s.members s.blocks s kept) (reads : recorded (block r) ≡ Some r) (up : version_of kept < r.version) where
  abbrev at : ℕ
  at = slot_for s.members s.blocks r.version

  below : at < slots s.members s.blocks
  below = mod-lt r.version (let w = st.wide in omega arith)

  whole : (t : Meaning) → Completed (put_calls s.members s.blocks r) s t → WholePut s r t
  whole t d =
      let w = d.2.0 in
      subst (λ (m : Meaning). WholePut s r m) (sym d.2.2) (whole_put s at (block r) r kept l st below reads up d.0 w d.1.1 d.2.1.1 refl)

  cut : (e : Refusal) (t : Meaning) → Stopped (put_calls s.members s.blocks r) s e t → IsPowerOff e × CutPut s r t
  cut e t (inl h) =
      let p = place s.members s.blocks at l below in
      let q = went _ _ _ e (passing s.on s.members s.blocks (at % s.members) (at / s.members) 512 (record { on = on; member = p.0; block = p.1; long = refl })) h in
      (q.0, cut_store s at (block r) r kept l st below reads up t q.1 refl)
  cut e t (inr h) =
      let a = h.1.1 in
      ⊎_elim
      (λ b. let q = went _ _ (barrier_checks h.0) e (simp a.on) b in (q.0, cut_bar s at (block r) r kept l st below reads up h.0 t a q.1 refl))
      (λ b. elim b.2 [ ])
      h.2

  pub puts : (q : Result (Unit {0}) LogRefusal) (t : Meaning) → Makes (put_calls s.members s.blocks r) s q t → Puts s r q t
  puts (Ok u) t h = whole t h
  puts (Err e) t h = let q = cut h.0 t h.1.1 in (subst PowerWent (sym h.1.0) q.0, q.1)

-- what may stand comes from a choice
pub choice_from : (m b : ℕ) (a : Bool) (s : Meaning) → 1 ≤ m → ((i j : ℕ) → (i < m) × (j < b) → Version s i j (current s i j)) → (c : Standing) → MayStand (ring_on m b a s) c → (d : ℕ → Option Contents) × (Choice m b s d × (c ≡ standing_of (highest d (slots m b))))
choice_from m b a s l law c (inl e) = (slot_record m s, (record { each = λ i h. (current s (i % m) (i / m), (law (i % m) (i / m) (place m b i l h), refl)) }, e))
choice_from m b a s l law c (inr h) =
    let p = in_map standing_of c (candidates (slot_records m s) (slots m b)) h in
    let q = chosen_from (slot_records m s) (slots m b) p.0 p.1.0 in
    (q.0, (record { each = λ i k. in_map recorded (q.0 i) (s.versions (i % m) (i / m)) (q.1.0 i k) }, p.1.1 ∙ ap standing_of q.1.1))

-- the counts stay
pub ring_same : (s t : Meaning) (a : Bool) → SameCounts s t → ring a t ≡ ring_on s.members s.blocks a t
ring_same s t a z = ap (λ m. ring_on m t.blocks a t) z.members ∙ ap (λ b. ring_on s.members b a t) z.blocks

lawful_at : (s t : Meaning) → SameCounts s t → CurrentStands t → (i j : ℕ) → HasBlock s i j → Version t i j (current t i j)
lawful_at s t z law i j p = law i j (still_has _ _ i j z p)

-- in a steady ring just one thing may stand
pub steady_single : (m b : ℕ) (a : Bool) (t : Meaning) (kept : Option (ℕ × Contents)) → 1 ≤ m → ((i j : ℕ) → (i < m) × (j < b) → Version t i j (current t i j)) → Steady m b t kept → (c : Standing) → MayStand (ring_on m b a t) c → c ≡ standing_of (stands_in m b t)
steady_single m b a t kept l law st c h =
    let q = choice_from m b a t l law c h in
    q.1.1 ∙ ap standing_of (highest_same (slot_record m t) q.0 (slots m b) (λ i k. let e = q.1.0.each i k in e.1.1 ∙ ap recorded (st.single i e.0 k e.1.0)))

module _ (s t : Meaning) (a₀ a : Bool) (r : Contents) (l : 1 ≤ s.members) (law : CurrentStands t) where
  pub cut_short : (P : Standing → Type 0) → CutPut s r t → P (standing_of (stands_in s.members s.blocks s)) → P (standing_of (Some (r.version % slots s.members s.blocks, r))) → CutShort P (ring a₀ s) (ring a t)
  cut_short P c old new =
      subst (CutShort P (ring a₀ s)) (sym (ring_same s t a c.sized)) (record {
        off = and_right a t.on c.off;
        same_size = refl;
        holds = λ h k. let q = choice_from s.members s.blocks a t l (lawful_at s t c.sized law) h k in subst P (sym q.1.1) (⊎_elim (λ e. subst (λ b. P (standing_of b)) (sym e) old) (λ e. subst (λ b. P (standing_of b)) (sym e) new) (c.either q.0 q.1.0));
      })

  pub completed : (P : Standing → Type 0) → a ≡ true → WholePut s r t → P (standing_of (put_record s.members s.blocks r)) → ChangeDone P (ring a₀ s) (ring a t)
  completed P e c new =
      subst (ChangeDone P (ring a₀ s)) (sym (ring_same s t a c.sized)) (record {
        on = and_from a t.on e c.on;
        same_size = refl;
        single = steady_single s.members s.blocks a t _ l (lawful_at s t c.sized law) c.steady;
        holds = subst (λ b. P (standing_of b)) c.steady.same new;
      })

-- the counts stay
pub steady_same : (s t : Meaning) (kept : Option (ℕ × Contents)) → SameCounts s t → Steady s.members s.blocks t kept → Steady t.members t.blocks t kept
steady_same s t kept z h = subst (λ m. Steady m t.blocks t kept) (sym z.members) (subst (λ b. Steady s.members b t kept) (sym z.blocks) h)

-- what is kept in memory after a put of r
abbrev pub Remembers : Meaning → Contents → Option (ℕ × Contents) → Result (Unit {0}) LogRefusal → Option (ℕ × Contents) → Type 0
Remembers s r old q new = results.MatchResult q (λ _. new ≡ put_record s.members s.blocks r) (λ _. new ≡ old)

-- A put of r by a log that is on: the store below, whether it is awake and what it keeps in memory, before and after.
pub record Put (s : Meaning) (a : Bool) (b : Option (ℕ × Contents)) (r : Contents) (x : Result (Unit {0}) LogRefusal) (t : Meaning) (a' : Bool) (b' : Option (ℕ × Contents)) : Type 0 where
  pub some : 1 ≤ s.members
  pub law : CurrentStands t
  pub on : (a && s.on) ≡ true
  pub awake : a' ≡ a
  pub valid : recorded (block r) ≡ Some r
  pub calls : Makes (put_calls s.members s.blocks r) s x t
  pub memory : Remembers s r b x b'

-- The version that stands, where a list may be named in a record after it; else the refusal.
abbrev pub FollowsWith : Bool → Meaning → Option (ℕ × Contents) → List ℕ → Result ℕ LogRefusal → Type 0
FollowsWith a s b w q =
    results.MatchResult q (λ v. ((a && s.on) ≡ true) × (present b ≡ true) × (listed w ≡ true) × (v ≡ version_of b) × (v < 4294967294))
    (λ e. Sound a s b → fresh_checks (ring a s) w ≡ Some e)
