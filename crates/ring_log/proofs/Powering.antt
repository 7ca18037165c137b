-- Power-on, whole and cut.
use Rattle.std.proofs.Common.{◌≡◌, ℕ, ◌+◌, ◌/◌, ◌%◌, ◌<◌, ◌≤◌, Bool, true, false, ◌&&◌, ltb, List, length, Some, None, Err, Option, Result, sym, refl, ap, ◌∙◌, subst, inl, inr, add-one}
use Rattle.std.proofs.lemmas.Bool.{and_left, le-ltb, cond-false}
use Rattle.std.specs.Option as options
use Rattle.member_store.specs.Meaning.{Meaning, current, Version, HasBlock, In}
use Rattle.member_store.specs.Refusals.{IsPowerOff, off_at}
use Rattle.member_store.specs.Calls.{SameCounts, Cut, PoweredOn, Reads, Refused, checks}
use Rattle.member_store.specs.declared.refusal.Refusal.{Refusal}
use Rattle.member_store.proofs.Checks.{passing}
use Rattle.device_calls.specs.Lists.{DeviceCall, Completed, Stopped, for_each}
use Rattle.device_calls.proofs.Left.{still_has, counts_then}
use Rattle.device_calls.proofs.Refusals.{CurrentStands, went, off_is_power}
use Rattle.record.specs.Contents.{Contents}
use Rattle.record.specs.Reading.{recorded}
use Rattle.intent_log.specs.Meaning.{Standing, MayStand}
use Rattle.intent_log.specs.Calls.{ChangeDone, CutShort, size_checks}
use Rattle.intent_log.specs.Devices.{Makes}
use Rattle.intent_log.specs.declared.refusal.LogRefusal.{LogRefusal}
use Rattle.intent_log.proofs.Changes.{map_in}
use Rattle.ring_log.specs.Slots.{slots}
use Rattle.ring_log.specs.Highest.{highest, candidates, better, at_slot, higher_of}
use Rattle.ring_log.specs.Ring.{slot_record, slot_records, standing_of, ring_on, ring, Steady}
use Rattle.ring_log.specs.Own.{read_slot, OwnPower}
use Rattle.ring_log.specs.HighestLemmas.{chosen_in}
use Rattle.ring_log.proofs.Making.{reads_same}
use Rattle.ring_log.specs.Places.{place}
use Rattle.ring_log.specs.Puts.{Choice, ring_same, choice_from, steady_single, steady_same}

-- a choice may stand
pub choice_stands : (m b : ℕ) (a : Bool) (s : Meaning) (d : ℕ → Option Contents) → Choice m b s d → MayStand (ring_on m b a s) (standing_of (highest d (slots m b)))
choice_stands m b a s d c =
    inr (map_in standing_of (highest d (slots m b)) (candidates (slot_records m s) (slots m b)) (chosen_in (slot_records m s) (slots m b) d (λ i l. let e = c.each i l in subst (λ o. In o (slot_records m s i)) (sym e.1.1) (map_in recorded e.0 (s.versions (i % m) (i / m)) e.1.0))))

-- one slot more
pub highest_more : (m : ℕ) (t : Meaning) (i : ℕ) (b o : Option (ℕ × Contents)) → b ≡ highest (slot_record m t) i → o ≡ at_slot i (slot_record m t i) → higher_of b o ≡ highest (slot_record m t) (i + 1)
unfolding highest
highest_more m t i b o e f =
    let g : (q : Option Contents) → higher_of (highest (slot_record m t) i) (at_slot i q) ≡ better (highest (slot_record m t) i) i q = λ q. elim q as (λ z. higher_of (highest (slot_record m t) i) (at_slot i z) ≡ better (highest (slot_record m t) i) i z) [ None ↦ refl | Some r ↦ refl ] in
    ap (λ z. higher_of z o) e ∙ ap (higher_of (highest (slot_record m t) i)) f ∙ g (slot_record m t i) ∙ ap (highest (slot_record m t)) (sym (add-one i))

pub highest_start : (m : ℕ) (t : Meaning) → None ≡ highest (slot_record m t) 0
unfolding highest
highest_start m t = refl

module _ (s t : Meaning) (a : Bool) (mm bb cnt : ℕ) (em : mm ≡ s.members) (eb : bb ≡ s.blocks) (ec : cnt ≡ slots mm bb) (l : 1 ≤ s.members) (wide : 2 ≤ cnt) (p : PoweredOn s t) where
  abbrev m : ℕ
  m = s.members

  abbrev n : ℕ
  n = slots s.members s.blocks

  count : cnt ≡ n
  count = ec ∙ ap (λ (x : ℕ). slots x bb) em ∙ ap (λ (x : ℕ). slots s.members x) eb

  wide_enough : 2 ≤ n
  wide_enough = subst (λ (x : ℕ). 2 ≤ x) count wide

  pub wide_enough_checks : size_checks (ring a s).too_small ≡ None
  wide_enough_checks = ap size_checks (cond-false (ltb n 2) _ _ (le-ltb n 2 wide_enough))

  -- what may stand after is what might before
  within : (u : Meaning) → SameCounts s u → ((i j : ℕ) (v : List ℕ) → HasBlock s i j → Version u i j v → v ≡ current t i j) → CurrentStands u → (a' : Bool) (c : Standing) → MayStand (ring_on s.members s.blocks a' u) c → MayStand (ring a s) c
  within u z f law a' c h =
      let q = choice_from s.members s.blocks a' u l (λ i j k. law i j (still_has _ _ i j z k)) c h in
      subst (MayStand (ring a s)) (sym q.1.1) (choice_stands s.members s.blocks a s q.0 (record {
        each = λ i k. let e = q.1.0.each i k in let w = place m s.blocks i l k in (e.0, (subst (Version s (i % m) (i / m)) (sym (f (i % m) (i / m) e.0 w e.1.0)) (p.picked (i % m) (i / m) w), e.1.1));
      }))

  pub power_cut : (u : Meaning) (a' : Bool) → a' ≡ false → Cut t u → CurrentStands u → CutShort (MayStand (ring a s)) (ring a s) (ring a' u)
  power_cut u a' ea c law =
      let z = counts_then _ _ _ p.sized c.sized in
      subst (CutShort (MayStand (ring a s)) (ring a s)) (sym (ring_same s u a' z)) (record {
        off = and_left a' u.on ea;
        same_size = refl;
        holds = λ x h. within u z (λ i j v k q. p.only i j v k (c.former i j v (still_has _ _ i j p.sized k) q)) law a' x h;
      })

  steady : (kept : Option (ℕ × Contents)) → kept ≡ highest (slot_record m t) n → Steady s.members s.blocks t kept
  steady kept e = record {
    wide = wide_enough;
    single = λ i v h q. p.only (i % m) (i / m) v (place m s.blocks i l h) q;
    same = e;
  }

  same_highest : (kept : Option (ℕ × Contents)) (i : ℕ) → kept ≡ highest (slot_record mm t) i → i ≡ cnt → kept ≡ highest (slot_record m t) n
  same_highest kept i e f = e ∙ ap (λ (x : ℕ). highest (slot_record x t) i) em ∙ ap (highest (slot_record m t)) (f ∙ count)

  pub power_sound : (kept : Option (ℕ × Contents)) (i : ℕ) → kept ≡ highest (slot_record mm t) i → i ≡ cnt → Steady t.members t.blocks t kept
  power_sound kept i e f = steady_same s t kept p.sized (steady kept (same_highest kept i e f))

  pub power_whole : (kept : Option (ℕ × Contents)) (i : ℕ) (a' : Bool) → a' ≡ true → kept ≡ highest (slot_record mm t) i → i ≡ cnt → CurrentStands t → ChangeDone (MayStand (ring a s)) (ring a s) (ring a' t)
  power_whole kept i a' ea e f law =
      subst (ChangeDone (MayStand (ring a s)) (ring a s)) (sym (ring_same s t a' p.sized)) (record {
        on = subst (λ q. (q && t.on) ≡ true) (sym ea) p.on;
        same_size = refl;
        single = steady_single s.members s.blocks a' t kept l (λ x y k. law x y (still_has _ _ x y p.sized k)) (steady kept (same_highest kept i e f));
        holds = within t p.sized p.only law a' _ (inl refl);
      })

  -- a read in which power went
  pub read_cut : (i : ℕ) (e : Refusal) (old new : List ℕ) (u v : Meaning) → i < cnt → v ≡ t → length old ≡ 512 → Reads {U = Unit {0}} v (i % mm) (i / mm) old (Err e) new u → IsPowerOff e × Cut t u
  read_cut i e old new u v h ev long r =
      let k : i < n = subst (λ (x : ℕ). i < x) count h in
      let q = place m s.blocks i l k in
      let pl = still_has _ _ (i % m) (i / m) p.sized q in
      let pass : checks t (i % m) (i / m) (length old) ≡ None = passing t.on t.members t.blocks (i % m) (i / m) (length old) (record { on = p.on; member = pl.0; block = pl.1; long = long }) in
      let r1 = subst (λ (x : ℕ). Reads {U = Unit {0}} v (i % x) (i / x) old (Err e) new u) em r in
      let r2 = subst (λ x. Reads {U = Unit {0}} x (i % m) (i / m) old (Err e) new u) ev r1 in
      let g = went _ _ _ e pass r2.1 in (off_is_power e _ _ g.0, g.1)

  -- the device calls, in their order
  pub power_own : (x : Result (Unit {0}) LogRefusal) (u : Meaning) → Makes (for_each (read_slot mm) cnt) t x u → OwnPower a s x u
  power_own x u h =
      subst (λ (o : Option LogRefusal). options.MatchOption o ((w : Meaning) × (PoweredOn s w × Makes (for_each (read_slot s.members) n) w x u)) (λ d. (x ≡ Err d) × (u ≡ s))) (sym wide_enough_checks)
      (t, (p, subst (λ (os : List DeviceCall). Makes os t x u) (reads_same s mm cnt em count) h))

-- one read
pub read_done : (mm i : ℕ) (w u : Meaning) (old : List ℕ) → length old ≡ 512 → checks w (i % mm) (i / mm) (length old) ≡ None → u ≡ w → Completed (read_slot mm i) w u
read_done mm i w u old long c e = (u, (subst (λ (k : ℕ). checks w (i % mm) (i / mm) k ≡ None) long c, e), refl)

pub read_stopped : (mm i : ℕ) (w u : Meaning) (e : Refusal) (old : List ℕ) → length old ≡ 512 → Refused (checks w (i % mm) (i / mm) (length old)) e (u ≡ w) ((e ≡ off_at (i % mm) (i / mm)) × Cut w u) → Stopped (read_slot mm i) w e u
read_stopped mm i w u e old long h =
    inl (subst (λ (k : ℕ). Refused (checks w (i % mm) (i / mm) k) e (u ≡ w) ((e ≡ off_at (i % mm) (i / mm)) × Cut w u)) long h)
