-- A blank, whole and cut: from its device calls to what the log means then.
use Rattle.std.proofs.Common.{◌≡◌, ℕ, zero, suc, ◌+◌, ◌/◌, ◌%◌, ◌<◌, ◌≤◌, Bool, true, false, cond, ◌&&◌, eqb, ◌⊎◌, List, [], ◌∷◌, IfOk, Some, None, Ok, Err, Option, Result, sym, refl, ap, ◌∙◌, subst, inl, inr, ⊎_elim, add-one, arith}
use Rattle.std.proofs.lemmas.Bool.{cases_eq, cases_order, and_right, and_from, and_parts, both_ways, eqb-true, eqb-false}
use Rattle.std.specs.Result as results
use Rattle.member_store.specs.Meaning.{Meaning, current, Version, HasBlock}
use Rattle.member_store.specs.Refusals.{IsPowerOff}
use Rattle.member_store.specs.Calls.{SameCounts, Stored, Barred, checks, barrier_checks}
use Rattle.member_store.specs.declared.refusal.Refusal.{Refusal}
use Rattle.member_store.proofs.Checks.{passing}
use Rattle.device_calls.specs.Lists as device
use Rattle.device_calls.specs.Lists.{Completed, Stopped, Rejected, for_each}
use Rattle.device_calls.proofs.Append.{completed_split, stopped_split, for_each_split}
use Rattle.device_calls.proofs.Left.{still_has, counts_then}
use Rattle.device_calls.proofs.Refusals.{CurrentStands, went}
use Rattle.record.specs.Contents.{Contents}
use Rattle.record.specs.Reading.{recorded}
use Rattle.intent_log.specs.Meaning.{Standing}
use Rattle.intent_log.specs.Refusals.{PowerWent}
use Rattle.intent_log.specs.Calls.{ChangeDone, CutShort, NamesNothing, Blanks, power_checks}
use Rattle.intent_log.specs.Devices.{Makes, MakesChange}
use Rattle.intent_log.specs.declared.refusal.LogRefusal.{LogRefusal}
use Rattle.intent_log.proofs.Changes.{refused_went, makes_passed}
use Rattle.ring_log.specs.Slots.{slots}
use Rattle.ring_log.specs.Highest.{highest, slot_or}
use Rattle.ring_log.specs.Ring.{slot_record, standing_of, stands_in, ring, Steady, Sound}
use Rattle.ring_log.specs.Own.{zero_block, zero_slot, zero_standing, blank_calls, standing, OwnBlank}
use Rattle.ring_log.specs.HighestLemmas.{highest_thin, highest_empty, stands_from}
use Rattle.ring_log.specs.Places.{place, apart}
use Rattle.ring_log.specs.Puts.{Choice, choice_from, ring_same, steady_single, steady_same}

no_record : recorded zero_block ≡ None
unfolding recorded
no_record = refl

-- zeros in some slots, not in `keep`
abbrev pub Loose : Meaning → ℕ → Meaning → Type 0
Loose s keep t = (j : ℕ) (v : List ℕ) → j < slots s.members s.blocks → Version t (j % s.members) (j / s.members) v → (v ≡ current s (j % s.members) (j / s.members)) ⊎ ((v ≡ zero_block) × (j ≡ keep → ⊥))

-- zeros in all slots, but perhaps not in `keep`
abbrev pub Last : Meaning → ℕ → Meaning → Type 0
Last s keep t = (j : ℕ) (v : List ℕ) → j < slots s.members s.blocks → Version t (j % s.members) (j / s.members) v → (v ≡ zero_block) ⊎ ((v ≡ current s (j % s.members) (j / s.members)) × (j ≡ keep))

pub record Zeroing (s : Meaning) (keep i : ℕ) (t : Meaning) : Type 0 where
  pub on : t.on ≡ true
  pub sized : SameCounts s t
  pub each : Loose s keep t
  pub done : (j : ℕ) → j < i → j < slots s.members s.blocks → (j ≡ keep → ⊥) → current t (j % s.members) (j / s.members) ≡ zero_block
  pub held : keep < slots s.members s.blocks → current t (keep % s.members) (keep / s.members) ≡ current s (keep % s.members) (keep / s.members)

module _ (s : Meaning) (b : Option (ℕ × Contents)) (keep : ℕ) (l : 1 ≤ s.members) (on : s.on ≡ true) (st : Steady s.members s.blocks s b) (at : keep ≡ slot_or (slots s.members s.blocks) b) where
  abbrev m : ℕ
  m = s.members

  abbrev n : ℕ
  n = slots s.members s.blocks

  pub zero_start : Zeroing s keep 0 s
  zero_start = record {
    on = on;
    sized = record { members = refl; blocks = refl };
    each = λ j v h q. inl (st.single j v h q);
    done = λ j h. absurd (omega arith);
    held = λ _. refl;
  }

  pub zero_skip : (t : Meaning) (i : ℕ) → i ≡ keep → Zeroing s keep i t → Zeroing s keep (i + 1) t
  zero_skip t i e w = record {
    on = w.on;
    sized = w.sized;
    each = w.each;
    done = λ j h k d. w.done j (elim (cases_order j i) [ inl q ↦ absurd (d (q ∙ e)) | inr q ↦ elim q [ inl r ↦ r | inr r ↦ absurd (omega arith) ] ]) k d;
    held = w.held;
  }

  loose_store : (t u : Meaning) (i : ℕ) → SameCounts s t → Loose s keep t → (i ≡ keep → ⊥) → ((p q : ℕ) (v : List ℕ) → HasBlock t p q → Version u p q v → Version t p q v ⊎ ((p ≡ i % m) × (q ≡ i / m) × (v ≡ zero_block))) → Loose s keep u
  loose_store t u i z w d f j v h q =
      ⊎_elim (λ k. w j v h k) (λ k. let e : j ≡ i = elim (cases_eq j i) [ inl r ↦ r | inr r ↦ absurd (apart m j i r (k.0, k.1)) ] in inr (k.2, λ r. d (sym e ∙ r))) (f (j % m) (j / m) v (still_has _ _ (j % m) (j / m) z (place m s.blocks j l h)) q)

  pub zero_more : (t u : Meaning) (i : ℕ) → i < n → (i ≡ keep → ⊥) → Zeroing s keep i t → Stored t (i % m) (i / m) zero_block u → Zeroing s keep (i + 1) u
  zero_more t u i below d w k = record {
    on = k.on;
    sized = counts_then _ _ _ w.sized k.sized;
    each = loose_store t u i w.sized w.each d k.former;
    done = λ j h q r. elim (cases_eq j i) [ inl e ↦ ap (λ (x : ℕ). current u (x % m) (x / m)) e ∙ k.here | inr e ↦ k.elsewhere (j % m) (j / m) (still_has _ _ (j % m) (j / m) w.sized (place m s.blocks j l q)) (apart m j i e) ∙ w.done j (elim (cases_order j i) [ inl x ↦ absurd (e x) | inr x ↦ elim x [ inl y ↦ y | inr y ↦ absurd (omega arith) ] ]) q r ];
    held = λ h. k.elsewhere (keep % m) (keep / m) (still_has _ _ (keep % m) (keep / m) w.sized (place m s.blocks keep l h)) (apart m keep i (λ e. d (sym e))) ∙ w.held h;
  }

  -- what stood before still stands
  loose_highest : (u : Meaning) → Loose s keep u → (d : ℕ → Option Contents) → Choice s.members s.blocks u d → highest d n ≡ stands_in s.members s.blocks s
  loose_highest u f d c =
      let each : (j : ℕ) → j < n → (d j ≡ slot_record m s j) ⊎ ((d j ≡ None) × (j ≡ keep → ⊥)) = λ j h. let e = c.each j h in ⊎_elim (λ k. inl (e.1.1 ∙ ap recorded k)) (λ k. inr (e.1.1 ∙ ap recorded k.0 ∙ no_record, k.1)) (f j e.0 h e.1.0) in
      elim b as (λ z. b ≡ z → highest d n ≡ stands_in s.members s.blocks s) [
        | None ↦ λ e. let none = stands_from (slot_record m s) n None (sym st.same ∙ e) in highest_empty d n (λ j h. ⊎_elim (λ k. k ∙ none j h) (λ k. k.0) (each j h)) ∙ sym e ∙ st.same
        | Some x ↦ λ e. let is : stands_in s.members s.blocks s ≡ Some (x.0, x.1) = sym st.same ∙ e in let top = stands_from (slot_record m s) n (Some (x.0, x.1)) is in let kx : keep ≡ x.0 = at ∙ ap (slot_or n) e in highest_thin (slot_record m s) d n x.0 x.1 is (λ j h. ⊎_elim inl (λ k. inr k.0) (each j h)) (⊎_elim (λ k. k) (λ k. absurd (k.1 (sym kx))) (each x.0 top.below)) ∙ sym is
      ] refl

  -- it stands, or nothing does
  last_highest : (u : Meaning) → Last s keep u → (d : ℕ → Option Contents) → Choice s.members s.blocks u d → (highest d n ≡ stands_in s.members s.blocks s) ⊎ (highest d n ≡ None)
  last_highest u f d c =
      let each : (j : ℕ) → j < n → (d j ≡ None) ⊎ ((d j ≡ slot_record m s j) × (j ≡ keep)) = λ j h. let e = c.each j h in ⊎_elim (λ k. inl (e.1.1 ∙ ap recorded k ∙ no_record)) (λ k. inr (e.1.1 ∙ ap recorded k.0, k.1)) (f j e.0 h e.1.0) in
      elim b as (λ z. b ≡ z → (highest d n ≡ stands_in s.members s.blocks s) ⊎ (highest d n ≡ None)) [
        | None ↦ λ e. let none = stands_from (slot_record m s) n None (sym st.same ∙ e) in inr (highest_empty d n (λ j h. ⊎_elim (λ k. k) (λ k. k.0 ∙ none j h) (each j h)))
        | Some x ↦ λ e. let is : stands_in s.members s.blocks s ≡ Some (x.0, x.1) = sym st.same ∙ e in let top = stands_from (slot_record m s) n (Some (x.0, x.1)) is in let kx : keep ≡ x.0 = at ∙ ap (slot_or n) e in ⊎_elim (λ k. inr (highest_empty d n (λ j h. ⊎_elim (λ q. q) (λ q. ap d (q.1 ∙ kx) ∙ k) (each j h)))) (λ k. inl (highest_thin (slot_record m s) d n x.0 x.1 is (λ j h. ⊎_elim inr (λ q. inl q.0) (each j h)) k.0 ∙ sym is)) (each x.0 top.below)
      ] refl

  abbrev Old : Standing → Type 0
  Old c = (c ≡ standing_of (stands_in s.members s.blocks s)) ⊎ ((c.stands ≡ false) × NamesNothing c)

  cut_by : (u : Meaning) (a a' : Bool) → u.on ≡ false → SameCounts s u → CurrentStands u → ((d : ℕ → Option Contents) → Choice s.members s.blocks u d → (highest d n ≡ stands_in s.members s.blocks s) ⊎ (highest d n ≡ None)) → CutShort Old (ring a s) (ring a' u)
  cut_by u a a' off z law f =
      subst (CutShort Old (ring a s)) (sym (ring_same s u a' z)) (record {
        off = and_right a' u.on off;
        same_size = refl;
        holds = λ c h. let q = choice_from s.members s.blocks a' u l (λ i j k. law i j (still_has _ _ i j z k)) c h in subst Old (sym q.1.1) (⊎_elim (λ e. inl (ap standing_of e)) (λ e. inr (ap (λ x. (standing_of x).stands) e, λ i. ap (λ x. (standing_of x).names i) e)) (f q.0 q.1.0));
      })

  module _ (a a' : Bool) where
    passes : (t : Meaning) (i : ℕ) → t.on ≡ true → SameCounts s t → i < n → checks t (i % m) (i / m) 512 ≡ None
    passes t i o z h = let p = still_has _ _ (i % m) (i / m) z (place m s.blocks i l h) in passing t.on t.members t.blocks (i % m) (i / m) 512 (record { on = o; member = p.0; block = p.1; long = refl })

    zeroed : (i : ℕ) (t : Meaning) → i ≤ n → Completed (for_each (zero_slot m keep) i) s t → Zeroing s keep i t
    zeroed zero t h d = subst (Zeroing s keep 0) (sym d) zero_start
    zeroed (suc i) t h d =
        let p = completed_split (for_each (zero_slot m keep) i) (zero_slot m keep i) s t d in
        let u = p.0 in
        let w = zeroed i u (omega arith) p.1 in
        let go : (q : Bool) → eqb i keep ≡ q → Completed (cond q [] (device.store (i % m) (i / m) zero_block ∷ [])) u t → Zeroing s keep (i + 1) t =
        λ q. elim q as (λ z. eqb i keep ≡ z → Completed (cond z [] (device.store (i % m) (i / m) zero_block ∷ [])) u t → Zeroing s keep (i + 1) t) [
          | true ↦ λ e k. subst (Zeroing s keep (i + 1)) (sym k) (zero_skip u i (eqb-true i keep e) w)
          | false ↦ λ e k. subst (Zeroing s keep (i + 1)) (sym k.2) (zero_more u k.0 i (omega arith) (eqb-false i keep e) w k.1.1)
        ] in
        subst (λ (j : ℕ). Zeroing s keep j t) (add-one i) (go (eqb i keep) refl p.2)

    zero_cut : (e : Refusal) (t : Meaning) → Stopped (for_each (zero_slot m keep) n) s e t → CurrentStands t → IsPowerOff e × CutShort Old (ring a s) (ring a' t)
    zero_cut e t h law =
        let p = for_each_split (zero_slot m keep) n s e t h in
        let i = p.0 in
        let below : i < n = p.1 in
        let u = p.2 in
        let w = zeroed i u (omega arith) p.3 in
        let go : (q : Bool) → eqb i keep ≡ q → Stopped (cond q [] (device.store (i % m) (i / m) zero_block ∷ [])) u e t → IsPowerOff e × CutShort Old (ring a s) (ring a' t) =
        λ q. elim q as (λ z. eqb i keep ≡ z → Stopped (cond z [] (device.store (i % m) (i / m) zero_block ∷ [])) u e t → IsPowerOff e × CutShort Old (ring a s) (ring a' t)) [
          | true ↦ λ f k. elim k [ ]
          | false ↦ λ f k. elim k [
            | inl c ↦ (let g = went _ _ _ e (passes u i w.on w.sized below) c in
                (g.0, cut_by t a a' g.1.off (counts_then _ _ _ w.sized g.1.sized) law (λ x y. inl (loose_highest t (loose_store u t i w.sized w.each (eqb-false i keep f) g.1.former) x y))))
            | inr c ↦ elim c.2 [ ]
          ]
        ] in
        go (eqb i keep) refl p.4

    bar_cut : (t u : Meaning) (e : Refusal) → Zeroing s keep n t → Rejected device.barrier t e u → CurrentStands u → IsPowerOff e × CutShort Old (ring a s) (ring a' u)
    bar_cut t u e w h law =
        let q = went _ _ (barrier_checks t) e (simp w.on) h in
        (q.0, cut_by u a a' q.1.off (counts_then _ _ _ w.sized q.1.sized) law (λ x c. inl (loose_highest u (λ j v k r. w.each j v k (q.1.former (j % m) (j / m) v (still_has _ _ (j % m) (j / m) w.sized (place m s.blocks j l k)) r)) x c)))

    -- after the first barrier
    barred : (t u : Meaning) → Zeroing s keep n t → Barred t u → Last s keep u
    barred t u w k j v h q =
        let p = still_has _ _ (j % m) (j / m) w.sized (place m s.blocks j l h) in
        let e : v ≡ current t (j % m) (j / m) = k.only (j % m) (j / m) v p q in
        ⊎_elim (λ r. inr (e ∙ ap (λ (x : ℕ). current t (x % m) (x / m)) r ∙ w.held (subst (λ (x : ℕ). x < n) r h) ∙ ap (λ (x : ℕ). current s (x % m) (x / m)) (sym r), r)) (λ r. inl (e ∙ w.done j h h r)) (cases_eq j keep)

    last_store : (t u : Meaning) → SameCounts s t → Last s keep t → ((p q : ℕ) (v : List ℕ) → HasBlock t p q → Version u p q v → Version t p q v ⊎ ((p ≡ keep % m) × (q ≡ keep / m) × (v ≡ zero_block))) → Last s keep u
    last_store t u z w f j v h q = ⊎_elim (λ k. w j v h k) (λ k. inl k.2) (f (j % m) (j / m) v (still_has _ _ (j % m) (j / m) z (place m s.blocks j l h)) q)

    last_cut : (t u v : Meaning) (e : Refusal) → keep < n → Zeroing s keep n t → Barred t u → Stopped (device.store (keep % m) (keep / m) zero_block ∷ device.barrier ∷ []) u e v → CurrentStands v → IsPowerOff e × CutShort Old (ring a s) (ring a' v)
    last_cut t u v e below w k (inl h) law =
        let z = counts_then _ _ _ w.sized k.sized in
        let q = went _ _ _ e (passes u keep k.on z below) h in
        (q.0, cut_by v a a' q.1.off (counts_then _ _ _ z q.1.sized) law (last_highest v (last_store u v z (barred t u w k) q.1.former)))
    last_cut t u v e below w k (inr h) law =
        let z = counts_then _ _ _ w.sized k.sized in
        let y = h.0 in
        let o = h.1.1 in
        let f = last_store u y z (barred t u w k) o.former in
        let zz = counts_then _ _ _ z o.sized in
        ⊎_elim
        (λ r. let q = went _ _ (barrier_checks y) e (simp o.on) r in
        (q.0, cut_by v a a' q.1.off (counts_then _ _ _ zz q.1.sized) law (last_highest v (λ j c d g. f j c d (q.1.former (j % m) (j / m) c (still_has _ _ (j % m) (j / m) zz (place m s.blocks j l d)) g)))))
        (λ r. elim r.2 [ ])
        h.2

    -- all slots are zeros, and barred
    blanked : (x : Meaning) → ((j : ℕ) → j < n → current x (j % m) (j / m) ≡ zero_block) → ((j : ℕ) (v : List ℕ) → j < n → Version x (j % m) (j / m) v → v ≡ current x (j % m) (j / m)) → Steady s.members s.blocks x None
    blanked x f g = record {
      wide = st.wide;
      single = g;
      same = sym (highest_empty (slot_record m x) n (λ j h. ap recorded (f j h) ∙ no_record));
    }

    -- no record stood: the first barrier ends it
    ends_none : (t u : Meaning) → n ≤ keep → Zeroing s keep n t → Barred t u → SameCounts s u × Steady s.members s.blocks u None
    ends_none t u out w k =
        let pl : (j : ℕ) → j < n → HasBlock t (j % m) (j / m) = λ j h. still_has _ _ (j % m) (j / m) w.sized (place m s.blocks j l h) in
        let z = counts_then _ _ _ w.sized k.sized in
        (z, blanked u (λ j h. k.same (j % m) (j / m) (pl j h) ∙ w.done j h h (λ e. omega arith)) (λ j v h q. k.only (j % m) (j / m) v (pl j h) q ∙ sym (k.same (j % m) (j / m) (pl j h))))

    ends_some : (t u v x : Meaning) → Zeroing s keep n t → Barred t u → Stored u (keep % m) (keep / m) zero_block v → Barred v x → SameCounts s x × Steady s.members s.blocks x None
    ends_some t u v x w k o r =
        let zt = w.sized in
        let zu = counts_then _ _ _ zt k.sized in
        let zv = counts_then _ _ _ zu o.sized in
        let zx = counts_then _ _ _ zv r.sized in
        let pl : (j : ℕ) → j < n → HasBlock s (j % m) (j / m) = λ j q. place m s.blocks j l q in
        (zx, blanked x (λ j q. r.same (j % m) (j / m) (still_has _ _ (j % m) (j / m) zv (pl j q)) ∙ elim (cases_eq j keep) [ inl e ↦ ap (λ (g : ℕ). current v (g % m) (g / m)) e ∙ o.here | inr e ↦ o.elsewhere (j % m) (j / m) (still_has _ _ (j % m) (j / m) zu (pl j q)) (apart m j keep e) ∙ k.same (j % m) (j / m) (still_has _ _ (j % m) (j / m) zt (pl j q)) ∙ w.done j q q e ]) (λ j c q g. r.only (j % m) (j / m) c (still_has _ _ (j % m) (j / m) zv (pl j q)) g ∙ sym (r.same (j % m) (j / m) (still_has _ _ (j % m) (j / m) zv (pl j q)))))

    pub blank_whole : (x : Meaning) → a' ≡ true → x.on ≡ true → SameCounts s x → CurrentStands x → Steady s.members s.blocks x None → ChangeDone (λ c. (c.stands ≡ false) × NamesNothing c) (ring a s) (ring a' x)
    blank_whole x ea o z law h =
        subst (ChangeDone (λ c. (c.stands ≡ false) × NamesNothing c) (ring a s)) (sym (ring_same s x a' z)) (record {
          on = and_from a' x.on ea o;
          same_size = refl;
          single = steady_single s.members s.blocks a' x None l (λ i j k. law i j (still_has _ _ i j z k)) h;
          holds = (ap (λ y. (standing_of y).stands) (sym h.same), λ i. ap (λ y. (standing_of y).names i) (sym h.same));
        })

-- the whole list, by what stood
pub blank_cut : (s : Meaning) (b : Option (ℕ × Contents)) (a a' : Bool) (l : 1 ≤ s.members) (on : s.on ≡ true) (st : Steady s.members s.blocks s b) (e : Refusal) (t : Meaning) → Stopped (blank_calls s.members s.blocks b) s e t → CurrentStands t → IsPowerOff e × CutShort (λ c. (c ≡ standing_of (stands_in s.members s.blocks s)) ⊎ ((c.stands ≡ false) × NamesNothing c)) (ring a s) (ring a' t)
blank_cut s None a a' l on st e t h law =
    let n : ℕ = slots s.members s.blocks in
    elim (stopped_split (for_each (zero_slot s.members n) n) (device.barrier ∷ []) s e t h) [
      | inl k ↦ zero_cut s None n l on st refl a a' e t k law
      | inr k ↦ (let w = zeroed s None n l on st refl a a' n k.0 (omega arith) k.1 in
          elim k.2 [ inl c ↦ bar_cut s None n l on st refl a a' k.0 t e w c law | inr c ↦ elim c.2 [ ] ])
    ]
blank_cut s (Some x) a a' l on st e t h law =
    let n : ℕ = slots s.members s.blocks in
    let top = stands_from (slot_record s.members s) n (Some x) (sym st.same) in
    elim (stopped_split (for_each (zero_slot s.members x.0) n) (device.barrier ∷ zero_standing s.members (Some x)) s e t h) [
      | inl k ↦ zero_cut s (Some x) x.0 l on st refl a a' e t k law
      | inr k ↦ (let w = zeroed s (Some x) x.0 l on st refl a a' n k.0 (omega arith) k.1 in
          elim k.2 [ inl c ↦ bar_cut s (Some x) x.0 l on st refl a a' k.0 t e w c law | inr c ↦ last_cut s (Some x) x.0 l on st refl a a' k.0 c.0 t e top.below w c.1.1 c.2 law ])
    ]

pub blank_done : (s : Meaning) (b : Option (ℕ × Contents)) (a a' : Bool) (l : 1 ≤ s.members) (on : s.on ≡ true) (st : Steady s.members s.blocks s b) (t : Meaning) → Completed (blank_calls s.members s.blocks b) s t → (t.on ≡ true) × (SameCounts s t × Steady s.members s.blocks t None)
blank_done s None a a' l on st t h =
    let n : ℕ = slots s.members s.blocks in
    let k = completed_split (for_each (zero_slot s.members n) n) (device.barrier ∷ []) s t h in
    let w = zeroed s None n l on st refl a a' n k.0 (omega arith) k.1 in
    let c = k.2 in
    let r = ends_none s None n l on st refl a a' k.0 c.0 (omega arith) w c.1.1 in
    subst (λ (x : Meaning). (x.on ≡ true) × (SameCounts s x × Steady s.members s.blocks x None)) (sym c.2) (c.1.1.on, r)
blank_done s (Some x) a a' l on st t h =
    let n : ℕ = slots s.members s.blocks in
    let k = completed_split (for_each (zero_slot s.members x.0) n) (device.barrier ∷ zero_standing s.members (Some x)) s t h in
    let w = zeroed s (Some x) x.0 l on st refl a a' n k.0 (omega arith) k.1 in
    let c = k.2 in
    let d = c.2 in
    let f = d.2 in
    let r = ends_some s (Some x) x.0 l on st refl a a' k.0 c.0 d.0 f.0 w c.1.1 d.1.1 f.1.1 in
    subst (λ (y : Meaning). (y.on ≡ true) × (SameCounts s y × Steady s.members s.blocks y None)) (sym f.2) (f.1.1.on, r)

-- ---- what a blank comes to

abbrev Ends : Bool → Bool → Meaning → Result (Unit {0}) LogRefusal → Meaning → Type 0
Ends a a' s x t =
    results.MatchResult x (λ _. (t.on ≡ true) × (SameCounts s t × Steady s.members s.blocks t None))
    (λ e. PowerWent e × CutShort (λ c. (c ≡ standing_of (stands_in s.members s.blocks s)) ⊎ ((c.stands ≡ false) × NamesNothing c)) (ring a s) (ring a' t))

-- A blank of a log that is on: the store below, whether it is awake and what it keeps in memory, before and after.
pub record Blank (s : Meaning) (a : Bool) (b : Option (ℕ × Contents)) (x : Result (Unit {0}) LogRefusal) (t : Meaning) (a' : Bool) (b' : Option (ℕ × Contents)) : Type 0 where
  pub some : 1 ≤ s.members
  pub law : CurrentStands t
  pub on : (a && s.on) ≡ true
  pub awake : a' ≡ a
  pub calls : Makes (blank_calls s.members s.blocks b) s x t
  pub memory : IfOk x (λ _. b' ≡ None)

module _ {s t : Meaning} {a a' : Bool} {b b' : Option (ℕ × Contents)} {x : Result (Unit {0}) LogRefusal} (p : Blank s a b x t a' b') (h : Sound a s b) where
  powered : s.on ≡ true
  powered = (and_parts a s.on p.on).1

  ends_by : (q : Result (Unit {0}) LogRefusal) → Makes (blank_calls s.members s.blocks b) s q t → Ends a a' s q t
  ends_by (Ok u) d = blank_done s b a a' p.some powered (h p.on) t d
  ends_by (Err e) d = let q = blank_cut s b a a' p.some powered (h p.on) d.0 t d.1.1 p.law in (subst PowerWent (sym d.1.0) q.0, q.1)

  sound_by : (q : Result (Unit {0}) LogRefusal) → Ends a a' s q t → IfOk q (λ _. b' ≡ None) → Sound a' t b'
  sound_by (Ok u) w m = λ _. steady_same s t b' w.1.0 (subst (Steady s.members s.blocks t) (sym m) w.1.1)
  sound_by (Err e) w m = λ o. absurd (both_ways (a' && t.on) w.1.off o)

  pub blank_sound : Sound a' t b'
  blank_sound = sound_by x (ends_by x p.calls) p.memory

  means_by : (q : Result (Unit {0}) LogRefusal) → Ends a a' s q t → Blanks (ring a s) q (ring a' t)
  means_by (Ok u) w = (simp p.on, blank_whole s b (slot_or (slots s.members s.blocks) b) p.some powered (h p.on) refl a a' t (p.awake ∙ (and_parts a s.on p.on).0) w.0 w.1.0 p.law w.1.1)
  means_by (Err e) w = refused_went (power_checks (ring a s)) e (ring a' t ≡ ring a s) _ (simp p.on) w.0 w.1

  pub blank_means : Blanks (ring a s) x (ring a' t)
  blank_means = means_by x (ends_by x p.calls)

  stands_by : (q : Result (Unit {0}) LogRefusal) → Ends a a' s q t → IfOk q (λ _. standing t ≡ None)
  stands_by (Ok u) w = sym (steady_same s t None w.1.0 w.1.1).same
  stands_by (Err e) w = tt

  pub blank_own : OwnBlank a s x t
  blank_own =
      subst (λ (z : Option (ℕ × Contents)). MakesChange (power_checks (ring a s)) (blank_calls s.members s.blocks z) (standing t ≡ None) s x t) (h p.on).same
      (makes_passed (power_checks (ring a s)) (blank_calls s.members s.blocks b) (standing t ≡ None) s x t (simp p.on) p.calls (stands_by x (ends_by x p.calls)))
