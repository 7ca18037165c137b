-- What lists of device calls leave: counts, power, current bytes and versions. Assumes nothing.
use Rattle.std.proofs.Common.{◌≡◌, ℕ, ◌<◌, Bool, true, false, ◌⊎◌, List, [], ◌∷◌, ◌++◌, Some, None, Option, sym, refl, ap, ◌∙◌, subst, inl, inr, ⊎_elim}
use Rattle.member_store.specs.Meaning.{Meaning, Version, current, HasBlock}
use Rattle.member_store.specs.Calls.{SameCounts, Cut, CutStore, checks, barrier_checks}
use Rattle.member_store.specs.Refusals.{IsPowerOff, off_at, off_at_barrier}
use Rattle.member_store.specs.declared.refusal.Refusal.{Refusal}
use Rattle.member_store.proofs.Checks.{passed, passing}
use Rattle.member_store.proofs.Refusals.{refused_cases}
use Rattle.std.proofs.lemmas.Option.{none-some}
use Rattle.device_calls.specs.Lists.{DeviceCall, read, store, barrier, Accepted, Rejected, Completed, Stopped}
use Rattle.device_calls.specs.Effects.{Every, InRange, Spares, Reading, Writes, Written, Gains, CutShort}

pub counts_refl : (s : Meaning) → SameCounts s s
counts_refl s = record { members = refl; blocks = refl }

pub counts_then : (s t u : Meaning) → SameCounts s t → SameCounts t u → SameCounts s u
counts_then s t u h k = record { members = k.members ∙ h.members; blocks = k.blocks ∙ h.blocks }

counts_same : (s t : Meaning) → t ≡ s → SameCounts s t
counts_same s t e = subst (λ u. SameCounts s u) (sym e) (counts_refl s)

-- a block of the store before is one of the store after, and the reverse
pub still_has : (s t : Meaning) (m b : ℕ) → SameCounts s t → HasBlock s m b → HasBlock t m b
still_has s t m b h p = (subst (λ (n : ℕ). m < n) (sym h.members) p.0, subst (λ (n : ℕ). b < n) (sym h.blocks) p.1)

pub had : (s t : Meaning) (m b : ℕ) → SameCounts s t → HasBlock t m b → HasBlock s m b
had s t m b h p = (subst (λ (n : ℕ). m < n) h.members p.0, subst (λ (n : ℕ). b < n) h.blocks p.1)

-- one call that was accepted

accepted_counts : (o : DeviceCall) (s t : Meaning) → Accepted o s t → SameCounts s t
accepted_counts (read m b) s t d = counts_same s t d.1
accepted_counts (store m b x) s t d = d.1.sized
accepted_counts barrier s t d = d.1.sized

accepted_on : (o : DeviceCall) (s t : Meaning) → s.on ≡ true → Accepted o s t → t.on ≡ true
accepted_on (read m b) s t h d = ap (λ u. u.on) d.1 ∙ h
accepted_on (store m b x) s t h d = d.1.on
accepted_on barrier s t h d = d.1.on

accepted_spares : (o : DeviceCall) (s t : Meaning) (m b : ℕ) → HasBlock s m b → Spares m b o → Accepted o s t → current t m b ≡ current s m b
accepted_spares (read i j) s t m b p q d = ap (λ u. current u m b) d.1
accepted_spares (store i j x) s t m b p q d = d.1.elsewhere m b p q
accepted_spares barrier s t m b p q d = d.1.same m b p

accepted_gains : (o : DeviceCall) (s t : Meaning) (m b : ℕ) → HasBlock s m b → (v : List ℕ) → Accepted o s t → Version t m b v → Version s m b v ⊎ Writes o m b v
accepted_gains (read i j) s t m b p v d h = inl (subst (λ u. Version u m b v) d.1 h)
accepted_gains (store i j x) s t m b p v d h = d.1.former m b v p h
accepted_gains barrier s t m b p v d h = inl (d.1.former m b v p h)

passed_range : (s : Meaning) (m b : ℕ) → checks s m b 512 ≡ None → HasBlock s m b
passed_range s m b h = let p = passed s.on s.members s.blocks m b 512 h in (p.member, p.block)

accepted_range : (o : DeviceCall) (s t : Meaning) → Accepted o s t → InRange s o
accepted_range (read m b) s t d = passed_range s m b d.0
accepted_range (store m b x) s t d = passed_range s m b d.0
accepted_range barrier s t d = tt

range_still : (o : DeviceCall) (s t : Meaning) → SameCounts s t → InRange s o → InRange t o
range_still (read m b) s t h f = still_has s t m b h f
range_still (store m b x) s t h f = still_has s t m b h f
range_still barrier s t h f = tt

range_was : (o : DeviceCall) (s t : Meaning) → SameCounts s t → InRange t o → InRange s o
range_was (read m b) s t h f = had s t m b h f
range_was (store m b x) s t h f = had s t m b h f
range_was barrier s t h f = tt

pub every_range_still : (os : List DeviceCall) (s t : Meaning) → SameCounts s t → Every (InRange s) os → Every (InRange t) os
every_range_still [] s t h f = tt
every_range_still (o ∷ os) s t h f = (range_still o s t h f.0, every_range_still os s t h f.1)

pub every_range_was : (os : List DeviceCall) (s t : Meaning) → SameCounts s t → Every (InRange t) os → Every (InRange s) os
every_range_was [] s t h f = tt
every_range_was (o ∷ os) s t h f = (range_was o s t h f.0, every_range_was os s t h f.1)

-- a list that was completed

pub completed_counts : (os : List DeviceCall) (s t : Meaning) → Completed os s t → SameCounts s t
completed_counts [] s t d = counts_same s t d
completed_counts (o ∷ os) s t d = counts_then s d.0 t (accepted_counts o s d.0 d.1) (completed_counts os d.0 t d.2)

pub completed_on : (os : List DeviceCall) (s t : Meaning) → s.on ≡ true → Completed os s t → t.on ≡ true
completed_on [] s t h d = ap (λ u. u.on) d ∙ h
completed_on (o ∷ os) s t h d = completed_on os d.0 t (accepted_on o s d.0 h d.1) d.2

pub completed_range : (os : List DeviceCall) (s t : Meaning) → Completed os s t → Every (InRange s) os
completed_range [] s t d = tt
completed_range (o ∷ os) s t d = (accepted_range o s d.0 d.1, every_range_was os s d.0 (accepted_counts o s d.0 d.1) (completed_range os d.0 t d.2))

pub completed_spares : (os : List DeviceCall) (s t : Meaning) (m b : ℕ) → HasBlock s m b → Every (Spares m b) os → Completed os s t → current t m b ≡ current s m b
completed_spares [] s t m b p q d = ap (λ u. current u m b) d
completed_spares (o ∷ os) s t m b p q d =
    completed_spares os d.0 t m b (still_has s d.0 m b (accepted_counts o s d.0 d.1) p) q.1 d.2 ∙ accepted_spares o s d.0 m b p q.0 d.1

-- a version of what one call left, which the rest of a list was performed on
before : (o : DeviceCall) (os : List DeviceCall) (s u : Meaning) (m b : ℕ) (v : List ℕ) → HasBlock s m b → Accepted o s u → Version u m b v ⊎ Written os m b v → Version s m b v ⊎ Written (o ∷ os) m b v
before o os s u m b v p d (inl k) = ⊎_elim inl (λ l. inr (inl l)) (accepted_gains o s u m b p v d k)
before o os s u m b v p d (inr k) = inr (inr k)

pub completed_gains : (os : List DeviceCall) (s t : Meaning) → Completed os s t → Gains os s t
completed_gains [] s t d m b v p h = inl (subst (λ u. Version u m b v) d h)
completed_gains (o ∷ os) s t d m b v p h =
    before o os s d.0 m b v p d.1 (completed_gains os d.0 t d.2 m b v (still_has s d.0 m b (accepted_counts o s d.0 d.1) p) h)

pub completed_last : (xs ys : List DeviceCall) (s t : Meaning) (m b : ℕ) (x : List ℕ) → Every (Spares m b) ys → Completed (xs ++ store m b x ∷ ys) s t → current t m b ≡ x
completed_last [] ys s t m b x q d =
    let p = still_has s d.0 m b d.1.1.sized (passed_range s m b d.1.0) in
    completed_spares ys d.0 t m b p q d.2 ∙ d.1.1.here
completed_last (o ∷ xs) ys s t m b x q d = completed_last xs ys d.0 t m b x q d.2

pub completed_barred : (os : List DeviceCall) (s t : Meaning) (m b : ℕ) (v : List ℕ) → HasBlock s m b → Completed (os ++ barrier ∷ []) s t → Version t m b v → v ≡ current t m b
completed_barred [] s t m b v p d h =
    let k : Version d.0 m b v = subst (λ u. Version u m b v) d.2 h in
    d.1.1.only m b v p k ∙ sym (d.1.1.same m b p) ∙ sym (ap (λ u. current u m b) d.2)
completed_barred (o ∷ os) s t m b v p d h = completed_barred os d.0 t m b v (still_has s d.0 m b (accepted_counts o s d.0 d.1) p) d.2 h

pub completed_reading : (os : List DeviceCall) (s t : Meaning) → Every Reading os → Completed os s t → t ≡ s
completed_reading [] s t q d = d
completed_reading (read m b ∷ os) s t q d = completed_reading os d.0 t q.1 d.2 ∙ d.1.1
completed_reading (store m b x ∷ os) s t q d = elim q.0 [ ]
completed_reading (barrier ∷ os) s t q d = elim q.0 [ ]

-- one call that was refused: power went in it, or its checks failed and nothing changed

module _ (s : Meaning) (e : Refusal) (t : Meaning) where
  abbrev Cases : Option Refusal → Type 0 → Type 0
  Cases c went = ((c ≡ None) × went) ⊎ ((c ≡ Some e) × (t ≡ s))

  rejected_read : (m b : ℕ) → Rejected (read m b) s e t → Cases (checks s m b 512) ((e ≡ off_at m b) × Cut s t)
  rejected_read m b d = refused_cases (checks s m b 512) e (t ≡ s) ((e ≡ off_at m b) × Cut s t) d

  rejected_store : (m b : ℕ) (x : List ℕ) → Rejected (store m b x) s e t → Cases (checks s m b 512) (IsPowerOff e × CutStore s m b x t)
  rejected_store m b x d = refused_cases (checks s m b 512) e (t ≡ s) (IsPowerOff e × CutStore s m b x t) d

  rejected_barrier : Rejected barrier s e t → Cases (barrier_checks s) (IsPowerOff e × Cut s t)
  rejected_barrier d = refused_cases (barrier_checks s) e (t ≡ s) (IsPowerOff e × Cut s t) d

  rejected_counts : (o : DeviceCall) → Rejected o s e t → SameCounts s t
  rejected_counts (read m b) d = ⊎_elim (λ c. c.1.1.sized) (λ c. counts_same s t c.1) (rejected_read m b d)
  rejected_counts (store m b x) d = ⊎_elim (λ c. c.1.1.sized) (λ c. counts_same s t c.1) (rejected_store m b x d)
  rejected_counts barrier d = ⊎_elim (λ c. c.1.1.sized) (λ c. counts_same s t c.1) (rejected_barrier d)

  rejected_gains : (o : DeviceCall) (m b : ℕ) (v : List ℕ) → HasBlock s m b → Rejected o s e t → Version t m b v → Version s m b v ⊎ Writes o m b v
  rejected_gains (read i j) m b v p d h = ⊎_elim (λ c. inl (c.1.1.former m b v p h)) (λ c. inl (subst (λ u. Version u m b v) c.1 h)) (rejected_read i j d)
  rejected_gains (store i j x) m b v p d h = ⊎_elim (λ c. c.1.1.former m b v p h) (λ c. inl (subst (λ u. Version u m b v) c.1 h)) (rejected_store i j x d)
  rejected_gains barrier m b v p d h = ⊎_elim (λ c. inl (c.1.1.former m b v p h)) (λ c. inl (subst (λ u. Version u m b v) c.1 h)) (rejected_barrier d)

  -- where the checks failed and the store has the block, power was off already
  was_off : (m b : ℕ) → HasBlock s m b → checks s m b 512 ≡ Some e → (q : Bool) → s.on ≡ q → (s.on ≡ false) × (e ≡ off_at m b)
  was_off m b p h true on = absurd (none-some e (sym (passing s.on s.members s.blocks m b 512 (record { on = on; member = p.0; block = p.1; long = refl })) ∙ h))
  was_off m b p h false on = (on, some_same (sym h ∙ simp on))
    where
      some_same : Some e ≡ Some (off_at m b) → e ≡ off_at m b
      some_same k = cc

  barrier_off : barrier_checks s ≡ Some e → (q : Bool) → s.on ≡ q → (s.on ≡ false) × (e ≡ off_at_barrier)
  barrier_off h true on = absurd (none-some e (simp on at h))
  barrier_off h false on = (on, some_same (sym h ∙ simp on))
    where
      some_same : Some e ≡ Some off_at_barrier → e ≡ off_at_barrier
      some_same k = cc

  abbrev Off : Type 0
  Off = (t.on ≡ false) × IsPowerOff e

  stayed_off : (f : Refusal) → IsPowerOff f → t ≡ s → (s.on ≡ false) × (e ≡ f) → Off
  stayed_off f i k h = (ap (λ u. u.on) k ∙ h.0, subst IsPowerOff (sym h.1) i)

  rejected_off : (o : DeviceCall) → InRange s o → Rejected o s e t → Off
  rejected_off (read m b) p d =
      ⊎_elim (λ c. (c.1.1.off, subst IsPowerOff (sym c.1.0) tt)) (λ c. stayed_off (off_at m b) tt c.1 (was_off m b p c.0 s.on refl)) (rejected_read m b d)
  rejected_off (store m b x) p d =
      ⊎_elim (λ c. (c.1.1.off, c.1.0)) (λ c. stayed_off (off_at m b) tt c.1 (was_off m b p c.0 s.on refl)) (rejected_store m b x d)
  rejected_off barrier p d =
      ⊎_elim (λ c. (c.1.1.off, c.1.0)) (λ c. stayed_off off_at_barrier tt c.1 (barrier_off c.0 s.on refl)) (rejected_barrier d)

-- a list that was stopped

stopped_counts : (os : List DeviceCall) (s : Meaning) (e : Refusal) (t : Meaning) → Stopped os s e t → SameCounts s t
stopped_counts [] s e t d = elim d [ ]
stopped_counts (o ∷ os) s e t (inl d) = rejected_counts s e t o d
stopped_counts (o ∷ os) s e t (inr d) = counts_then s d.0 t (accepted_counts o s d.0 d.1) (stopped_counts os d.0 e t d.2)

stopped_gains : (os : List DeviceCall) (s : Meaning) (e : Refusal) (t : Meaning) → Stopped os s e t → Gains os s t
stopped_gains [] s e t d m b v p h = elim d [ ]
stopped_gains (o ∷ os) s e t (inl d) m b v p h = ⊎_elim inl (λ k. inr (inl k)) (rejected_gains s e t o m b v p d h)
stopped_gains (o ∷ os) s e t (inr d) m b v p h =
    before o os s d.0 m b v p d.1 (stopped_gains os d.0 e t d.2 m b v (still_has s d.0 m b (accepted_counts o s d.0 d.1) p) h)

stopped_off : (os : List DeviceCall) (s : Meaning) (e : Refusal) (t : Meaning) → Every (InRange s) os → Stopped os s e t → (t.on ≡ false) × IsPowerOff e
stopped_off [] s e t f d = elim d [ ]
stopped_off (o ∷ os) s e t f (inl d) = rejected_off s e t o f.0 d
stopped_off (o ∷ os) s e t f (inr d) = stopped_off os d.0 e t (every_range_still os s d.0 (accepted_counts o s d.0 d.1) f.1) d.2

pub cut_short : (os : List DeviceCall) (s : Meaning) (e : Refusal) (t : Meaning) → Stopped os s e t → CutShort (Every (InRange s) os) os s e t
cut_short os s e t d = record {
  counts = stopped_counts os s e t d;
  gains = stopped_gains os s e t d;
  off = λ f. (stopped_off os s e t f d).0;
  told = λ f. (stopped_off os s e t f d).1;
}

-- under another premise, and with a list that writes the same or more
pub cut_weaker : (P Q : Type 0) (xs ys : List DeviceCall) (s : Meaning) (e : Refusal) (t : Meaning) → (Q → P) → ((m b : ℕ) (v : List ℕ) → Written xs m b v → Written ys m b v) → CutShort P xs s e t → CutShort Q ys s e t
cut_weaker P Q xs ys s e t f g h = record {
  counts = h.counts;
  gains = λ m b v p k. ⊎_elim inl (λ w. inr (g m b v w)) (h.gains m b v p k);
  off = λ q. h.off (f q);
  told = λ q. h.told (f q);
}

pub cut_reading : (os : List DeviceCall) (s : Meaning) (e : Refusal) (t : Meaning) → Every Reading os → Stopped os s e t → (t ≡ s) ⊎ Cut s t
cut_reading [] s e t q d = elim d [ ]
cut_reading (read m b ∷ os) s e t q (inl d) = ⊎_elim (λ c. inr c.1.1) (λ c. inl c.1) (rejected_read s e t m b d)
cut_reading (read m b ∷ os) s e t q (inr d) = subst (λ u. (t ≡ u) ⊎ Cut u t) d.1.1 (cut_reading os d.0 e t q.1 d.2)
cut_reading (store m b x ∷ os) s e t q d = elim q.0 [ ]
cut_reading (barrier ∷ os) s e t q d = elim q.0 [ ]
