-- Properties of every call of a list. Assumes nothing.
use Rattle.std.proofs.Common.{◌≡◌, ℕ, zero, suc, ◌<◌, List, [], ◌∷◌, ◌++◌, sym, subst, inl, inr, arith}
use native.Mathlib.Decide.{ℕ_discrete}
use Rattle.device_calls.specs.Lists.{DeviceCall, read, store, barrier, for_each}
use Rattle.device_calls.specs.Effects.{Every, Spares, Reading, Writes, Written}

pub every_then : (P : DeviceCall → Type 0) (xs ys : List DeviceCall) → Every P xs → Every P ys → Every P (xs ++ ys)
every_then P [] ys a b = b
every_then P (x ∷ xs) ys a b = (a.0, every_then P xs ys a.1 b)

pub every_first : (P : DeviceCall → Type 0) (xs ys : List DeviceCall) → Every P (xs ++ ys) → Every P xs
every_first P [] ys a = tt
every_first P (x ∷ xs) ys a = (a.0, every_first P xs ys a.1)

pub every_second : (P : DeviceCall → Type 0) (xs ys : List DeviceCall) → Every P (xs ++ ys) → Every P ys
every_second P [] ys a = a
every_second P (x ∷ xs) ys a = every_second P xs ys a.1

pub every_for_each : (P : DeviceCall → Type 0) (f : ℕ → List DeviceCall) (n : ℕ) → ((j : ℕ) → j < n → Every P (f j)) → Every P (for_each f n)
every_for_each P f zero h = tt
every_for_each P f (suc n) h = every_then P (for_each f n) (f n) (every_for_each P f n (λ j l. h j (omega arith))) (h n (omega arith))

pub every_turn : (P : DeviceCall → Type 0) (f : ℕ → List DeviceCall) (n j : ℕ) → j < n → Every P (for_each f n) → Every P (f j)
every_turn P f zero j l h = absurd (omega arith)
every_turn P f (suc n) j l h = at_last (λ k. every_turn P f n j k (every_first P (for_each f n) (f n) h)) (ℕ_discrete j n)
  where
    at_last : (j < n → Every P (f j)) → Dec (j ≡ n) → Every P (f j)
    at_last k (yes e) = subst (λ (i : ℕ). Every P (f i)) (sym e) (every_second P (for_each f n) (f n) h)
    at_last k (no e) = k (omega arith)

pub every_weaker : (P Q : DeviceCall → Type 0) → ((o : DeviceCall) → P o → Q o) → (os : List DeviceCall) → Every P os → Every Q os
every_weaker P Q f [] h = tt
every_weaker P Q f (o ∷ os) h = (f o h.0, every_weaker P Q f os h.1)

-- a read stores nothing
pub reading_spares : (m b : ℕ) (o : DeviceCall) → Reading o → Spares m b o
reading_spares m b (read i j) h = tt
reading_spares m b (store i j x) h = elim h [ ]
reading_spares m b barrier h = tt

writes_not : (m b : ℕ) (v : List ℕ) (o : DeviceCall) → Spares m b o → Writes o m b v → ⊥
writes_not m b v (read i j) h k = k
writes_not m b v (store i j x) h k = h (k.0, k.1)
writes_not m b v barrier h k = k

-- what every call spares is not written
pub written_not : (m b : ℕ) (v : List ℕ) (os : List DeviceCall) → Every (Spares m b) os → Written os m b v → ⊥
written_not m b v [] h k = k
written_not m b v (o ∷ os) h (inl k) = writes_not m b v o h.0 k
written_not m b v (o ∷ os) h (inr k) = written_not m b v os h.1 k
