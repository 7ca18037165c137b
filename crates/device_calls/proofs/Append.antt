-- Lists of device calls, one after the other, and turn by turn. Assumes nothing.
use Rattle.std.proofs.Common.{◌≡◌, ℕ, zero, suc, ◌+◌, ◌<◌, ◌⊎◌, List, [], ◌∷◌, ◌++◌, Ok, Err, Result, refl, ap, ◌∙◌, subst, inl, inr, ⊎_elim, add-one, arith}
use native.Mathlib.Decide.{ℕ_discrete}
use Rattle.member_store.specs.Meaning.{Meaning}
use Rattle.member_store.specs.declared.refusal.Refusal.{Refusal}
use Rattle.device_calls.specs.Lists.{DeviceCall, Accepted, Completed, Stopped, Performs, for_each}

pub completed_then : (xs ys : List DeviceCall) (s u t : Meaning) → Completed xs s u → Completed ys u t → Completed (xs ++ ys) s t
completed_then [] ys s u t a b = subst (λ v. Completed ys v t) a b
completed_then (x ∷ xs) ys s u t a b = (a.0, a.1, completed_then xs ys a.0 u t a.2 b)

pub completed_split : (xs ys : List DeviceCall) (s t : Meaning) → Completed (xs ++ ys) s t → (u : Meaning) × Completed xs s u × Completed ys u t
completed_split [] ys s t d = (s, refl, d)
completed_split (x ∷ xs) ys s t d = let r = completed_split xs ys d.0 t d.2 in (r.0, (d.0, d.1, r.1), r.2)

pub stopped_first : (xs ys : List DeviceCall) (s : Meaning) (e : Refusal) (t : Meaning) → Stopped xs s e t → Stopped (xs ++ ys) s e t
stopped_first [] ys s e t a = elim a [ ]
stopped_first (x ∷ xs) ys s e t (inl a) = inl a
stopped_first (x ∷ xs) ys s e t (inr a) = inr (a.0, a.1, stopped_first xs ys a.0 e t a.2)

pub stopped_then : (xs ys : List DeviceCall) (s u : Meaning) (e : Refusal) (t : Meaning) → Completed xs s u → Stopped ys u e t → Stopped (xs ++ ys) s e t
stopped_then [] ys s u e t a b = subst (λ v. Stopped ys v e t) a b
stopped_then (x ∷ xs) ys s u e t a b = inr (a.0, a.1, stopped_then xs ys a.0 u e t a.2 b)

pub stopped_split : (xs ys : List DeviceCall) (s : Meaning) (e : Refusal) (t : Meaning) → Stopped (xs ++ ys) s e t → Stopped xs s e t ⊎ ((u : Meaning) × Completed xs s u × Stopped ys u e t)
stopped_split [] ys s e t d = inr (s, refl, d)
stopped_split (x ∷ xs) ys s e t (inl a) = inl (inl a)
stopped_split (x ∷ xs) ys s e t (inr a) =
    ⊎_elim
    (λ k. inl (inr (a.0, a.1, k)))
    (λ k. inr (k.0, (a.0, a.1, k.1), k.2))
    (stopped_split xs ys a.0 e t a.2)

-- a list that was completed, then one that is performed
pub performs_then : {U : Type 0} (xs ys : List DeviceCall) (s u t : Meaning) (r : Result U Refusal) → Completed xs s u → Performs ys u r t → Performs (xs ++ ys) s r t
performs_then xs ys s u t (Ok v) d p = completed_then xs ys s u t d p
performs_then xs ys s u t (Err e) d p = stopped_then xs ys s u e t d p

-- one turn more
pub for_each_more : (f : ℕ → List DeviceCall) (n : ℕ) (s u t : Meaning) → Completed (for_each f n) s u → Completed (f n) u t → Completed (for_each f (n + 1)) s t
for_each_more f n s u t a b = rw add-one (completed_then (for_each f n) (f n) s u t a b)

split_last : (f : ℕ → List DeviceCall) (n j : ℕ) (s u : Meaning) (e : Refusal) (t : Meaning) → Completed (for_each f j) s u → Stopped (f j) u e t → Dec (j ≡ n) → (j < n → Stopped (for_each f n) s e t) → j < suc n → Stopped (for_each f n ++ f n) s e t
split_last f n j s u e t a b (yes p) k h = subst (λ (i : ℕ). Stopped (for_each f i ++ f i) s e t) p (stopped_then (for_each f j) (f j) s u e t a b)
split_last f n j s u e t a b (no p) k h = stopped_first (for_each f n) (f n) s e t (k (omega arith))

-- a refusal in turn j of n
pub for_each_stopped : (f : ℕ → List DeviceCall) (n j : ℕ) (s u : Meaning) (e : Refusal) (t : Meaning) → j < n → Completed (for_each f j) s u → Stopped (f j) u e t → Stopped (for_each f n) s e t
for_each_stopped f zero j s u e t h a b = absurd (omega arith)
for_each_stopped f (suc n) j s u e t h a b = split_last f n j s u e t a b (ℕ_discrete j n) (λ k. for_each_stopped f n j s u e t k a b) h

-- turns that are the same
pub for_each_same : (f g : ℕ → List DeviceCall) (n : ℕ) → ((j : ℕ) → j < n → f j ≡ g j) → for_each f n ≡ for_each g n
for_each_same f g zero h = refl
for_each_same f g (suc n) h = ap (λ x. x ++ f n) (for_each_same f g n (λ j l. h j (omega arith))) ∙ ap (λ x. for_each g n ++ x) (h n (omega arith))

-- the turn in which it stopped
pub for_each_split : (f : ℕ → List DeviceCall) (n : ℕ) (s : Meaning) (e : Refusal) (t : Meaning) → Stopped (for_each f n) s e t → (i : ℕ) × (i < n) × (u : Meaning) × Completed (for_each f i) s u × Stopped (f i) u e t
for_each_split f zero s e t h = elim h [ ]
for_each_split f (suc n) s e t h =
    ⊎_elim
    (λ k. let r = for_each_split f n s e t k in let l = r.1 in (r.0, omega arith, r.2, r.3, r.4))
    (λ k. (n, omega arith, k.0, k.1, k.2))
    (stopped_split (for_each f n) (f n) s e t h)
