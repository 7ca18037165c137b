-- One call of a member store as a list of one device call. Assumes nothing.
use Rattle.std.proofs.Common.{◌≡◌, ℕ, List, [], ◌∷◌, length, None, Ok, Err, Result, refl, subst, inl}
use Rattle.std.specs.Result as results
use Rattle.member_store.specs.Meaning.{Meaning}
use Rattle.member_store.specs.Calls.{checks, Reads, Stores, Bars, Refused, Cut, CutStore}
use Rattle.member_store.specs.Refusals.{IsPowerOff, off_at}
use Rattle.member_store.specs.declared.refusal.Refusal.{Refusal}
use Rattle.device_calls.specs.Lists.{read, store, barrier, Accepted, Rejected, Performs}

pub read_performs : {U : Type 0} (m b : ℕ) (old new : List ℕ) (s t : Meaning) (r : Result U Refusal) → length old ≡ 512 → Reads s m b old r new t → Performs (read m b ∷ []) s r t
read_performs m b old new s t (Ok u) q h = (t, (subst (λ (i : ℕ). checks s m b i ≡ None) q h.0, h.2), refl)
read_performs m b old new s t (Err e) q h = inl (subst (λ (i : ℕ). Refused (checks s m b i) e (t ≡ s) ((e ≡ off_at m b) × Cut s t)) q h.1)

pub store_performs : {U : Type 0} (m b : ℕ) (x : List ℕ) (s t : Meaning) (r : Result U Refusal) → length x ≡ 512 → Stores s m b x r t → Performs (store m b x ∷ []) s r t
store_performs m b x s t (Ok u) q h = (t, (subst (λ (i : ℕ). checks s m b i ≡ None) q h.0, h.1), refl)
store_performs m b x s t (Err e) q h = inl (subst (λ (i : ℕ). Refused (checks s m b i) e (t ≡ s) (IsPowerOff e × CutStore s m b x t)) q h)

pub barrier_performs : {U : Type 0} (s t : Meaning) (r : Result U Refusal) → Bars s r t → Performs (barrier ∷ []) s r t
barrier_performs s t (Ok u) h = (t, h, refl)
barrier_performs s t (Err e) h = inl h

-- a store alone, whose bytes are 512
pub store_answers : {U : Type 0} (m b : ℕ) (x : List ℕ) (s t : Meaning) (r : Result U Refusal) → length x ≡ 512 → Stores s m b x r t → results.MatchResult r (λ _. Accepted (store m b x) s t) (λ e. Rejected (store m b x) s e t)
store_answers m b x s t (Ok u) q h = (subst (λ (i : ℕ). checks s m b i ≡ None) q h.0, h.1)
store_answers m b x s t (Err e) q h = subst (λ (i : ℕ). Refused (checks s m b i) e (t ≡ s) (IsPowerOff e × CutStore s m b x t)) q h
