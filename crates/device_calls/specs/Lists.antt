-- Work on a member store as the list of its device calls, in their order, and what it is to perform such a list.
use Rattle.std.specs.Prelude.{◌≡◌, ℕ, zero, suc, ◌⊎◌, List, [], ◌∷◌, ◌++◌, None, Result}
use Rattle.std.specs.Result as results
use Rattle.member_store.specs.Meaning.{Meaning}
use Rattle.member_store.specs.Calls.{checks, barrier_checks, Cut, CutStore, Stored, Barred, Refused}
use Rattle.member_store.specs.Refusals.{IsPowerOff, off_at}
use Rattle.member_store.specs.declared.refusal.Refusal.{Refusal}

-- A device call: a read of block b of member m, a store of bytes there, a barrier. Reads and stores are of 512 bytes.
pub data DeviceCall : Type 0 where
  read : (m b : ℕ) → DeviceCall
  store : (m b : ℕ) → List ℕ → DeviceCall
  barrier : DeviceCall

-- The call is accepted, and what the store meant, s, becomes t.
abbrev pub Accepted : DeviceCall → Meaning → Meaning → Type 0
Accepted (read m b) s t = (checks s m b 512 ≡ None) × (t ≡ s)
Accepted (store m b x) s t = (checks s m b 512 ≡ None) × Stored s m b x t
Accepted barrier s t = (barrier_checks s ≡ None) × Barred s t

-- The call is refused with e. A read in which power goes tells its own place; a store or a barrier may tell another
-- one, since a store in between may have held other bytes back.
abbrev pub Rejected : DeviceCall → Meaning → Refusal → Meaning → Type 0
Rejected (read m b) s e t = Refused (checks s m b 512) e (t ≡ s) ((e ≡ off_at m b) × Cut s t)
Rejected (store m b x) s e t = Refused (checks s m b 512) e (t ≡ s) (IsPowerOff e × CutStore s m b x t)
Rejected barrier s e t = Refused (barrier_checks s) e (t ≡ s) (IsPowerOff e × Cut s t)

-- All calls of the list are accepted, one after the other.
abbrev pub Completed : List DeviceCall → Meaning → Meaning → Type 0
Completed [] s t = t ≡ s
Completed (o ∷ os) s t = (u : Meaning) × Accepted o s u × Completed os u t

-- The first calls of the list are accepted, the next one is refused with e, and none after it is made.
abbrev pub Stopped : List DeviceCall → Meaning → Refusal → Meaning → Type 0
Stopped [] s e t = ⊥
Stopped (o ∷ os) s e t = Rejected o s e t ⊎ ((u : Meaning) × Accepted o s u × Stopped os u e t)

-- Performs the list, stopping at the first refusal, which is the answer.
abbrev pub Performs : {U : Type 0} → List DeviceCall → Meaning → Result U Refusal → Meaning → Type 0
Performs os s r t = results.MatchResult r (λ _. Completed os s t) (λ e. Stopped os s e t)

-- What f gives for 0 to n - 1, in this order.
abbrev pub for_each : (ℕ → List DeviceCall) → ℕ → List DeviceCall
for_each f zero = []
for_each f (suc n) = for_each f n ++ f n
