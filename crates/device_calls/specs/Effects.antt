-- Properties of device calls, and what a list of them can leave.
use Rattle.std.specs.Prelude.{◌≡◌, ℕ, false, ◌⊎◌, List, [], ◌∷◌}
use Rattle.member_store.specs.Meaning.{Meaning, HasBlock, Version}
use Rattle.member_store.specs.Calls.{SameCounts}
use Rattle.member_store.specs.Refusals.{IsPowerOff}
use Rattle.member_store.specs.declared.refusal.Refusal.{Refusal}
use Rattle.device_calls.specs.Lists.{DeviceCall, read, store, barrier}

-- P holds of every call of the list.
abbrev pub Every : (DeviceCall → Type 0) → List DeviceCall → Type 0
Every P [] = Unit {0}
Every P (o ∷ os) = P o × Every P os

-- The store has the block that the call is for.
abbrev pub InRange : Meaning → DeviceCall → Type 0
InRange s (read m b) = HasBlock s m b
InRange s (store m b x) = HasBlock s m b
InRange s barrier = Unit {0}

-- The call stores nothing at block b of member m.
abbrev pub Spares : ℕ → ℕ → DeviceCall → Type 0
Spares m b (read i j) = Unit {0}
Spares m b (store i j x) = (m ≡ i) × (b ≡ j) → ⊥
Spares m b barrier = Unit {0}

-- The call is for another member than m.
abbrev pub Avoids : ℕ → DeviceCall → Type 0
Avoids m (read i j) = i ≡ m → ⊥
Avoids m (store i j x) = i ≡ m → ⊥
Avoids m barrier = Unit {0}

-- The call only reads.
abbrev pub Reading : DeviceCall → Type 0
Reading (read i j) = Unit {0}
Reading (store i j x) = ⊥
Reading barrier = ⊥

-- The call stores the bytes v at block b of member m; some call of the list does.
abbrev pub Writes : DeviceCall → ℕ → ℕ → List ℕ → Type 0
Writes (read i j) m b v = ⊥
Writes (store i j x) m b v = (m ≡ i) × (b ≡ j) × (v ≡ x)
Writes barrier m b v = ⊥

abbrev pub Written : List DeviceCall → ℕ → ℕ → List ℕ → Type 0
Written [] m b v = ⊥
Written (o ∷ os) m b v = Writes o m b v ⊎ Written os m b v

-- Every version of a block is a former one or one that the list stores there.
abbrev pub Gains : List DeviceCall → Meaning → Meaning → Type 0
Gains os s t = (m b : ℕ) (v : List ℕ) → HasBlock s m b → Version t m b v → Version s m b v ⊎ Written os m b v

-- What is left where the list was stopped with e: where the store has all blocks concerned, power is off and e says so.
pub record CutShort (in_range : Type 0) (os : List DeviceCall) (s : Meaning) (e : Refusal) (t : Meaning) : Type 0 where
  pub counts : SameCounts s t
  pub gains : Gains os s t
  pub off : in_range → t.on ≡ false
  pub told : in_range → IsPowerOff e
