-- What a member store means: whether power is on, how many members there are and how many blocks each has, and
-- for every block the versions that may stand after a power cut.
use Rattle.std.specs.Prelude.{◌≡◌, ℕ, ◌<◌, Bool, ◌⊎◌, List, [], ◌∷◌}

pub record Meaning : Type 0 where
  pub on : Bool
  pub members : ℕ
  -- of each member
  pub blocks : ℕ
  -- by member and block, each version its bytes; the last is current
  pub versions : ℕ → ℕ → List (List ℕ)

-- The last of a list, or d where it is empty.
abbrev pub last_or : {X : Type 0} → X → List X → X
last_or d [] = d
last_or d (x ∷ xs) = last_or x xs

-- v is an element of a list.
abbrev pub In : {X : Type 0} → X → List X → Type 0
In v [] = ⊥
In v (x ∷ xs) = (v ≡ x) ⊎ In v xs

-- The bytes that a read of block b of member m gives.
abbrev pub current : Meaning → ℕ → ℕ → List ℕ
current s m b = last_or [] (s.versions m b)

-- The bytes v may stand at block b of member m after a cut.
abbrev pub Version : Meaning → ℕ → ℕ → List ℕ → Type 0
Version s m b v = In v (s.versions m b)

-- There is a member m, and it has a block b.
abbrev pub HasBlock : Meaning → ℕ → ℕ → Type 0
HasBlock s m b = (m < s.members) × (b < s.blocks)
