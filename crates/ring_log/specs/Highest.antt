-- The standing rule: of the records in the slots the highest version stands, of equals the one in the lowest slot.
use Rattle.std.specs.Prelude.{ℕ, zero, suc, Bool, true, false, cond, List, [], ◌∷◌, map, Some, None, Option, nat_lt}
use Rattle.std.specs.List.{flat_map}
use Rattle.record.specs.Contents.{Contents}

-- of what stands in earlier slots and a record in slot n
abbrev pub higher : Option (ℕ × Contents) → ℕ → Contents → Option (ℕ × Contents)
higher None n r = Some (n, r)
higher (Some x) n r = cond (nat_lt x.1.version r.version) (Some (n, r)) (Some x)

abbrev pub better : Option (ℕ × Contents) → ℕ → Option Contents → Option (ℕ × Contents)
better b n None = b
better b n (Some r) = higher b n r

-- what stands in the first n slots, and in which, where slot i holds f i
unfoldable pub highest : (ℕ → Option Contents) → ℕ → Option (ℕ × Contents)
highest f zero = None
highest f (suc n) = better (highest f n) n (f n)

-- what may stand in the first n slots, where slot i holds one of f i
unfoldable pub candidates : (ℕ → List (Option Contents)) → ℕ → List (Option (ℕ × Contents))
candidates f zero = None ∷ []
candidates f (suc n) = flat_map (λ b. map (better b n) (f n)) (candidates f n)

-- a record in slot n
abbrev pub at_slot : ℕ → Option Contents → Option (ℕ × Contents)
at_slot n None = None
at_slot n (Some r) = Some (n, r)

-- of what stands and what a later slot holds
abbrev pub higher_of : Option (ℕ × Contents) → Option (ℕ × Contents) → Option (ℕ × Contents)
higher_of b None = b
higher_of b (Some x) = higher b x.0 x.1

-- the slot of what stands, or d
abbrev pub slot_or : ℕ → Option (ℕ × Contents) → ℕ
slot_or d None = d
slot_or d (Some x) = x.0

-- the version that stands, 0 where none does
abbrev pub version_of : Option (ℕ × Contents) → ℕ
version_of None = 0
version_of (Some x) = x.1.version

abbrev pub stripes_of : Option (ℕ × Contents) → List ℕ
stripes_of None = []
stripes_of (Some x) = x.1.stripes

abbrev pub present : Option (ℕ × Contents) → Bool
present None = false
present (Some x) = true
