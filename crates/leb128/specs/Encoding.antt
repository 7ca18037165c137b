-- The bytes of a number: groups of seven bits, lowest first, 128 added to each that others follow.
use Rattle.std.specs.Prelude.{ℕ, zero, suc, ◌+◌, ◌/◌, ◌%◌, cond, List, [], ◌∷◌, nat_lt}

-- the groups of n, with at most `more` of them after the first
unfoldable pub groups : ℕ → ℕ → List ℕ
groups zero n = n ∷ []
groups (suc more) n = cond (nat_lt n 128) (n ∷ []) ((n % 128 + 128) ∷ groups more (n / 128))

-- five groups hold every number below 2 ^ 32
abbrev pub encoding : ℕ → List ℕ
encoding n = groups 4 n
