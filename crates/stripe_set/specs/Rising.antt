-- Rising stripe numbers: each above the one before, none above 4,294,967,295.
use Rattle.std.specs.Prelude.{ℕ, ◌+◌, Bool, true, ◌&&◌, List, [], ◌∷◌, nat_le, nat_lt}

-- each at least `least`, and each above the one before
abbrev pub rising : ℕ → List ℕ → Bool
rising least [] = true
rising least (s ∷ ss) = nat_le least s && (nat_lt s 4294967296 && rising (s + 1) ss)
