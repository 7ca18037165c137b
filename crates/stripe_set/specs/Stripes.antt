-- The stripes that a set holds, and the lists that a set can hold.
use Rattle.std.specs.Prelude.{ℕ, cond, ◌&&◌, List, length, take, Some, None, Option, nat_le}
use Rattle.stripe_set.specs.Rising.{rising}
use Rattle.stripe_set.specs.declared.set.StripeSet.{StripeSet}

abbrev pub stripes : StripeSet → List ℕ
stripes s = take s.len s.items

abbrev pub held : Option StripeSet → Option (List ℕ)
held None = None
held (Some s) = Some (stripes s)

-- a list that rises and has at most 64 stripes
abbrev pub bounded : List ℕ → Option (List ℕ)
bounded ss = cond (nat_le (length ss) 64 && rising 0 ss) (Some ss) None
