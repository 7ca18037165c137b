use Rattle.std.proofs.Common.{◌≡◌, ◌+◌, ◌≤◌, ◌++◌, length, take}
use Rattle.stripe_set.specs.Stripes.{stripes}
use Rattle.stripe_set.specs.Union.{merged}
use Rattle.stripe_set.proofs.set.StripeSet.union.Given as goal

-- what is taken, and then what is left
abbrev pub invariant-loop-stripe : goal.invariant-loop-stripe
invariant-loop-stripe l = record {
  few : l.len ≤ 64;
  whole : length l.items ≡ 64;
  all : take l.len l.items ++ merged l.own l.list ≡ merged (stripes l.self) (stripes l.other);
}

abbrev pub decreases-loop-stripe : goal.decreases-loop-stripe
decreases-loop-stripe l = length l.own + length l.list
