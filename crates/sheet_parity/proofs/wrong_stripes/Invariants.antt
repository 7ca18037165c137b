use Rattle.std.proofs.Common.{◌≡◌, ◌≤◌}
use Rattle.memory_store.specs.Memory.{memory_means}
use Rattle.sheet_parity.specs.Right.{AllRight}
use Rattle.sheet_parity.proofs.wrong_stripes.Given as goal

abbrev pub invariant-loop-stripe : goal.invariant-loop-stripe
invariant-loop-stripe l = (l.wrong ≤ l.stripe) × (l.wrong ≡ 0 → AllRight (memory_means l.memory) l.stripe) × (AllRight (memory_means l.memory) l.stripe → l.wrong ≡ 0)
