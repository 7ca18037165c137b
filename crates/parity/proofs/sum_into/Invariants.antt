use Rattle.std.proofs.Common.{◌≡◌, ◌%◌, ◌≤◌, length, take}
use Rattle.parity.specs.Xor.{parity_of}
use Rattle.parity.proofs.sum_into.Given as goal

abbrev pub invariant-loop-at : goal.invariant-loop-at
invariant-loop-at l = (length l.into ≡ 512) × (l.at % 64 ≡ 0) × (l.at ≤ 512) × (take l.at l.into ≡ take l.at (parity_of l.blocks))
