use Rattle.std.proofs.Common.{◌≡◌, drop, replicate}
use lib.Lanes.{fold_l, chunk}
use Rattle.parity.specs.Xor.{xored}
use Rattle.parity.proofs.column.Given as goal

abbrev pub invariant-loop-block : goal.invariant-loop-block
invariant-loop-block l =
    fold_l (λ a block. xored a (chunk l.at 64 block)) l.sum (drop l.block-index l.blocks) ≡ fold_l (λ a block. xored a (chunk l.at 64 block)) (replicate 64 0) l.blocks
