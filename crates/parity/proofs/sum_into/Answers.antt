use Rattle.std.proofs.Common.{◌+◌, sym, ◌∙◌, arith}
use Rattle.std.proofs.lemmas.List.{take_all}
use Rattle.std.proofs.lemmas.Simd.{length-put_chunk}
use Rattle.parity.specs.Xor.{parity_of}
use Rattle.parity.proofs.Columns.{parity_more, length_parity}
use Rattle.parity.proofs.sum_into.Goals as goal

pub loop-at-preserved : goal.loop-at-preserved
loop-at-preserved c = (
  omega (arith, length-put_chunk c.loop-at.at c.loop-at.into c.column.result),
  omega arith,
  omega arith,
  parity_more c.loop-at.at (c.loop-at.at + 64) c.loop-at.into c.column.result c.args.blocks.now c.loop-at.invariant.0 c.column.ensures.len (omega arith) (omega arith) c.loop-at.invariant.3 c.column.ensures.value,
)

pub returns : goal.returns
returns c =
    sym (take_all c.loop-at.at c.loop-at.into (omega arith)) ∙ c.loop-at.invariant.3 ∙ take_all c.loop-at.at (parity_of c.args.blocks.now) (omega (arith, length_parity c.args.blocks.now))
