use Rattle.std.proofs.Common.{◌≡◌, ℕ, ◌+◌, ◌-◌, List, [], get_or, take, drop, sym, ap, ◌∙◌, arith}
use lib.Lanes.{fold_l, chunk}
use Rattle.std.proofs.lemmas.List.{at_drop_all, take-take}
use Rattle.parity.specs.Xor.{xored}
use Rattle.parity.proofs.Columns.{fold_more}
use Rattle.parity.proofs.column.Goals as goal

pub loop-block-preserved : goal.loop-block-preserved
loop-block-preserved c =
    let block : List ℕ = get_or c.args.blocks.now c.loop-block.block-index [] in
    let t : take 64 (take (512 - c.args.at) (drop c.args.at block)) ≡ chunk c.args.at 64 block = take-take 64 (512 - c.args.at) (drop c.args.at block) (omega arith) in
    let m = fold_more {A = List ℕ} {B = List ℕ} (λ a block. xored a (chunk c.args.at 64 block)) c.loop-block.sum c.args.blocks.now c.loop-block.block-index [] c.loop-block-test.true in
    ap (λ (v : List ℕ). fold_l (λ a block. xored a (chunk c.args.at 64 block)) (xored c.loop-block.sum v) (drop (c.loop-block.block-index + 1) c.args.blocks.now)) t ∙ sym m ∙ c.loop-block.invariant

pub returns-clause-value : goal.returns-clause-value
returns-clause-value c = sym (at_drop_all {X = List ℕ} (fold_l (λ a block. xored a (chunk c.args.at 64 block)) c.loop-block.sum) c.args.blocks.now c.loop-block.block-index c.loop-block-test.false) ∙ c.loop-block.invariant
