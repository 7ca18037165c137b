use Rattle.std.proofs.Common.{◌<◌, [], ◌∷◌, arith}
use Rattle.std.proofs.lemmas.Result.{err_from_is_err_and}
use Rattle.parity.specs.Xor.{zeros}
use Rattle.device_calls.specs.Lists.{store}
use Rattle.device_calls.proofs.Append.{for_each_more, for_each_stopped}
use Rattle.array_work.proofs.Formatting.{zeroed, not_zeroed}
use Rattle.array_work.proofs.format.zero_member.Goals as goal

pub loop-block-preserved : goal.loop-block-preserved
loop-block-preserved g c =
    let u = g.S.MemberStore.meaning c.loop-block.store in
    let t = g.S.MemberStore.meaning c.store.new.self in
    for_each_more (λ b. store c.args.member b zeros ∷ []) c.loop-block.block (g.S.MemberStore.meaning c.args.store.now) u t c.loop-block.invariant
    (zeroed c.args.member c.loop-block.block u t c.in_ok-store.ensures.means)

pub returns-in_err-store : goal.returns-in_err-store
returns-in_err-store g c =
    let u = g.S.MemberStore.meaning c.loop-block.store in
    let t = g.S.MemberStore.meaning c.store.new.self in
    let l : c.loop-block.block < c.args.blocks = omega arith in
    let p = err_from_is_err_and c.from_residual.result c.from_residual.ensures.1 in
    rw (p.1, p.2)
    (for_each_stopped (λ b. store c.args.member b zeros ∷ []) c.args.blocks c.loop-block.block (g.S.MemberStore.meaning c.args.store.now) u _ t l c.loop-block.invariant
    (not_zeroed c.args.member c.loop-block.block u _ t c.in_err-store.ensures.means))
