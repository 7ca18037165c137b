use Rattle.std.proofs.Common.{◌<◌, [], ◌∷◌, arith}
use Rattle.std.proofs.lemmas.Result.{err_from_is_err_and}
use Rattle.geometry.specs.Counts.{members_of}
use Rattle.parity.specs.Xor.{zeros}
use Rattle.device_calls.specs.Lists.{store, for_each}
use Rattle.device_calls.proofs.Append.{for_each_more, for_each_stopped}
use Rattle.array_work.proofs.format.zero_members.Goals as goal

pub loop-member-preserved : goal.loop-member-preserved
loop-member-preserved g c =
    let u = g.S.MemberStore.meaning c.loop-member.store in
    let t = g.S.MemberStore.meaning c.zero_member.new.store in
    for_each_more (λ m. for_each (λ b. store m b zeros ∷ []) c.blocks-blocks.result) c.loop-member.member (g.S.MemberStore.meaning c.args.store.now) u t c.loop-member.invariant c.in_ok-zero_member.ensures

pub returns-in_err-zero_member : goal.returns-in_err-zero_member
returns-in_err-zero_member g c =
    let u = g.S.MemberStore.meaning c.loop-member.store in
    let t = g.S.MemberStore.meaning c.zero_member.new.store in
    let s = g.S.MemberStore.meaning c.args.store.now in
    let l : c.loop-member.member < members_of c.args.shape = omega arith in
    let p = err_from_is_err_and c.from_residual.result c.from_residual.ensures.1 in
    rw (p.1, p.2, ← c.blocks-blocks.ensures.value)
    (for_each_stopped (λ m. for_each (λ b. store m b zeros ∷ []) c.blocks-blocks.result) (members_of c.args.shape) c.loop-member.member s u _ t l c.loop-member.invariant c.in_err-zero_member.ensures)
