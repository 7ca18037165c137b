use Rattle.std.proofs.Common.{◌+◌, arith}
use Rattle.array.specs.Sound.{means}
use Rattle.array_run.proofs.Calls.{one_more}
use Rattle.array_run.proofs.give_up.give_up_held.Goals as goal

pub loop-token-preserved : goal.loop-token-preserved
loop-token-preserved g c =
    let m = means g.S.MemberStore.meaning g.G.IntentLog.meaning in
    let k = c.loop-token.invariant.1.0 in (
      λ h. c.give_up.ensures.sound (c.loop-token.invariant.0 h),
      (
        k + 1,
        omega (arith, c.loop-token.invariant.1.1, c.in-Some.ensures.len),
        one_more k (m c.args.array.now) (m c.loop-token.array) (m c.give_up.new.self) c.loop-token.invariant.1.2 c.give_up.ensures.does,
      ),
    )
