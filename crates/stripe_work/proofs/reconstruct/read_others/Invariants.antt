use Rattle.std.proofs.Common.{◌≡◌, length, take}
use Rattle.geometry.specs.Layouts.{restarted}
use Rattle.parity.specs.Xor.{without}
use Rattle.device_calls.specs.Lists.{Completed}
use Rattle.stripe_work.specs.Stripe.{row_blocks}
use Rattle.stripe_work.specs.Work.{other_reads}
use Rattle.stripe_work.proofs.reconstruct.read_others.Given as goal

abbrev pub invariant-loop-row : goal.invariant-loop-row
invariant-loop-row g l =
    let s = g.S.MemberStore.meaning l.initial.store in
    let member = restarted l.absent.member l.row in
    (g.S.MemberStore.meaning l.store ≡ s)
    × Completed (other_reads member l.absent.block l.absent.member) s s
    × (length l.others ≡ length l.initial.others)
    × (take l.row l.others ≡ without l.absent.member (row_blocks member l.absent.block s))
