use Rattle.std.proofs.Common.{◌≡◌, ◌≤◌}
use Rattle.geometry.specs.Counts.{members_of}
use Rattle.device_calls.specs.Lists.{Completed, for_each}
use Rattle.stripe_work.specs.Stripe.{stripe_at}
use Rattle.stripe_work.specs.Work.{check_calls, wrong_below}
use Rattle.stripe_work.proofs.resync.count_wrong_stripes.Given as goal

abbrev pub invariant-loop-number : goal.invariant-loop-number
invariant-loop-number g l =
    let s = g.S.MemberStore.meaning l.initial.store in
    let m = members_of l.geometry.shape in
    (g.S.MemberStore.meaning l.store ≡ s)
    × Completed (for_each (λ k. check_calls (stripe_at g.L.Layout.arrangement m k)) l.number) s s
    × (l.wrong ≡ wrong_below g.L.Layout.arrangement m s l.number)
    × (l.wrong ≤ l.number)
