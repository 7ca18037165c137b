use Rattle.std.proofs.Common.{◌≡◌, ℕ, ◌<◌, ◌≤◌}
use Rattle.geometry.specs.Counts.{members_of, blocks_of}
use Rattle.geometry.specs.Places.{stripes}
use Rattle.stripe_work.specs.Stripe.{stripe_at, InStore}
use Rattle.stripe_work.specs.Work.{wrong_below}
use Rattle.simulate.proofs.show.count_wrong.Given as goal

abbrev pub invariant-loop-number : goal.invariant-loop-number
invariant-loop-number g l =
    let s = g.S.MemberStore.meaning l.store in
    let a = g.L.Layout.arrangement in
    let shape = l.geometry.shape in
    let m = members_of shape in
    (l.wrong ≤ l.number)
    × (((k : ℕ) → k < stripes (blocks_of shape) → InStore (stripe_at a m k) s) → l.wrong ≡ wrong_below a m s l.number)
