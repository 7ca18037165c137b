use Rattle.std.proofs.Common.{◌≡◌, length, take}
use Rattle.geometry.specs.Counts.{members_of}
use Rattle.stripe_work.specs.Stripe.{stripe_at, listed, data_at, InStore}
use Rattle.simulate.proofs.show.copy_data.Given as goal

abbrev pub invariant-loop-position : goal.invariant-loop-position
invariant-loop-position g l =
    let s = g.S.MemberStore.meaning l.store in
    let w = stripe_at g.L.Layout.arrangement (members_of l.stripe.geometry.shape) l.stripe.number in
    (length l.row-items ≡ length l.initial.row-items) × (InStore w s → take l.position l.row-items ≡ listed (data_at w s) l.position)
