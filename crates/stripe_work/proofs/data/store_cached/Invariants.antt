use Rattle.geometry.specs.Counts.{members_of}
use Rattle.device_calls.specs.Lists.{Completed, for_each}
use Rattle.stripe_work.specs.Stripe.{stripe_at}
use Rattle.stripe_work.specs.Work.{cached_in, cached_store}
use Rattle.stripe_work.proofs.data.store_cached.Given as goal

abbrev pub invariant-loop-position : goal.invariant-loop-position
invariant-loop-position g l =
    let w = stripe_at g.L.Layout.arrangement (members_of l.stripe.geometry.shape) l.stripe.number in
    Completed (for_each (λ j. cached_store (cached_in l.cached j) (w.member j) w.block) l.position) (g.S.MemberStore.meaning l.initial.store) (g.S.MemberStore.meaning l.store)
