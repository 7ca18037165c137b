use Rattle.std.proofs.Common.{◌≡◌, length, take}
use Rattle.geometry.specs.Counts.{members_of}
use Rattle.device_calls.specs.Lists.{Completed, for_each}
use Rattle.stripe_work.specs.Stripe.{stripe_at, listed}
use Rattle.stripe_work.specs.Work.{cached_in, uncached_read, merged}
use Rattle.stripe_work.proofs.data.read_data.Given as goal

abbrev pub invariant-loop-position : goal.invariant-loop-position
invariant-loop-position g l =
    let s = g.S.MemberStore.meaning l.initial.store in
    let w = stripe_at g.L.Layout.arrangement (members_of l.stripe.geometry.shape) l.stripe.number in
    let c = cached_in l.cached in
    (g.S.MemberStore.meaning l.store ≡ s)
    × Completed (for_each (λ j. uncached_read (c j) (w.member j) w.block) l.position) s s
    × (length l.rows ≡ 7)
    × (take l.position l.rows ≡ listed (merged w c s) l.position)
