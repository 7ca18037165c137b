use Rattle.std.proofs.Common.{◌-◌, ◌<◌, length, sym, ap, ◌∙◌, arith, length-set}
use Rattle.geometry.specs.Counts.{members_of}
use Rattle.cache.proofs.Places.{some_injective}
use Rattle.stripe_work.specs.Stripe.{stripe_at, data_at}
use Rattle.stripe_work.proofs.Rows.{row_more}
use Rattle.simulate.proofs.Looks.{at_place}
use Rattle.simulate.proofs.show.copy_data.Goals as goal

pub loop-position-preserved : goal.loop-position-preserved
loop-position-preserved g c =
    let s = g.S.MemberStore.meaning c.args.store.now in
    let stripe = c.args.stripe.now in
    let m = members_of stripe.geometry.shape in
    let w = stripe_at g.L.Layout.arrangement m stripe.number in
    let j = c.loop-position.position in
    let rows = c.loop-position.row-items in
    let i = c.loop-position.invariant in
    let at = c.unwrap in
    let x = c.copy_current.new.into in
    let long : j < length rows = omega (arith, i.0) in
    let few : j < m - 1 = omega arith in
    let given = some_injective (sym c.unwrap.ensures ∙ c.data_address.ensures.held few) in (
      length-set rows j x ∙ i.0,
      λ h. row_more (data_at w s) rows j x long (i.1 h) (at_place s at.result.member at.result.block (w.member j) w.block (ap (λ a. a.member) given) (ap (λ a. a.block) given) (h.member j few) x c.copy_current.ensures),
    )
