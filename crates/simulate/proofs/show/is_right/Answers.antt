use Rattle.std.proofs.Common.{◌≡◌, ℕ, ◌-◌, take, length-take, refl, ap, ◌∙◌, arith}
use Rattle.std.proofs.lemmas.Slice.Eq.{slice_eq-Decides}
use Rattle.geometry.specs.Counts.{members_of}
use Rattle.parity.specs.Xor.{parity_of}
use Rattle.stripe_work.specs.Stripe.{stripe_at}
use Rattle.stripe_work.proofs.Resyncing.{decided}
use Rattle.simulate.proofs.Looks.{has_place}
use Rattle.simulate.proofs.show.is_right.Goals as goal
use Rattle.std.proofs.lemmas.Bool.Decides.{Decides-eqb}

pub returns : goal.returns
returns g c h =
    let s = g.S.MemberStore.meaning c.args.store.now in
    let stripe = c.args.stripe.now in
    let m = members_of stripe.geometry.shape in
    let w = stripe_at g.L.Layout.arrangement m stripe.number in
    let at = c.parity_address in
    let a = at.result.member in
    let b = at.result.block in
    let count : c.positions.result ≡ m - 1 = c.positions.ensures.value in
    let sum = c.parity_of_rows-sum.ensures.value (omega (arith, length-take c.positions.result c.copy_data.new.rows)) (omega (arith, length-take c.positions.result c.copy_data.new.rows)) ∙ ap (λ (n : ℕ). parity_of (take n c.copy_data.new.rows)) count ∙ ap parity_of (c.copy_data.ensures h) in
    let found = c.copy_current.ensures (has_place s a b w.parity w.block at.ensures.member at.ensures.block h.parity) in
    decided w s c.copy_current.new.into c.parity_of_rows-sum.result c.eq.result a b s (slice_eq-Decides Decides-eqb _ _ _ c.eq.ensures) refl at.ensures.member at.ensures.block found sum
