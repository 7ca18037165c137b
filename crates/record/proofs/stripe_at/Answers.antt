use Rattle.std.proofs.Common.{◌≡◌, ℕ, ◌+◌, ◌-◌, Some, sym, ap, ◌∙◌, subst, arith}
use Rattle.record.specs.Reading.{above}
use Rattle.record.specs.Spelling.{Spelt}
use Rattle.record.proofs.Stripes.{close, far, taken}
use Rattle.record.proofs.Steps.{number_is, no_stripe}
use Rattle.record.proofs.stripe_at.Goals as goal

pub returns-in_err-distance-clause-value : goal.returns-in_err-distance-clause-value
returns-in_err-distance-clause-value c = c.from_residual.ensures ∙ no_stripe c.args.least c.args.from c.args.at _ c.in_err-distance.ensures.value

pub returns-then-distance-least-clause-value : goal.returns-then-distance-least-clause-value
returns-then-distance-least-clause-value c =
    let d = c.in_ok-distance.distance in
    close c.args.least c.args.from c.args.at d.value d.taken c.if-distance-least.true ∙ ap (above c.args.least c.args.from c.args.at) (sym (number_is c.args.bytes.now c.args.at d c.in_ok-distance.ensures.value))

pub returns-in_err-stripe-clause-value : goal.returns-in_err-stripe-clause-value
returns-in_err-stripe-clause-value c =
    let d = c.in_ok-distance.distance in
    c.from_residual-in_err-stripe.ensures
    ∙ far c.args.least c.args.from c.args.at d.value d.taken (omega (arith, c.in_err-stripe.ensures))
    ∙ ap (above c.args.least c.args.from c.args.at) (sym (number_is c.args.bytes.now c.args.at d c.in_ok-distance.ensures.value))

pub returns : goal.returns
returns c =
    let bs = c.args.bytes.now in
    let at : ℕ = c.args.at in
    let d = c.in_ok-distance.distance in
    let h = c.in_ok-stripe.ensures in
    let e : c.in_ok-stripe.stripe ≡ c.args.from + d.value = omega (arith, h) in
    let f : c.in_ok-stripe.stripe - c.args.from ≡ d.value = omega arith in
    record {
      value =
          ap (λ (s : ℕ). Some (s, at + d.taken)) e
          ∙ taken c.args.least c.args.from at d.value d.taken (omega arith) (omega (arith, h))
          ∙ ap (above c.args.least c.args.from at) (sym (number_is bs at d c.in_ok-distance.ensures.value));
      inside = c.in_ok-distance.ensures.inside;
      spelt = subst (λ (n : ℕ). Spelt bs at (at + d.taken) n) (sym f) c.in_ok-distance.ensures.spelt;
    }
