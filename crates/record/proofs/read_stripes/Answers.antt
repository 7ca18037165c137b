use Rattle.std.proofs.Common.{◌≡◌, ℕ, ◌-◌, List, [], take, sym, refl, ap, ◌∙◌, subst, arith, length-set, ◌++◌, drop, Some, take_at}
use Rattle.std.proofs.lemmas.List.{append-nil, take_all}
use Rattle.record.specs.Reading.{stripes_from}
use Rattle.record.specs.Spelling.{SpeltAll}
use Rattle.record.proofs.Stripes.{front, at_none, at_some, at_end}
use Rattle.record.proofs.RoundTrip.{spelt_on}
use Rattle.record.proofs.read_stripes.Goals as goal

pub returns-in_err-from-clause-value : goal.returns-in_err-from-clause-value
returns-in_err-from-clause-value c =
    rw c.from_residual.ensures
    (c.loop-place.invariant.2 ∙ at_none (c.args.n - c.loop-place.place-index) c.loop-place.least c.loop-place.from c.args.bytes.now c.loop-place.pos (take c.loop-place.place-index c.loop-place.place-items) (omega arith) (sym c.in_err-from.ensures.value))

pub loop-place-preserved : goal.loop-place-preserved
loop-place-preserved c = (
  c.in_ok-from.ensures.inside,
  (length-set c.loop-place.place-items c.loop-place.place-index c.in_ok-from.field-0-0 ∙ c.loop-place.invariant.1),
  c.loop-place.invariant.2 ∙ at_some c.args.n c.loop-place.least c.loop-place.from c.args.bytes.now c.loop-place.pos c.in_ok-from.field-0-0 c.in_ok-from.field-0-1 c.loop-place.place-index c.loop-place.place-items (omega arith) (omega arith) (sym c.in_ok-from.ensures.value),
  λ ss end h. spelt_on c.args.bytes.now c.args.at c.loop-place.pos c.in_ok-from.field-0-1 end c.loop-place.from c.in_ok-from.field-0-0 c.loop-place.place-index c.loop-place.place-items ss (omega arith) c.loop-place.invariant.3 c.in_ok-from.ensures.spelt h,
)

pub returns : goal.returns
returns c =
    let z : c.args.n - c.loop-place.place-index ≡ 0 = omega arith in
    let bs = c.args.bytes.now in
    let items = c.loop-place.place-items in
    let all : take c.loop-place.place-index items ≡ items = take_all c.loop-place.place-index items (omega arith) in
    let front_is : take c.args.n (items ++ drop c.args.n c.args.out.now) ≡ items = take_at items (drop c.args.n c.args.out.now) c.args.n c.loop-place.invariant.1 in
    record {
      value =
          c.loop-place.invariant.2
          ∙ ap (λ (j : ℕ). front (take c.loop-place.place-index items) (stripes_from j c.loop-place.least c.loop-place.from bs c.loop-place.pos)) z
          ∙ at_end c.loop-place.least c.loop-place.from bs c.loop-place.pos (take c.loop-place.place-index items)
          ∙ ap (λ (ss : List ℕ). Some (ss, c.loop-place.pos)) (all ∙ sym front_is);
      inside = c.loop-place.invariant.0;
      spelt = subst (λ (ss : List ℕ). SpeltAll bs c.args.at c.loop-place.pos 0 ss) (append-nil (take c.loop-place.place-index items) ∙ all ∙ sym front_is) (c.loop-place.invariant.3 [] c.loop-place.pos refl);
    }
