use Rattle.std.proofs.Common.{◌≡◌, ℕ, sym, ◌∙◌, subst, arith, below_more}
use Rattle.std.proofs.lemmas.Bool.{true≢false}
use Rattle.memory_store.specs.Memory.{memory_means}
use Rattle.sheet_parity.specs.Right.{AllRight}
use Rattle.sheet_parity.proofs.wrong_stripes.Goals as goal
use Rattle.sheet_parity.proofs.wrong_stripes.Goals.{then-not-is_right, else-not-is_right}

pub loop-stripe-preserved : goal.loop-stripe-preserved
loop-stripe-preserved c =
    elim c.if-not-is_right.branch [
      | then-not-is_right w ↦ (
        omega (arith, w.wrong-is, c.loop-stripe.invariant.0),
        (λ z. absurd (omega (arith, w.wrong-is, z))),
        (λ all. absurd (true≢false (sym (c.is_right.ensures.1 (all c.loop-stripe.stripe (omega arith))) ∙ w.if-not-is_right.true))),
      )
      | else-not-is_right w ↦ (
        omega (arith, w.wrong-is, c.loop-stripe.invariant.0),
        (λ z. below_more _ _ (c.loop-stripe.invariant.1 (sym w.wrong-is ∙ z)) (c.is_right.ensures.0 w.if-not-is_right.false)),
        (λ all. w.wrong-is ∙ c.loop-stripe.invariant.2 (λ s lt. all s (omega arith))),
      )
    ]

pub returns : goal.returns
returns c =
    let m = memory_means c.args.memory.now in
    let at : c.loop-stripe.stripe ≡ c.args.stripes = omega (arith, c.loop-stripe.auto.stripe-end, c.loop-stripe-test.false) in
    let P : ℕ → Type 0 = λ n. AllRight m n in
    record {
      most = omega (arith, c.loop-stripe.invariant.0, at);
      right = λ z. subst P at (c.loop-stripe.invariant.1 z);
      wrong = λ all. c.loop-stripe.invariant.2 (subst P (sym at) all);
    }
