use Rattle.std.proofs.Common.{◌≡◌, List, ℕ, ◌++◌, take, sym, ap, ◌∙◌}
use Rattle.std.proofs.lemmas.List.{append-nil}
use Rattle.stripe_set.specs.Rising.{rising}
use Rattle.stripe_set.specs.Stripes.{stripes}
use Rattle.stripe_set.specs.Union.{merged}
use Rattle.stripe_set.proofs.Lists.{merged_both, merged_rising}
use Rattle.stripe_set.proofs.set.StripeSet.union.Goals as goal

pub returns-then-len-eq-MOST-clause-both : goal.returns-then-len-eq-MOST-clause-both
returns-then-len-eq-MOST-clause-both c = merged_both _ _

pub invariant_of-result-clause-rising : goal.invariant_of-result-clause-rising
invariant_of-result-clause-rising c =
    let v = c.loop-stripe in
    let all : take v.len v.items ≡ merged (stripes c.args.self.now) (stripes c.args.other.now) =
    sym (append-nil (take v.len v.items)) ∙ ap (λ (l : List ℕ). take v.len v.items ++ l) (sym c.in_default.ensures.value) ∙ v.invariant.all in
    ap (rising 0) all ∙ merged_rising (stripes c.args.self.now) 0 (stripes c.args.other.now) c.args.self.now.rising c.args.other.now.rising

pub returns-clause-both : goal.returns-clause-both
returns-clause-both c = merged_both _ _
