use Rattle.std.proofs.Common.{◌≡◌, ℕ, ◌+◌, ◌<◌, true, false, cond, leb, List, [], ◌∷◌, Some, None, Option, sym, refl, ap, ◌∙◌, subst, arith, rules}
use Rattle.std.specs.List.{find}
use Rattle.std.specs.Option.{option_map}
use Rattle.std.proofs.lemmas.Bool.{leb-true, leb-false, or_left, or_right, or_from, eq-eqb, ne_eqb}
use Rattle.std.proofs.lemmas.Iterator.{YieldsList-from_slice}
use Rattle.std.proofs.lemmas.Iterator.Consumers.{YieldsList-from_copied}
use Rattle.std.proofs.lemmas.Iterator.Search.{find_from_yields_List}
use borrow.Author.Tests.{tests}
use Rattle.stripe_set.specs.Rising.{rising}
use Rattle.stripe_set.specs.Named.{named, LeastFrom}
use Rattle.stripe_set.specs.Stripes.{stripes}
use Rattle.stripe_set.proofs.Lists.{or_skip, below_none, rising_tail}
use Rattle.stripe_set.proofs.set.StripeSet.least_from.Goals as goal

-- a stripe below `at` in front changes nothing
past : (at x : ℕ) (xs : List ℕ) (o : Option ℕ) → x < at → LeastFrom (λ s. named s xs) at o → LeastFrom (λ s. named s (x ∷ xs)) at o
past at x xs None h f = λ s k. or_skip _ _ (ne_eqb s x (λ e. omega arith)) ∙ f s k
past at x xs (Some n) h f = (f.0, or_right _ _ f.1, λ s k l. or_skip _ _ (ne_eqb s x (λ e. omega arith)) ∙ f.2 s k l)

first_is_least : (at a : ℕ) (xs : List ℕ) → rising a xs ≡ true → LeastFrom (λ s. named s xs) at (find (leb at) xs)
first_is_least at a [] r = λ s h. refl
first_is_least at a (x ∷ xs) r =
    elim (leb at x) as (λ b. leb at x ≡ b → LeastFrom (λ s. named s (x ∷ xs)) at (cond b (Some x) (find (leb at) xs))) [ true ↦ λ e. (leb-true at x e, or_left _ _ (eq-eqb x x refl), λ s h k. or_from _ _ (ne_eqb s x (λ q. omega arith)) (below_none (x + 1) s xs (rising_tail a x xs r).2 (omega arith))) | false ↦ λ e. past at x xs (find (leb at) xs) (leb-false at x e) (first_is_least at (x + 1) xs (rising_tail a x xs r).2) ] refl

as_it_is : (o : Option ℕ) → option_map (λ x. x) o ≡ o
as_it_is None = refl
as_it_is (Some x) = refl

pub returns : goal.returns
returns c =
    let own = c.as_slice.result.now in
    let e = find_from_yields_List (leb c.args.at) _ _ c.find.result c.find.ensures.ran (YieldsList-from_copied (YieldsList-from_slice own cc)) (λ x b q k. search (rules, tests)) in
    subst (λ (o : Option ℕ). LeastFrom (λ s. named s (stripes c.args.self.now)) c.args.at o) (ap (find (leb c.args.at)) (sym c.as_slice.ensures) ∙ sym e ∙ as_it_is c.find.result)
    (first_is_least c.args.at 0 (stripes c.args.self.now) c.args.self.now.rising)
