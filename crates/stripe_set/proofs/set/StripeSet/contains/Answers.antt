use Rattle.std.proofs.Common.{◌≡◌, ℕ, ◌||◌, eqb, List, [], ◌∷◌, refl, ap, ◌∙◌, arith}
use Rattle.std.specs.List.{list_any}
use Rattle.std.proofs.lemmas.Bool.Decides.{nat_tests}
use Rattle.stripe_set.specs.Named.{named}
use Rattle.stripe_set.proofs.set.StripeSet.contains.Goals as goal

either_order : (a b : ℕ) → eqb a b ≡ eqb b a
either_order a b = grind (arith, nat_tests)

same : (s : ℕ) (xs : List ℕ) → list_any (λ x. eqb x s) xs ≡ named s xs
same s [] = refl
same s (x ∷ xs) = ap (λ b. b || list_any (λ x. eqb x s) xs) (either_order x s) ∙ ap (λ b. eqb s x || b) (same s xs)

pub returns : goal.returns
returns c = c.contains.ensures.value ∙ same c.args.stripe _ ∙ ap (named c.args.stripe) c.as_slice.ensures
