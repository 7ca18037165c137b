use Rattle.std.proofs.Common.{◌≡◌, ℕ, ◌&&◌, eqb, List, [], ◌∷◌, refl, ap, ◌∙◌, rules}
use Rattle.std.specs.List.{list_all}
use Rattle.std.proofs.lemmas.Iterator.{YieldsList-from_slice}
use Rattle.std.proofs.lemmas.Iterator.Search.{all_from_yields_List}
use borrow.Author.Tests.{tests}
use Rattle.zero_bytes.specs.Zeros.{zeros}
use Rattle.zero_bytes.proofs.all_zero.Goals as goal

same : (bs : List ℕ) → list_all (λ b. eqb b 0) bs ≡ zeros bs
same [] = refl
same (b ∷ bs) = ap (λ r. eqb b 0 && r) (same bs)

pub returns : goal.returns
returns c =
    all_from_yields_List (λ b. eqb b 0) _ _ _ c.all.ensures.ran (YieldsList-from_slice c.args.bytes.now cc) (λ x b q k. search (rules, tests))
    ∙ same c.args.bytes.now
