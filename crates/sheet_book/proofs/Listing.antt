-- Bases of zeros, one by one.
use Rattle.std.proofs.Common.{◌≡◌, ℕ, ◌+◌, ◌<◌, List, [], ◌∷◌, ◌++◌, length, get_or, drop, set, replicate, sym, ap, ◌∙◌, append_assoc}
use lib.ListN.{length-replicate}
use lib.Seq.{set_at}
use Rattle.std.proofs.lemmas.List.{drop_more, replicate_more}

-- one more place of a list is filled
pub filled : {X : Type 0} (xs : List X) (i : ℕ) (z : X) → i < length xs → set (replicate i z ++ drop i xs) i z ≡ replicate (i + 1) z ++ drop (i + 1) xs
filled xs i z lt =
    ap (λ ys. set (replicate i z ++ ys) i z) (drop_more xs i z lt)
    ∙ set_at (replicate i z) (get_or xs i z) (drop (i + 1) xs) z i (length-replicate i z)
    ∙ sym (append_assoc (replicate i z) (z ∷ []) (drop (i + 1) xs))
    ∙ ap (λ ys. ys ++ drop (i + 1) xs) (replicate_more i z)
