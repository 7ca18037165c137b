-- Lists of blocks made from a function, and filled row by row. Assumes nothing.
use Rattle.std.proofs.Common.{◌≡◌, ℕ, zero, suc, ◌+◌, ◌<◌, List, [], ◌∷◌, ◌++◌, length, take, set, sym, refl, ap, ◌∙◌, add-one, arith}
use Rattle.std.proofs.lemmas.List.{take_more_set}
use Rattle.std.proofs.lemmas.List.FromFn.{map-range_with_len_more}
use Rattle.stripe_work.specs.Stripe.{listed}

pub listed_more : (f : ℕ → List ℕ) (n : ℕ) → listed f (n + 1) ≡ listed f n ++ f n ∷ []
listed_more f n = map-range_with_len_more f 0 n n (omega arith)

pub listed_same : (f g : ℕ → List ℕ) (n : ℕ) → ((j : ℕ) → j < n → f j ≡ g j) → listed f n ≡ listed g n
listed_same f g zero h = refl
listed_same f g (suc n) h =
    ap (listed f) (sym (add-one n)) ∙ listed_more f n
    ∙ ap (λ l. l ++ f n ∷ []) (listed_same f g n (λ j l. h j (omega arith)))
    ∙ ap (λ x. listed g n ++ x ∷ []) (h n (omega arith))
    ∙ sym (listed_more g n) ∙ ap (listed g) (add-one n)

-- one row more is filled
pub row_more : (f : ℕ → List ℕ) (rows : List (List ℕ)) (j : ℕ) (x : List ℕ) → j < length rows → take j rows ≡ listed f j → x ≡ f j → take (j + 1) (set rows j x) ≡ listed f (j + 1)
row_more f rows j x l h e = take_more_set rows j x l ∙ ap (λ r. r ++ x ∷ []) h ∙ ap (λ y. listed f j ++ y ∷ []) e ∙ sym (listed_more f j)
