-- Two rising lists together, each stripe once.
use Rattle.std.specs.Prelude.{ℕ, cond, List, [], ◌∷◌, ◌==◌, nat_lt}

-- x in its place among the second list, before what the others of the first give
abbrev pub placed : ℕ → (List ℕ → List ℕ) → List ℕ → List ℕ
placed x others [] = x ∷ others []
placed x others (y ∷ ys) = cond (nat_lt x y) (x ∷ others (y ∷ ys)) (cond (x == y) (x ∷ others ys) (y ∷ placed x others ys))

unfoldable pub merged : List ℕ → List ℕ → List ℕ
merged [] ys = ys
merged (x ∷ xs) ys = placed x (λ zs. merged xs zs) ys
