-- Which stripes are named: membership in a list, and the least named stripe at or above a number.
use Rattle.std.specs.Prelude.{◌≡◌, ℕ, ◌<◌, ◌≤◌, Bool, true, false, ◌||◌, List, [], ◌∷◌, Option, ◌==◌}
use Rattle.std.specs.Option as options

abbrev pub named : ℕ → List ℕ → Bool
named s [] = false
named s (x ∷ xs) = s == x || named s xs

-- r is the least stripe at or above `at` that is named, or none where none is
abbrev pub LeastFrom : (ℕ → Bool) → ℕ → Option ℕ → Type 0
LeastFrom names at r =
    options.MatchOption r
    ((s : ℕ) → at ≤ s → names s ≡ false)
    (λ n. (at ≤ n) × (names n ≡ true) × ((s : ℕ) → at ≤ s → s < n → names s ≡ false))

-- zs names just the stripes that xs or ys names
abbrev pub InBoth : List ℕ → List ℕ → List ℕ → Type 0
InBoth zs xs ys = (s : ℕ) → named s zs ≡ (named s xs || named s ys)
