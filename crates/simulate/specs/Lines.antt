-- Bytes that are all the same.
use Rattle.std.specs.Prelude.{◌≡◌, ℕ, ◌<◌, List, length, Option, slice_index}
use Rattle.std.specs.Option as options

-- Every byte is f.
abbrev pub AllAre : List ℕ → ℕ → Type 0
AllAre bytes f = (k : ℕ) → k < length bytes → slice_index bytes k ≡ f

-- o is the byte that fills all of them; none where they differ, or there are none.
abbrev pub FillOf : List ℕ → Option ℕ → Type 0
FillOf bytes o = options.MatchOption o ((f : ℕ) → 0 < length bytes → AllAre bytes f → ⊥) (λ f. (0 < length bytes) × AllAre bytes f)
