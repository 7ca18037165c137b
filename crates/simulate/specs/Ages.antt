-- Kinds of tokens by age, the oldest first.
use Rattle.std.specs.Prelude.{◌≡◌, ℕ, ◌+◌, ◌<◌, List, ◌++◌, length, take, drop, Option, ◌≢◌, slice_index_or}
use Rattle.std.specs.Option as options
use Rattle.array_run.specs.declared.call.TokenKind.{TokenKind}

-- From place i on none is of kind k.
abbrev pub NoneFrom : List TokenKind → TokenKind → ℕ → Type 0
NoneFrom kinds k i = (j : ℕ) (d : TokenKind) → i < j + 1 → j < length kinds → slice_index_or kinds j d ≢ k

-- The place o of the newest of kind k, where there is one.
abbrev pub NewestOf : List TokenKind → TokenKind → Option ℕ → Type 0
NewestOf kinds k o =
    options.MatchOption o (NoneFrom kinds k 0)
    (λ i. (i < length kinds) × ((d : TokenKind) → slice_index_or kinds i d ≡ k) × NoneFrom kinds k (i + 1))

-- The newest of kind k is gone, and the others are as they were.
abbrev pub Forgets : List TokenKind → TokenKind → List TokenKind → Type 0
Forgets kinds k later = (o : Option ℕ) × NewestOf kinds k o × options.MatchOption o (later ≡ kinds) (λ i. later ≡ take i kinds ++ drop (i + 1) kinds)
