-- How the caches share the 32 slots: each slot is free or has one block of one cache. Assumes nothing.
use Rattle.std.specs.Prelude.{◌≡◌, ℕ, ◌+◌, Bool, true, false, not, ◌&&◌, ◌||◌, List, [], ◌∷◌, length, is_some, ◌==◌}
use Rattle.cache.specs.Contents.{Blocks, Contents}

abbrev pub member : ℕ → List ℕ → Bool
member k [] = false
member k (j ∷ js) = j == k || member k js

abbrev pub distinct : List ℕ → Bool
distinct [] = true
distinct (k ∷ ks) = not (member k ks) && distinct ks

-- ks are the blocks of a cache, each once.
pub record Numbers (f : Blocks) (ks : List ℕ) : Type 0 where
  pub once : distinct ks ≡ true
  pub cached : (k : ℕ) → is_some (f k) ≡ member k ks

-- The free slots and the blocks of both caches are 32 in all.
pub record Shared (c : Contents) : Type 0 where
  pub buffered : List ℕ
  pub destaged : List ℕ
  pub buffering : Numbers c.buffering buffered
  pub destaging : Numbers c.destaging destaged
  pub total : c.free + length buffered + length destaged ≡ 32
