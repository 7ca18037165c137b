-- The exclusive or of blocks, byte by byte. Assumes nothing.
use Rattle.std.specs.Prelude.{◌≡◌, ℕ, zero, suc, List, [], ◌∷◌, length, replicate, bit_xor, slice_index, slice_index_or}
use Rattle.std.specs.Simd.Lanes.{zip2, fold_l}

-- of two blocks
abbrev pub xored : List ℕ → List ℕ → List ℕ
xored = zip2 bit_xor

abbrev pub zeros : List ℕ
zeros = replicate 512 0

-- of any number of blocks, which have 512 bytes each
abbrev pub parity_of : List (List ℕ) → List ℕ
parity_of blocks = fold_l xored zeros blocks

-- All have 512 bytes.
abbrev pub Whole : List (List ℕ) → Type 0
Whole [] = Unit {0}
Whole (block ∷ blocks) = (length block ≡ 512) × Whole blocks

-- The blocks but the one at i.
abbrev pub without : ℕ → List (List ℕ) → List (List ℕ)
without i [] = []
without zero (block ∷ blocks) = blocks
without (suc i) (block ∷ blocks) = block ∷ without i blocks

-- In a stripe's blocks, data and parity in any order, the one at i is the exclusive or of the others.
abbrev pub OthersGive : List (List ℕ) → ℕ → Type 0
OthersGive blocks i = slice_index_or blocks i [] ≡ parity_of (without i blocks)

-- The exclusive or of the bytes at one offset.
abbrev pub byte_sum : List (List ℕ) → ℕ → ℕ
byte_sum [] i = 0
byte_sum (block ∷ blocks) i = bit_xor (slice_index block i) (byte_sum blocks i)
