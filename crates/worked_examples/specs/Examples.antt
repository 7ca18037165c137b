-- The worked examples, as one table of results computed from the definitions. Assumes nothing.
use Rattle.std.specs.Prelude.{◌≡◌, List, [], ◌∷◌, ℕ, replicate}
use Rattle.geometry.specs.Layouts.{right_asymmetric, left_asymmetric, left_symmetric}
use Rattle.geometry.specs.Places.{stripe_of, position_of}
use Rattle.parity.specs.Xor.{parity_of}
use Rattle.record.specs.Examples.{WorkedExamples as RecordExamples}

-- Block k of m members: its stripe, its position, and its member by qualifiers 0, 2 and 3.
abbrev pub place_of : ℕ → ℕ → List ℕ
place_of m k =
    stripe_of m k
    ∷ position_of m k
    ∷ (right_asymmetric m (stripe_of m k)).member (position_of m k)
    ∷ (left_asymmetric m (stripe_of m k)).member (position_of m k)
    ∷ (left_symmetric m (stripe_of m k)).member (position_of m k)
    ∷ []

-- A block of one byte, over and over.
abbrev pub filled : ℕ → List ℕ
filled b = replicate 512 b

pub record Examples : Type 0 where
  pub block_16_of_4 : place_of 4 16 ≡ 5 ∷ 1 ∷ 2 ∷ 1 ∷ 0 ∷ []
  pub block_0_of_3 : place_of 3 0 ≡ 0 ∷ 0 ∷ 1 ∷ 0 ∷ 0 ∷ []
  pub parity : parity_of (filled 0x0F ∷ filled 0x33 ∷ filled 0x55 ∷ []) ≡ filled 0x69
  pub lost : parity_of (filled 0x0F ∷ filled 0x55 ∷ filled 0x69 ∷ []) ≡ filled 0x33
  -- numbers in groups of seven bits, and a record of the ring log
  pub records : RecordExamples
