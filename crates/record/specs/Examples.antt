-- The worked examples: those of the numbers, and version 2 with stripes 3, 5 and 300, written and read.
use Rattle.std.specs.Prelude.{◌≡◌, ℕ, List, [], ◌∷◌, ◌++◌, replicate, Some}
use Rattle.leb128.specs.Examples.{WorkedExamples as NumberExamples}
use Rattle.record.specs.Contents.{Contents}
use Rattle.record.specs.Form.{block}
use Rattle.record.specs.Reading.{recorded}

abbrev pub example_stripes : List ℕ
example_stripes = 3 ∷ 5 ∷ 300 ∷ []

abbrev pub example : Contents
example = record { version = 2; stripes = example_stripes }

abbrev pub example_block : List ℕ
example_block = (0x49 ∷ 0x4C ∷ 0x30 ∷ 0x31 ∷ 0x02 ∷ 0x03 ∷ 0x03 ∷ 0x02 ∷ 0xA7 ∷ 0x02 ∷ []) ++ replicate 502 0

pub record WorkedExamples : Type 0 where
  pub numbers : NumberExamples
  pub written : block example ≡ example_block
  pub read : recorded example_block ≡ Some example
