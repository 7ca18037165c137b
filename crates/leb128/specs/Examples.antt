-- The worked examples, as a table.
use Rattle.std.specs.Prelude.{◌≡◌, ℕ, List, [], ◌∷◌, map, length, Ok, Err}
use Rattle.leb128.specs.declared.decoded.DecodeError.TheVariants.{LongerForm, Overflow, EndOfBytes}
use Rattle.leb128.specs.Encoding.{encoding}
use Rattle.leb128.specs.Decoding.{decoding, number}

abbrev pub numbers : List (ℕ × List ℕ)
numbers =
    (127, 0x7F ∷ [])
    ∷ (128, 0x80 ∷ 0x01 ∷ [])
    ∷ (300, 0xAC ∷ 0x02 ∷ [])
    ∷ (4294967295, 0xFF ∷ 0xFF ∷ 0xFF ∷ 0xFF ∷ 0x0F ∷ [])
    ∷ []

pub record WorkedExamples : Type 0 where
  pub encodes : map (λ (r : ℕ × List ℕ). encoding r.0) numbers ≡ map (λ (r : ℕ × List ℕ). r.1) numbers
  pub decodes : map (λ (r : ℕ × List ℕ). decoding r.1) numbers ≡ map (λ (r : ℕ × List ℕ). Ok (number r.0 (length r.1))) numbers
  pub longer : decoding (0x80 ∷ 0x00 ∷ []) ≡ Err LongerForm
  pub large : decoding (0xFF ∷ 0xFF ∷ 0xFF ∷ 0xFF ∷ 0x10 ∷ []) ≡ Err Overflow
  pub short : decoding (0xFF ∷ 0xFF ∷ []) ≡ Err EndOfBytes
