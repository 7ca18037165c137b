-- Encoding and decoding undo each other, both ways.
use Rattle.std.specs.Prelude.{◌≡◌, ℕ, List, ◌++◌, length, take, Ok}
use Rattle.leb128.specs.declared.decoded.Decoded.{Decoded}
use Rattle.leb128.specs.Encoding.{encoding}
use Rattle.leb128.specs.Decoding.{decoding, number}

-- these bytes are read back as n, whatever follows them
abbrev pub ReadBack : ℕ → List ℕ → Type 0
ReadBack n bs = (rest : List ℕ) → decoding (bs ++ rest) ≡ Ok (number n (length bs))

-- what d took of the bytes are the bytes that are written of its number
abbrev pub TakenWere : List ℕ → Decoded → Type 0
TakenWere bs d = take d.taken bs ≡ encoding d.value
