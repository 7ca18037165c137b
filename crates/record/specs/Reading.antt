-- The record that a block holds, if any: read number by number from the opening bytes on.
use Rattle.std.specs.Prelude.{ℕ, zero, suc, ◌+◌, Bool, cond, ◌&&◌, List, [], ◌∷◌, drop, Some, None, Ok, Err, Option, Result, ◌==◌, nat_le, nat_lt, slice_index}
use Rattle.leb128.specs.declared.decoded.Decoded.{Decoded}
use Rattle.leb128.specs.declared.decoded.DecodeError.{DecodeError}
use Rattle.leb128.specs.Decoding.{decoding}
use Rattle.zero_bytes.specs.Zeros.{zeros}
use Rattle.record.specs.Contents.{Contents}
use Rattle.record.specs.Limits.{allowed}
use Rattle.record.specs.Form.{opening}

abbrev pub opens : List ℕ → Bool
opens bs = slice_index bs 0 == slice_index opening 0 && (slice_index bs 1 == slice_index opening 1 && (slice_index bs 2 == slice_index opening 2 && slice_index bs 3 == slice_index opening 3))

-- a number, and what it leads to
abbrev pub then_number : Result Decoded DecodeError → (Decoded → Option Contents) → Option Contents
then_number (Err e) f = None
then_number (Ok d) f = f d

-- a stripe at least `least` above `from` and not above the limit, and where it ends
abbrev pub above : ℕ → ℕ → ℕ → Result Decoded DecodeError → Option (ℕ × ℕ)
above least from at (Err e) = None
above least from at (Ok d) = cond (nat_le least d.value && nat_lt (from + d.value) 4294967296) (Some (from + d.value, at + d.taken)) None

abbrev pub prepended : ℕ → Option (List ℕ × ℕ) → Option (List ℕ × ℕ)
prepended s None = None
prepended s (Some x) = Some (s ∷ x.0, x.1)

-- a stripe, and then the others from where it ends
abbrev pub then_stripes : Option (ℕ × ℕ) → (ℕ → ℕ → Option (List ℕ × ℕ)) → Option (List ℕ × ℕ)
then_stripes None others = None
then_stripes (Some x) others = prepended x.0 (others x.0 x.1)

-- n stripes from `at` on, each at least 1 above the one before, and where they end
unfoldable pub stripes_from : ℕ → ℕ → ℕ → List ℕ → ℕ → Option (List ℕ × ℕ)
stripes_from zero least from bs at = Some ([], at)
stripes_from (suc n) least from bs at = then_stripes (above least from at (decoding (drop at bs))) (λ s end. stripes_from n 1 s bs end)

-- zeros after the last stripe
abbrev pub ended : ℕ → List ℕ → Option (List ℕ × ℕ) → Option Contents
ended v bs None = None
ended v bs (Some x) = cond (zeros (drop x.1 bs)) (Some (record { version = v; stripes = x.0 })) None

-- version v, and a count whose bytes start at `at`
abbrev pub counted : ℕ → List ℕ → ℕ → Decoded → Option Contents
counted v bs at n = cond (allowed v n.value) (ended v bs (stripes_from n.value 0 0 bs (at + n.taken))) None

unfoldable pub recorded : List ℕ → Option Contents
recorded bs =
    cond (opens bs) (then_number (decoding (drop 4 bs)) (λ v. then_number (decoding (drop (4 + v.taken) bs)) (counted v.value bs (4 + v.taken)))) None
