-- The number that bytes begin with, and how many bytes it takes, or why there is none.
use Rattle.std.specs.Prelude.{ℕ, zero, suc, ◌+◌, ◌-◌, ◌*◌, cond, List, [], ◌∷◌, Ok, Err, Result, ◌==◌, nat_lt}
use Rattle.leb128.specs.declared.decoded.Decoded.{Decoded}
use Rattle.leb128.specs.declared.decoded.DecodeError.{DecodeError}
use Rattle.leb128.specs.declared.decoded.DecodeError.TheVariants.{LongerForm, Overflow, EndOfBytes}

abbrev pub number : ℕ → ℕ → Decoded
number v k = record { value = v; taken = k }

-- a group b with more to follow, before the number of those; in shortest form the last group is not zero
abbrev pub before : ℕ → Result Decoded DecodeError → Result Decoded DecodeError
before b (Err e) = Err e
before b (Ok x) = cond (x.value == 0) (Err LongerForm) (Ok (number ((b - 128) + 128 * x.value) (x.taken + 1)))

-- the number of at most `most` groups that the bytes begin with
unfoldable pub ungrouped : ℕ → List ℕ → Result Decoded DecodeError
ungrouped zero bs = Err Overflow
ungrouped (suc most) [] = Err EndOfBytes
ungrouped (suc most) (b ∷ bs) = cond (nat_lt b 128) (Ok (number b 1)) (before b (ungrouped most bs))

-- no number is above 4,294,967,295
abbrev pub limited : Result Decoded DecodeError → Result Decoded DecodeError
limited (Err e) = Err e
limited (Ok x) = cond (nat_lt x.value 4294967296) (Ok x) (Err Overflow)

abbrev pub decoding : List ℕ → Result Decoded DecodeError
decoding bs = limited (ungrouped 5 bs)
