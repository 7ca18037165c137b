-- The flag's record in its block: first byte 1 names nothing, 2 names every stripe, the other 511 bytes are zero.
-- Other bytes are no record.
use Rattle.std.specs.Prelude.{ℕ, Bool, true, false, cond, List, ◌∷◌, drop, replicate, Some, None, Option, ◌==◌, slice_index}
use Rattle.zero_bytes.specs.Zeros.{zeros}
use Rattle.flag_log.specs.declared.flag.FlagRecord.{FlagRecord}
use Rattle.flag_log.specs.declared.flag.FlagRecord.TheVariants.{NamesNothing, NamesEvery}

abbrev pub every : Option FlagRecord → Bool
every None = false
every (Some NamesNothing) = false
every (Some NamesEvery) = true

abbrev pub first_byte : Option FlagRecord → ℕ
first_byte None = 0
first_byte (Some NamesNothing) = 1
first_byte (Some NamesEvery) = 2

-- the block of a record, or zeros for none
abbrev pub flag_block : Option FlagRecord → List ℕ
flag_block o = first_byte o ∷ replicate 511 0

abbrev pub byte_record : ℕ → Option FlagRecord
byte_record n = cond (n == 1) (Some NamesNothing) (cond (n == 2) (Some NamesEvery) None)

unfoldable pub flag_record : List ℕ → Option FlagRecord
flag_record bs = cond (zeros (drop 1 bs)) (byte_record (slice_index bs 0)) None
