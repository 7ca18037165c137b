-- The flag's record in its block.
use Rattle.std.specs.Prelude.{◌≡◌, ℕ, Bool, cond, List, drop, Some, None, Option, slice_index, refl}
use Rattle.std.proofs.Common.{ap}
use Rattle.zero_bytes.specs.Zeros.{zeros}
use Rattle.flag_log.specs.declared.flag.FlagRecord.{FlagRecord}
use Rattle.flag_log.specs.declared.flag.FlagRecord.TheVariants.{NamesNothing, NamesEvery}
use Rattle.flag_log.specs.Form.{flag_block, byte_record, flag_record}

pub read_back : (o : Option FlagRecord) → o ≡ flag_record (flag_block o)
unfolding flag_record
read_back None = refl
read_back (Some NamesNothing) = refl
read_back (Some NamesEvery) = refl

-- from the first byte, and whether the others are zero
pub by_parts : (bs : List ℕ) (z : Bool) → z ≡ zeros (drop 1 bs) → cond z (byte_record (slice_index bs 0)) None ≡ flag_record bs
unfolding flag_record
by_parts bs z e = ap (λ (y : Bool). cond y (byte_record (slice_index bs 0)) None) e
