-- Which version may go with how many stripes: versions start at 1, a record names at most 64 stripes, and the
-- highest version, 4,294,967,295, names none.
use Rattle.std.specs.Prelude.{ℕ, Bool, cond, ◌&&◌, ◌||◌, List, length, Some, None, Option, ◌==◌, nat_le, nat_lt}
use Rattle.record.specs.Contents.{Contents}

abbrev pub allowed : ℕ → ℕ → Bool
allowed v n = nat_lt 0 v && (nat_le n 64 && (nat_lt v 4294967295 || n == 0))

-- the record of a version and its stripes, where it may be
abbrev pub checked : ℕ → List ℕ → Option Contents
checked v ss = cond (allowed v (length ss)) (Some (record { version = v; stripes = ss })) None
