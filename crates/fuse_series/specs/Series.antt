-- A series of settings, the next one last: which one a power-on takes, and those that remain.
use Rattle.std.specs.Prelude.{ℕ, ◌-◌, List, length, take, None, Option, slice_index_or}

-- The last setting; no setting where the series has ended.
abbrev pub next_setting : List (Option ℕ) → Option ℕ
next_setting l = slice_index_or l (length l - 1) None

-- All but the last.
abbrev pub later_settings : List (Option ℕ) → List (Option ℕ)
later_settings l = take (length l - 1) l
