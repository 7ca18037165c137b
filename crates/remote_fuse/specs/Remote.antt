-- A setting that comes from outside: no definition can tell it.
use Rattle.std.specs.Prelude.{ℕ, Option}

-- P holds at some setting.
abbrev pub AtSome : (Option ℕ → Type 0) → Type 0
AtSome P = (left : Option ℕ) × P left
