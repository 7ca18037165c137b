-- What a refusal says to a user.
use Rattle.std.specs.Prelude.{ℕ, List, ◌++◌, codes, decimal}
use Rattle.parity.specs.declared.refusal.Refusal.{Refusal}
use Rattle.parity.specs.declared.refusal.Refusal.TheVariants.{BlockCount, WrongLength}

abbrev pub refusal_text : Refusal → List ℕ
refusal_text (BlockCount count) = decimal count ++ codes " blocks, not 2 to 7"
refusal_text (WrongLength len) = codes "a buffer of " ++ (decimal len ++ codes " bytes, not 512")
