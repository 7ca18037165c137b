-- What an error says to a user.
use Rattle.std.specs.Prelude.{ℕ, List, codes}
use Rattle.leb128.specs.declared.decoded.DecodeError.{DecodeError}
use Rattle.leb128.specs.declared.decoded.DecodeError.TheVariants.{LongerForm, Overflow, EndOfBytes}

abbrev pub error_text : DecodeError → List ℕ
error_text LongerForm = codes "a number in a longer form than it needs"
error_text Overflow = codes "a number above 4294967295"
error_text EndOfBytes = codes "the bytes end inside a number"
