-- The bytes that an encoded number holds.
use Rattle.std.specs.Prelude.{ℕ, List, take}
use Rattle.leb128.specs.declared.encoded.Encoded.{Encoded}

abbrev pub written : Encoded → List ℕ
written e = take e.len e.bytes
