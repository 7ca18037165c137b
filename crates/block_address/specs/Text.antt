-- What an address says to a user.
use Rattle.std.specs.Prelude.{ℕ, List, ◌++◌, codes, decimal}
use Rattle.block_address.specs.declared.Address.{Address}

abbrev pub place_text : Address → List ℕ
place_text p = codes "block " ++ (decimal p.block ++ (codes " of member " ++ decimal p.member))
