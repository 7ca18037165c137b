-- What a refusal says to a user.
use Rattle.std.specs.Prelude.{ℕ, List, ◌++◌, Some, None, codes, decimal}
use Rattle.block_address.specs.Text.{place_text}
use Rattle.member_store.specs.declared.refusal.Refusal.{Refusal}
use Rattle.member_store.specs.declared.refusal.Refusal.TheVariants.{PowerOff, NoMember, NoBlock, WrongLength}

abbrev pub text : Refusal → List ℕ
text (PowerOff (Some p)) = codes "refused (1): no power at " ++ place_text p
text (PowerOff None) = codes "refused (1): no power at a barrier"
text (NoMember m) = codes "refused (7): no member " ++ decimal m
text (NoBlock b) = codes "refused (7): no block " ++ decimal b
text (WrongLength n) = codes "refused (8): " ++ (decimal n ++ codes " bytes are no block")
