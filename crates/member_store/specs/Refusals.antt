-- The number and the place of a refusal, and which refusal says that power is missing.
use Rattle.std.specs.Prelude.{ℕ, Some, None, Option}
use Rattle.block_address.specs.declared.Address.{Address}
use Rattle.member_store.specs.declared.refusal.Refusal.{Refusal}
use Rattle.member_store.specs.declared.refusal.Refusal.TheVariants.{PowerOff, NoMember, NoBlock, WrongLength}

abbrev pub number : Refusal → ℕ
number (PowerOff p) = 1
number (NoMember m) = 7
number (NoBlock b) = 7
number (WrongLength n) = 8

-- The block that the device call without power was for; a barrier has none, and neither has another refusal.
abbrev pub place : Refusal → Option Address
place (PowerOff p) = p
place (NoMember m) = None
place (NoBlock b) = None
place (WrongLength n) = None

-- Power is missing, at whatever place.
abbrev pub IsPowerOff : Refusal → Type 0
IsPowerOff (PowerOff p) = Unit {0}
IsPowerOff (NoMember m) = ⊥
IsPowerOff (NoBlock b) = ⊥
IsPowerOff (WrongLength n) = ⊥

-- Power is missing in a call for block b of member m, and in a barrier.
abbrev pub off_at : ℕ → ℕ → Refusal
off_at m b = PowerOff (Some (record { member = m; block = b }))

abbrev pub off_at_barrier : Refusal
off_at_barrier = PowerOff None
