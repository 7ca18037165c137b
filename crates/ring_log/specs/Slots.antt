-- The slot rule: a ring's slots are the first blocks of its store, at most 64; slot i is block i div m of member
-- i mod m, where m counts members. Version v goes to slot v mod the number of slots.
use Rattle.std.specs.Prelude.{ℕ, ◌*◌, ◌/◌, ◌%◌, min}
use Rattle.block_address.specs.declared.Address.{Address}

abbrev pub slots : ℕ → ℕ → ℕ
slots m b = min 64 (m * b)

abbrev pub slot_member : ℕ → ℕ → ℕ
slot_member m i = i % m

abbrev pub slot_block : ℕ → ℕ → ℕ
slot_block m i = i / m

abbrev pub slot_place : ℕ → ℕ → Address
slot_place m i = record { member = slot_member m i; block = slot_block m i }

abbrev pub slot_for : ℕ → ℕ → ℕ → ℕ
slot_for m b v = v % slots m b
