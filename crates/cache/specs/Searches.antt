-- What the searches through the slots find. Assumes nothing.
use Rattle.std.specs.Prelude.{ℕ, ◌<◌, ◌≤◌, min, cond, Some, None, Option, MatchOption}
use Rattle.cache.specs.declared.slot.Cache.{Cache}
use Rattle.cache.specs.Slots.{Slot, same}
use Rattle.cache.specs.Stripes.{stripe_of_block}

-- The stripe of a slot's block, if that belongs to the cache o and the array has it.
abbrev pub slot_stripe : ℕ → ℕ → Cache → Slot → Option ℕ
slot_stripe m n o None = None
slot_stripe m n o (Some e) = cond (same e.cache o) (stripe_of_block m n e.block) None

-- r is the lowest number from n on of which P holds, None where there is none.
abbrev pub LowestFrom : (ℕ → Type 0) → ℕ → Option ℕ → Type 0
LowestFrom P n r = MatchOption r ((s : ℕ) → P s → s < n) (λ t. (n ≤ t) × P t × ((s : ℕ) → P s → n ≤ s → t ≤ s))

-- The lower of two numbers, of which the first may be none.
abbrev pub lower : Option ℕ → ℕ → ℕ
lower None s = s
lower (Some t) s = min t s
