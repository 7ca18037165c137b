use Rattle.std.proofs.Common.{◌≡◌, ◌++◌, map, take, drop}
use Rattle.geometry.specs.Counts.{members_of, blocks_of}
use Rattle.cache.specs.Stripes.{in_stripe}
use Rattle.cache.specs.Slots.{slot_freed}
use Rattle.cache.proofs.change.free_slots_of.Given as goal

abbrev pub invariant-loop-slot : goal.invariant-loop-slot
invariant-loop-slot l = l.slots ≡ map (slot_freed (in_stripe (members_of l.shape) (blocks_of l.shape) l.stripe)) (take l.slot-index l.initial.slots) ++ drop l.slot-index l.initial.slots
