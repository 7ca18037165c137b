use Rattle.std.proofs.Common.{◌≡◌, ◌++◌, map, take, drop}
use Rattle.cache.specs.Slots.{slot_exchanged}
use Rattle.cache.proofs.change.exchange.Given as goal

abbrev pub invariant-loop-slot : goal.invariant-loop-slot
invariant-loop-slot l = l.slots ≡ map slot_exchanged (take l.slot-index l.initial.slots) ++ drop l.slot-index l.initial.slots
