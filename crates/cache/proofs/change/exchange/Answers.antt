use Rattle.std.proofs.Common.{◌<◌, length, set, None, Some, ap, ◌∙◌, arith}
use Rattle.cache.specs.Slots.{slot_exchanged}
use Rattle.cache.proofs.Maps.{map_turn}
use Rattle.cache.proofs.change.exchange.Goals as goal
use Rattle.cache.proofs.change.exchange.Goals.{in-Some, in_default}

pub loop-slot-preserved : goal.loop-slot-preserved
loop-slot-preserved c =
    let xs = c.args.slots.now in
    let ys = c.loop-slot.slots in
    let i = c.loop-slot.slot-index in
    let l : i < length xs = omega arith in
    elim c.match-slot.branch [
      | in-Some w ↦ let e = w.in-Some.cached in w.slots-is ∙ ap (λ o. set ys i (Some (record { cache = o; block = e.block; bytes = e.bytes }))) w.other-cached.ensures ∙ map_turn slot_exchanged xs ys i (Some e) None l c.loop-slot.invariant w.in-Some.is
      | in_default w ↦ (rw w.in_default.is at w.slots-is) ∙ map_turn slot_exchanged xs ys i None None l c.loop-slot.invariant w.in_default.is
    ]
