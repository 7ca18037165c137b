use Rattle.std.proofs.Common.{◌<◌, length, get_or, set, cond, None, sym, refl, ap, ◌∙◌, arith}
use Rattle.geometry.specs.Counts.{members_of, blocks_of}
use Rattle.cache.specs.Stripes.{in_stripe}
use Rattle.cache.specs.Slots.{slot_freed}
use Rattle.cache.proofs.Maps.{map_turn, freed_if}
use Rattle.cache.proofs.change.free_slots_of.Goals as goal
use Rattle.cache.proofs.change.free_slots_of.Goals.{then-is_in_stripe, else-is_in_stripe}

pub loop-slot-preserved : goal.loop-slot-preserved
loop-slot-preserved c =
    let m = members_of c.args.shape in
    let n = blocks_of c.args.shape in
    let s = c.args.stripe in
    let xs = c.args.slots.now in
    let ys = c.loop-slot.slots in
    let i = c.loop-slot.slot-index in
    let x = get_or ys i None in
    let l : i < length xs = omega arith in
    let f = freed_if m n s x ∙ ap (λ q. cond q None x) (sym c.is_in_stripe.ensures) in
    let turn = map_turn (slot_freed (in_stripe m n s)) xs ys i x None l c.loop-slot.invariant refl in
    elim c.if-is_in_stripe.branch [
      | then-is_in_stripe w ↦ w.slots-is ∙ ap (set ys i) (sym (f ∙ ap (λ q. cond q None x) w.if-is_in_stripe.true)) ∙ turn
      | else-is_in_stripe w ↦ w.slots-is ∙ ap (set ys i) (sym (f ∙ ap (λ q. cond q None x) w.if-is_in_stripe.false)) ∙ turn
    ]
