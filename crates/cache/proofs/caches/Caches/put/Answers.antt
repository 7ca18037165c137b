use Rattle.std.proofs.Common.{◌≡◌, ℕ, Result, Err, refl, sym, ap, ◌∙◌, length-set}
use Rattle.std.specs.Option.{ok_or}
use Rattle.std.specs.Result.{result_ok}
use Rattle.std.proofs.lemmas.Result.{err_from_is_err_and}
use Rattle.cache.specs.declared.caches.NoFreeSlot.{NoFreeSlot}
use Rattle.cache.proofs.Puts.{filled, put_leaves, put_refused}
use Rattle.cache.proofs.caches.Caches.put.Goals as goal

refused_block : (b : ℕ) (x : NoFreeSlot) → ◌≡◌ {A = Result ℕ NoFreeSlot} (Err x) (Err (record { block = b })) → x.block ≡ b
refused_block b x e = let p : x ≡ record { block = b } = cc in ap (λ (z : NoFreeSlot). z.block) p

pub returns-in_err-slot : goal.returns-in_err-slot
returns-in_err-slot c =
    let b = c.args.block in
    let none = c.ok_or.ensures.ok_part ∙ ap result_ok c.in_err-slot.was in
    let e = refused_block b c.in_err-slot.field-0.0 (sym c.in_err-slot.was ∙ c.ok_or.ensures.value ∙ ap (λ o. ok_or o (record { block = b })) none) in
    let p = err_from_is_err_and c.from_residual.result c.from_residual.ensures.1 in
    rw (p.1, p.2) (put_refused b c.args.bytes.now c.args.self.now.slots (sym c.slot_for.ensures ∙ none), refl, e)

pub invariant_of-self : goal.invariant_of-self
invariant_of-self c =
    let s = c.args.self.now in
    let p = put_leaves c.args.block c.args.bytes.now s.slots c.in_ok-slot.slot s.buffered s.destaged (sym c.slot_for.ensures ∙ c.ok_or.ensures.ok_part ∙ ap result_ok c.in_ok-slot.was) in
    record { whole = length-set s.slots c.in_ok-slot.slot (filled c.args.block c.args.bytes.now) ∙ s.whole; buffered = p.buffered; destaged = p.destaged }

pub returns : goal.returns
returns c =
    let s = c.args.self.now in
    let p = put_leaves c.args.block c.args.bytes.now s.slots c.in_ok-slot.slot s.buffered s.destaged (sym c.slot_for.ensures ∙ c.ok_or.ensures.ok_part ∙ ap result_ok c.in_ok-slot.was) in
    (p.fits, p.means)
