use Rattle.std.proofs.Common.{None, sym, ap, ◌∙◌}
use Rattle.std.specs.Option.{option_copied}
use Rattle.std.proofs.lemmas.Bool.{false≢true}
use Rattle.cache.specs.Slots.{holds}
use Rattle.cache.proofs.Lookups.{held, nowhere, found}
use Rattle.cache.proofs.caches.Caches.get.Goals as goal

pub returns-in_err-slot : goal.returns-in_err-slot
returns-in_err-slot c = ap option_copied c.from_residual.ensures ∙ sym (nowhere c.args.cache c.args.block c.args.self.now.slots (sym c.slot_of.ensures ∙ c.in_err-slot.was))

pub returns-in_err-cached : goal.returns-in_err-cached
returns-in_err-cached c =
    let f = found c.args.cache c.args.block c.args.self.now.slots c.in_ok-slot.slot (sym c.slot_of.ensures ∙ c.in_ok-slot.was) in
    absurd (false≢true (sym (ap (holds c.args.cache c.args.block) (sym c.as_ref.ensures.value ∙ ap option_copied c.in_err-cached.was)) ∙ f.has None))

pub returns : goal.returns
returns c =
    let f = found c.args.cache c.args.block c.args.self.now.slots c.in_ok-slot.slot (sym c.slot_of.ensures ∙ c.in_ok-slot.was) in
    sym (f.bytes None ∙ ap held (sym c.as_ref.ensures.value ∙ ap option_copied c.in_ok-cached.was))
