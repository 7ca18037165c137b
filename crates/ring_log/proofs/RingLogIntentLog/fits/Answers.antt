use Rattle.std.proofs.Common.{◌≡◌, ℕ, true, ◌&&◌, leb, List, length, sym, ap, ◌∙◌}
use Rattle.stripe_set.specs.Stripes.{stripes}
use Rattle.stripe_set.specs.Union.{merged}
use Rattle.stripe_set.proofs.Lists.{merged_rising, same_merged}
use Rattle.intent_log.specs.Meaning.{listed}
use Rattle.ring_log.specs.Highest.{stripes_of}
use Rattle.ring_log.specs.Own.{standing}
use Rattle.ring_log.proofs.Making.{union_fits, fits_answer}
use Rattle.ring_log.proofs.RingLogIntentLog.fits.Goals as goal

pub returns-then-is_list : goal.returns-then-is_list
returns-then-is_list g c = λ h.
    let me = c.args.self.now.state in
    let s = g.S.MemberStore.meaning me.store in
    let w = c.args.list.now in
    let own = c.named.result in
    let new = c.set_of.result in
    let on : (me.awake && s.on) ≡ true = c.in_ok-check_power.ensures in
    let both : merged (stripes own) (stripes new) ≡ merged (stripes_of (standing s)) w =
    same_merged _ _ _ _ (c.named.ensures ∙ ap stripes_of (h on).same) c.set_of.ensures in
    let fit : c.is_some.result ≡ leb (length (merged (stripes_of (standing s)) w)) 64 =
    c.is_some.ensures ∙ union_fits c.union.result (merged (stripes own) (stripes new)) c.union.ensures.value (merged_rising (stripes own) 0 (stripes new) own.rising new.rising) ∙ ap (λ (ss : List ℕ). leb (length ss) 64) both in
    fits_answer (me.awake && s.on) (listed w) c.is_some.result (leb (length (merged (stripes_of (standing s)) w)) 64) on (sym c.is_list.ensures ∙ c.if-is_list.true) fit
