use Rattle.std.proofs.Common.{false, true, Result, sym, refl, subst}
use Rattle.intent_log.specs.Meaning.{MayStand}
use Rattle.intent_log.specs.Calls.{ChangeDone, PowersOn}
use Rattle.intent_log.specs.declared.refusal.LogRefusal.{LogRefusal}
use Rattle.intent_log.specs.declared.refusal.LogRefusal.TheVariants.{Store}
use Rattle.intent_log.proofs.Changes.{handed_up}
use Rattle.flag_log.specs.Flag.{flag, Steady}
use Rattle.flag_log.specs.Puts.{first_block}
use Rattle.flag_log.proofs.Powering.{power_cut, power_steady, power_whole}
use Rattle.flag_log.proofs.FlagLogIntentLog.power_on.Goals as goal

pub returns-in_err-read-clause-means : goal.returns-in_err-read-clause-means
returns-in_err-read-clause-means g c =
    let me = c.args.self.now.state in
    let end = c.read.new.self in
    let s = g.S.MemberStore.meaning me.store in
    let t = g.S.MemberStore.meaning c.power_on.new.self in
    let u = g.S.MemberStore.meaning end in
    let e = c.in_err-read.field-0.0 in
    let at = first_block s (g.met.S.MemberStore.counts me.store) in
    subst (λ (r : Result (Unit {0}) LogRefusal). PowersOn (flag me.awake s) r (flag false u)) (sym (handed_up c.from_residual.result (Store e) c.from_residual.ensures.1))
    (power_cut s t me.awake at c.power_on.ensures.means u false e _ c.read.new.into refl refl (g.met.S.MemberStore.stands end) c.in_err-read.ensures.means)

pub returns-clause-sound : goal.returns-clause-sound
returns-clause-sound g c =
    let me = c.args.self.now.state in
    let s = g.S.MemberStore.meaning me.store in
    let t = g.S.MemberStore.meaning c.power_on.new.self in
    let r = c.in_ok-read.ensures.means in
    let at = first_block s (g.met.S.MemberStore.counts me.store) in
    λ _. subst (λ x. Steady x c.record_in-self.result) (sym r.2) (power_steady s t me.awake at c.power_on.ensures.means c.record_in-self.result c.read.new.into c.record_in-self.ensures r.1)

pub returns-clause-means : goal.returns-clause-means
returns-clause-means g c =
    let me = c.args.self.now.state in
    let s = g.S.MemberStore.meaning me.store in
    let t = g.S.MemberStore.meaning c.power_on.new.self in
    let r = c.in_ok-read.ensures.means in
    let at = first_block s (g.met.S.MemberStore.counts me.store) in
    (refl, subst (λ x. ChangeDone (MayStand (flag me.awake s)) (flag me.awake s) (flag true x)) (sym r.2) (power_whole s t me.awake at c.power_on.ensures.means (g.met.S.MemberStore.stands c.power_on.new.self)))
