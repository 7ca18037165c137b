use Rattle.std.proofs.Common.{◌≡◌, ℕ, ◌/◌, ◌%◌, true, List, Ok, Err, Result, OnOk, sym, refl, ap, ◌∙◌, subst, arith}
use Rattle.block_address.specs.declared.Address.{Address}
use Rattle.member_store.specs.Meaning.{Meaning, current}
use Rattle.member_store.specs.Calls.{Reads}
use Rattle.device_calls.specs.Lists.{DeviceCall, Completed, Stopped}
use Rattle.device_calls.proofs.Append.{for_each_more, for_each_stopped}
use Rattle.record.specs.Reading.{recorded}
use Rattle.intent_log.specs.Meaning.{MayStand}
use Rattle.intent_log.specs.Calls.{ChangeDone, PowersOn, size_checks}
use Rattle.intent_log.specs.declared.refusal.LogRefusal.{LogRefusal}
use Rattle.intent_log.specs.declared.refusal.LogRefusal.TheVariants.{Store}
use Rattle.intent_log.proofs.Changes.{refused_went, handed_up}
use Rattle.ring_log.specs.Highest.{at_slot}
use Rattle.ring_log.specs.Kept.{kept}
use Rattle.ring_log.specs.Ring.{ring, Steady, Sound}
use Rattle.ring_log.specs.Own.{read_slot, OwnPower}
use Rattle.ring_log.proofs.Powering.{highest_start, highest_more, wide_enough_checks, power_cut, power_sound, power_whole, power_own, read_cut, read_done, read_stopped}
use Rattle.ring_log.proofs.RingLogIntentLog.power_on.Goals as goal

pub loop-i-init : goal.loop-i-init
loop-i-init g c = (refl, refl, refl, highest_start c.members-members.result (g.S.MemberStore.meaning c.power_on.new.self), refl)

pub returns-in_err-read : goal.returns-in_err-read
returns-in_err-read g c =
    let me = c.args.self.now.state in
    let s = g.S.MemberStore.meaning me.store in
    let t = g.S.MemberStore.meaning c.power_on.new.self in
    let u = g.S.MemberStore.meaning c.read.new.self in
    let mm = c.members-members.result in
    let bb = c.blocks-blocks.result in
    let cnt = c.slots_of-slots.result in
    let l = (g.met.S.MemberStore.counts me.store).0 in
    let v = c.loop-i in
    let w = g.S.MemberStore.meaning v.self.state.store in
    let em = c.members-members.ensures in
    let eb = c.blocks-blocks.ensures in
    let ec = c.slots_of-slots.ensures in
    let wide = c.if-slots-lt-LEAST_SLOTS.false in
    let p = c.power_on.ensures.means in
    let e = c.in_err-read.field-0.0 in
    let r = subst (λ (a : Address). Reads {U = Unit {0}} w a.member a.block v.bytes (Err e) c.read.new.into u) c.slot_address.ensures c.in_err-read.ensures.means in
    let q = read_cut s t me.awake mm bb cnt em eb ec l wide p v.i e v.bytes c.read.new.into u w c.loop-i-test.true v.invariant.2 v.invariant.0 r in
    let stop : Stopped (read_slot mm v.i) w e u = read_stopped mm v.i w u e v.bytes v.invariant.0 r.1 in
    let calls = for_each_stopped (read_slot mm) cnt v.i t w e u c.loop-i-test.true v.invariant.4 stop in
    let is = sym (handed_up c.from_residual.result (Store e) c.from_residual.ensures.1) in
    record {
      sound = subst (λ (x : Result (Unit {0}) LogRefusal). OnOk x (Sound v.self.state.awake u (kept v.self.state.standing))) is tt;
      means = subst (λ (x : Result (Unit {0}) LogRefusal). PowersOn (ring me.awake s) x (ring v.self.state.awake u)) is (refused_went (size_checks (ring me.awake s).too_small) (Store e) (ring v.self.state.awake u ≡ ring me.awake s) _ (wide_enough_checks s t me.awake mm bb cnt em eb ec l wide p) q.0 (power_cut s t me.awake mm bb cnt em eb ec l wide p u v.self.state.awake v.invariant.1 q.1 (g.met.S.MemberStore.stands c.read.new.self)));
      own = subst (λ (x : Result (Unit {0}) LogRefusal). OwnPower me.awake s x u) is (power_own s t me.awake mm bb cnt em eb ec l wide p (Err (Store e)) u (e, (refl, calls)));
    }

pub loop-i-preserved : goal.loop-i-preserved
loop-i-preserved g c =
    let t = g.S.MemberStore.meaning c.power_on.new.self in
    let v = c.loop-i in
    let w = g.S.MemberStore.meaning v.self.state.store in
    let u = g.S.MemberStore.meaning c.read.new.self in
    let mm = c.members-members.result in
    let r = subst (λ (a : Address). Reads {U = Unit {0}} w a.member a.block v.bytes (Ok tt) c.read.new.into u) c.slot_address.ensures c.in_ok-read.ensures.means in
    let into : c.read.new.into ≡ current t (v.i % mm) (v.i / mm) = r.1 ∙ ap (λ x. current x (v.i % mm) (v.i / mm)) v.invariant.2 in (
      c.read.auto.into ∙ v.invariant.0,
      v.invariant.1,
      r.2 ∙ v.invariant.2,
      c.higher-best.ensures ∙ highest_more mm t v.i (kept v.best) (kept c.found_in.result) v.invariant.3 (c.found_in.ensures ∙ ap (λ (x : List ℕ). at_slot v.i (recorded x)) into),
      for_each_more (read_slot mm) v.i t w u v.invariant.4 (read_done mm v.i w u v.bytes v.invariant.0 r.0 r.2),
    )

pub returns : goal.returns
returns g c =
    let me = c.args.self.now.state in
    let s = g.S.MemberStore.meaning me.store in
    let t = g.S.MemberStore.meaning c.power_on.new.self in
    let v = c.loop-i in
    let u = g.S.MemberStore.meaning v.self.state.store in
    let mm = c.members-members.result in
    let bb = c.blocks-blocks.result in
    let cnt = c.slots_of-slots.result in
    let l = (g.met.S.MemberStore.counts me.store).0 in
    let em = c.members-members.ensures in
    let eb = c.blocks-blocks.ensures in
    let ec = c.slots_of-slots.ensures in
    let wide = c.if-slots-lt-LEAST_SLOTS.false in
    let p = c.power_on.ensures.means in
    let e : v.i ≡ cnt = let k = v.auto.i-end in let j = c.loop-i-test.false in omega arith in
    let k = kept v.best in
    record {
      sound = λ _. subst (λ (x : Meaning). Steady x.members x.blocks x k) (sym v.invariant.2) (power_sound s t me.awake mm bb cnt em eb ec l wide p k v.i v.invariant.3 e);
      means = (wide_enough_checks s t me.awake mm bb cnt em eb ec l wide p, subst (λ (x : Meaning). ChangeDone (MayStand (ring me.awake s)) (ring me.awake s) (ring true x)) (sym v.invariant.2) (power_whole s t me.awake mm bb cnt em eb ec l wide p k v.i true refl v.invariant.3 e (g.met.S.MemberStore.stands c.power_on.new.self)));
      own = power_own s t me.awake mm bb cnt em eb ec l wide p (Ok tt) u (subst (λ (j : ℕ). Completed (Rattle.device_calls.specs.Lists.for_each (read_slot mm) j) t u) e v.invariant.4);
    }
