use Rattle.std.proofs.Common.{◌≡◌, [], ◌∷◌, true, false, not, None, Ok, Result, sym, refl, ap, ◌∙◌, subst}
use Rattle.block_address.specs.declared.Address.{Address}
use Rattle.device_calls.specs.Lists as device
use Rattle.device_calls.specs.Lists.{Completed, Stopped}
use Rattle.intent_log.specs.declared.refusal.LogRefusal.{LogRefusal}
use Rattle.intent_log.specs.declared.refusal.LogRefusal.TheVariants.{Store}
use Rattle.intent_log.proofs.Changes.{handed_up}
use Rattle.ring_log.specs.Highest.{present}
use Rattle.ring_log.specs.Kept.{kept}
use Rattle.ring_log.specs.Own.{zero_block}
use Rattle.ring_log.proofs.Making.{same_slots, blank_first, blank_bar, blank_none, blank_stop, blank_all}
use Rattle.ring_log.proofs.Changing.{kept_present, none_kept}
use Rattle.ring_log.proofs.Blanking.{Blank, blank_sound, blank_means, blank_own}
use Rattle.ring_log.proofs.RingLogIntentLog.blank.Goals as goal

pub returns-in_err-zero_slots : goal.returns-in_err-zero_slots
returns-in_err-zero_slots g c =
    let me = c.args.self.now.state in
    let s = g.S.MemberStore.meaning me.store in
    let b = kept me.standing in
    let mm = c.members-members.result in
    let cnt = c.slots_of-slots.result in
    let keep = c.slot_or-keep.result in
    let em = c.members-members.ensures in
    let ec = same_slots s mm c.blocks-2.result cnt em c.blocks-2.ensures c.slots_of-slots.ensures in
    let ek = c.slot_or-keep.ensures in
    let next = c.zero_slots.new.self.state in
    let u = g.S.MemberStore.meaning next.store in
    let end = next.store in
    let t = g.S.MemberStore.meaning end in
    let e = c.in_err-zero_slots.field-0.0 in
    let p : Blank s me.awake b c.from_residual-in_err-zero_slots.result t next.awake (kept next.standing) = subst (λ (x : Result (Unit {0}) LogRefusal). Blank s me.awake b x t next.awake (kept next.standing)) (sym (handed_up c.from_residual-in_err-zero_slots.result (Store e) c.from_residual-in_err-zero_slots.ensures.1)) (record {
      some = (g.met.S.MemberStore.counts me.store).0;
      law = g.met.S.MemberStore.stands end;
      on = c.in_ok-check_power.ensures;
      awake = c.zero_slots.ensures.same.0;
      calls = (e, (refl, blank_first s b mm cnt keep em ec ek e t c.in_err-zero_slots.ensures.calls));
      memory = tt;
    }) in
    record { sound = blank_sound p; means = blank_means p; own = blank_own p }

pub returns-in_err-barrier : goal.returns-in_err-barrier
returns-in_err-barrier g c =
    let me = c.args.self.now.state in
    let s = g.S.MemberStore.meaning me.store in
    let b = kept me.standing in
    let mm = c.members-members.result in
    let cnt = c.slots_of-slots.result in
    let keep = c.slot_or-keep.result in
    let em = c.members-members.ensures in
    let ec = same_slots s mm c.blocks-2.result cnt em c.blocks-2.ensures c.slots_of-slots.ensures in
    let ek = c.slot_or-keep.ensures in
    let next = c.zero_slots.new.self.state in
    let u = g.S.MemberStore.meaning next.store in
    let end = c.barrier.new.self in
    let t = g.S.MemberStore.meaning end in
    let e = c.in_err-barrier.field-0.0 in
    let p : Blank s me.awake b c.from_residual-in_err-barrier.result t next.awake (kept next.standing) = subst (λ (x : Result (Unit {0}) LogRefusal). Blank s me.awake b x t next.awake (kept next.standing)) (sym (handed_up c.from_residual-in_err-barrier.result (Store e) c.from_residual-in_err-barrier.ensures.1)) (record {
      some = (g.met.S.MemberStore.counts me.store).0;
      law = g.met.S.MemberStore.stands end;
      on = c.in_ok-check_power.ensures;
      awake = c.zero_slots.ensures.same.0;
      calls = (e, (refl, blank_bar s b mm cnt keep em ec ek u c.in_ok-zero_slots.ensures.calls e t c.in_err-barrier.ensures.means));
      memory = tt;
    }) in
    record { sound = blank_sound p; means = blank_means p; own = blank_own p }

pub returns-then-is_none : goal.returns-then-is_none
returns-then-is_none g c =
    let me = c.args.self.now.state in
    let s = g.S.MemberStore.meaning me.store in
    let b = kept me.standing in
    let mm = c.members-members.result in
    let cnt = c.slots_of-slots.result in
    let keep = c.slot_or-keep.result in
    let em = c.members-members.ensures in
    let ec = same_slots s mm c.blocks-2.result cnt em c.blocks-2.ensures c.slots_of-slots.ensures in
    let ek = c.slot_or-keep.ensures in
    let next = c.zero_slots.new.self.state in
    let u = g.S.MemberStore.meaning next.store in
    let end = c.barrier.new.self in
    let t = g.S.MemberStore.meaning end in
    let pr : present b ≡ false = ap (λ z. present (kept z)) (sym c.zero_slots.ensures.same.1) ∙ kept_present next.standing ∙ c.is_none.ensures ∙ ap not c.if-is_none.true in
    let p : Blank s me.awake b (Ok tt) t next.awake (kept next.standing) = record {
      some = (g.met.S.MemberStore.counts me.store).0;
      law = g.met.S.MemberStore.stands end;
      on = c.in_ok-check_power.ensures;
      awake = c.zero_slots.ensures.same.0;
      calls = blank_none s b mm cnt keep em ec ek u c.in_ok-zero_slots.ensures.calls t c.in_ok-barrier.ensures.means pr;
      memory = none_kept next.standing (c.is_none.ensures ∙ ap not c.if-is_none.true);
    } in
    record { sound = blank_sound p; means = blank_means p; own = blank_own p }

pub returns-in_err-store_and_bar : goal.returns-in_err-store_and_bar
returns-in_err-store_and_bar g c =
    let me = c.args.self.now.state in
    let s = g.S.MemberStore.meaning me.store in
    let b = kept me.standing in
    let mm = c.members-members.result in
    let cnt = c.slots_of-slots.result in
    let keep = c.slot_or-keep.result in
    let em = c.members-members.ensures in
    let ec = same_slots s mm c.blocks-2.result cnt em c.blocks-2.ensures c.slots_of-slots.ensures in
    let ek = c.slot_or-keep.ensures in
    let next = c.zero_slots.new.self.state in
    let u = g.S.MemberStore.meaning next.store in
    let end = c.store_and_bar.new.store in
    let t = g.S.MemberStore.meaning end in
    let e = c.in_err-store_and_bar.field-0.0 in
    let v = g.S.MemberStore.meaning c.barrier.new.self in
    let pr : present b ≡ true = ap (λ z. present (kept z)) (sym c.zero_slots.ensures.same.1) ∙ kept_present next.standing ∙ c.is_none.ensures ∙ ap not c.if-is_none.false in
    let p : Blank s me.awake b c.from_residual-in_err-store_and_bar.result t next.awake (kept next.standing) = subst (λ (x : Result (Unit {0}) LogRefusal). Blank s me.awake b x t next.awake (kept next.standing)) (sym (handed_up c.from_residual-in_err-store_and_bar.result (Store e) c.from_residual-in_err-store_and_bar.ensures.1)) (record {
      some = (g.met.S.MemberStore.counts me.store).0;
      law = g.met.S.MemberStore.stands end;
      on = c.in_ok-check_power.ensures;
      awake = c.zero_slots.ensures.same.0;
      calls = (e, (refl, blank_stop s b mm cnt keep em ec ek u c.in_ok-zero_slots.ensures.calls v c.in_ok-barrier.ensures.means pr e t (subst (λ (a : Address). Stopped (device.store a.member a.block zero_block ∷ device.barrier ∷ []) v e t) c.slot_address.ensures c.in_err-store_and_bar.ensures)));
      memory = tt;
    }) in
    record { sound = blank_sound p; means = blank_means p; own = blank_own p }

pub returns : goal.returns
returns g c =
    let me = c.args.self.now.state in
    let s = g.S.MemberStore.meaning me.store in
    let b = kept me.standing in
    let mm = c.members-members.result in
    let cnt = c.slots_of-slots.result in
    let keep = c.slot_or-keep.result in
    let em = c.members-members.ensures in
    let ec = same_slots s mm c.blocks-2.result cnt em c.blocks-2.ensures c.slots_of-slots.ensures in
    let ek = c.slot_or-keep.ensures in
    let next = c.zero_slots.new.self.state in
    let u = g.S.MemberStore.meaning next.store in
    let end = c.store_and_bar.new.store in
    let t = g.S.MemberStore.meaning end in
    let v = g.S.MemberStore.meaning c.barrier.new.self in
    let pr : present b ≡ true = ap (λ z. present (kept z)) (sym c.zero_slots.ensures.same.1) ∙ kept_present next.standing ∙ c.is_none.ensures ∙ ap not c.if-is_none.false in
    let p : Blank s me.awake b (Ok tt) t next.awake None = record {
      some = (g.met.S.MemberStore.counts me.store).0;
      law = g.met.S.MemberStore.stands end;
      on = c.in_ok-check_power.ensures;
      awake = c.zero_slots.ensures.same.0;
      calls = blank_all s b mm cnt keep em ec ek u c.in_ok-zero_slots.ensures.calls v c.in_ok-barrier.ensures.means pr t (subst (λ (a : Address). Completed (device.store a.member a.block zero_block ∷ device.barrier ∷ []) v t) c.slot_address.ensures c.in_ok-store_and_bar.ensures);
      memory = refl;
    } in
    record { sound = blank_sound p; means = blank_means p; own = blank_own p }
