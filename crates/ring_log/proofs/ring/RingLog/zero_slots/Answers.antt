use Rattle.std.proofs.Common.{◌≡◌, ◌+◌, Result, sym, subst}
use Rattle.block_address.specs.declared.Address.{Address}
use Rattle.member_store.specs.declared.refusal.Refusal.{Refusal}
use Rattle.device_calls.specs.Lists as device
use Rattle.device_calls.specs.Lists.{Accepted, Rejected, Completed, Performs, for_each}
use Rattle.device_calls.proofs.Append.{for_each_more, for_each_stopped}
use Rattle.intent_log.proofs.Changes.{handed_up}
use Rattle.ring_log.specs.declared.ring.RingLog.{RingLog}
use Rattle.ring_log.specs.Own.{zero_block, zero_slot}
use Rattle.ring_log.proofs.Making.{zero_skipped, zero_done, zero_stopped}
use Rattle.ring_log.proofs.ring.RingLog.zero_slots.Goals as goal
use Rattle.ring_log.proofs.ring.RingLog.zero_slots.Goals.{then-i-keep+in_ok-store, else-i-keep}

pub returns-in_err-store : goal.returns-in_err-store
returns-in_err-store g c =
    let s = g.S.MemberStore.meaning c.args.self.now.state.store in
    let u = g.S.MemberStore.meaning c.loop-i.self.state.store in
    let t = g.S.MemberStore.meaning c.store.new.self in
    let i = c.loop-i.i in
    let e = c.in_err-store.field-0.0 in
    let rejected = subst (λ (a : Address). Rejected (device.store a.member a.block zero_block) u e t) c.slot_address.ensures c.in_err-store.ensures.means in
    record {
      same = (c.loop-i.invariant.0, c.loop-i.invariant.1);
      calls = subst (λ (r : Result (Unit {0}) Refusal). Performs (for_each (zero_slot c.args.members c.args.keep) c.args.slots) s r t) (sym (handed_up c.from_residual.result e c.from_residual.ensures.1))
          (for_each_stopped (zero_slot c.args.members c.args.keep) c.args.slots i s u e t c.loop-i-test.true c.loop-i.invariant.2 (zero_stopped c.args.members c.args.keep i u e t c.if-i-keep.true rejected));
    }

pub loop-i-preserved : goal.loop-i-preserved
loop-i-preserved g c =
    let me = c.args.self.now.state in
    let s = g.S.MemberStore.meaning me.store in
    let u = g.S.MemberStore.meaning c.loop-i.self.state.store in
    let i = c.loop-i.i in
    let calls = zero_slot c.args.members c.args.keep in
    let v = c.loop-i.invariant in
    let P = λ (x : RingLog g.row.S.Denot). (x.state.awake ≡ me.awake) × (x.state.standing ≡ me.standing) × Completed (for_each calls (i + 1)) s (g.S.MemberStore.meaning x.state.store) in
    elim c.if-i-keep.branch [
      | then-i-keep+in_ok-store w ↦ (let t = g.S.MemberStore.meaning w.store.new.self in
          let accepted = subst (λ (a : Address). Accepted (device.store a.member a.block zero_block) u t) w.slot_address.ensures w.in_ok-store.ensures.means in
          subst P (sym w.self-is) (v.0, v.1, for_each_more calls i s u t v.2 (zero_done c.args.members c.args.keep i u t w.if-i-keep.true accepted)))
      | else-i-keep w ↦ subst P (sym w.self-is) (v.0, v.1, for_each_more calls i s u u v.2 (zero_skipped c.args.members c.args.keep i u w.if-i-keep.false))
    ]
