use Rattle.std.proofs.Common.{List, [], ◌∷◌, Result, sym, refl, ap, ◌∙◌, subst}
use Rattle.block_address.specs.declared.Address.{Address}
use Rattle.device_calls.specs.Lists as device
use Rattle.device_calls.specs.Lists.{DeviceCall, Completed, Stopped}
use Rattle.intent_log.specs.declared.refusal.LogRefusal.{LogRefusal}
use Rattle.intent_log.specs.declared.refusal.LogRefusal.TheVariants.{Store}
use Rattle.intent_log.proofs.Changes.{handed_up}
use Rattle.record.specs.Contents.{contents}
use Rattle.record.specs.Reading.{recorded}
use Rattle.ring_log.specs.Kept.{kept}
use Rattle.ring_log.specs.Puts.{Put}
use Rattle.ring_log.proofs.Making.{put_list}
use Rattle.ring_log.proofs.ring.RingLog.put.Goals as goal

pub returns-in_err-store_and_bar : goal.returns-in_err-store_and_bar
returns-in_err-store_and_bar g c =
    let me = c.args.self.now.state in
    let end = c.store_and_bar.new.store in
    let s = g.S.MemberStore.meaning me.store in
    let t = g.S.MemberStore.meaning end in
    let b = kept me.standing in
    let r = contents c.args.next in
    let x = c.encode-bytes.result in
    let e = c.in_err-store_and_bar.field-0.0 in
    subst (λ (q : Result (Unit {0}) LogRefusal). Put s me.awake b r q t me.awake b) (sym (handed_up c.from_residual.result (Store e) c.from_residual.ensures.1)) (record {
      some = (g.met.S.MemberStore.counts me.store).0;
      law = g.met.S.MemberStore.stands end;
      on = c.requires;
      awake = refl;
      valid = ap recorded (sym c.encode-bytes.ensures.bytes) ∙ c.encode-bytes.ensures.reads_back;
      calls = (e, (refl, subst (λ (os : List DeviceCall). Stopped os s e t) (put_list s c.members-members.result c.blocks-2.result c.slots_of.result c.version.result c.slot_for-slot.result r c.members-members.ensures c.blocks-2.ensures c.slots_of.ensures c.version.ensures c.slot_for-slot.ensures x c.encode-bytes.ensures.bytes) (subst (λ (a : Address). Stopped (device.store a.member a.block x ∷ device.barrier ∷ []) s e t) c.slot_address.ensures c.in_err-store_and_bar.ensures)));
      memory = refl;
    })
