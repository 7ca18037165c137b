use Rattle.std.proofs.Common.{ℕ, List, [], ◌∷◌, Result, sym, refl, subst}
use Rattle.device_calls.specs.Lists as device
use Rattle.device_calls.specs.Lists.{Completed, Stopped}
use Rattle.intent_log.specs.declared.refusal.LogRefusal.{LogRefusal}
use Rattle.intent_log.specs.declared.refusal.LogRefusal.TheVariants.{Store}
use Rattle.intent_log.proofs.Changes.{handed_up}
use Rattle.flag_log.specs.Puts.{Put, first_block}
use Rattle.flag_log.proofs.flag.FlagLog.put.Goals as goal

pub returns-in_err-store_and_bar : goal.returns-in_err-store_and_bar
returns-in_err-store_and_bar g c =
    let me = c.args.self.now.state in
    let end = c.store_and_bar.new.store in
    let s = g.S.MemberStore.meaning me.store in
    let t = g.S.MemberStore.meaning end in
    let e = c.in_err-store_and_bar.field-0.0 in
    subst (λ (r : Result (Unit {0}) LogRefusal). Put s me.awake me.standing c.args.next r t me.awake me.standing) (sym (handed_up c.from_residual.result (Store e) c.from_residual.ensures.1)) (record {
      at = first_block s (g.met.S.MemberStore.counts me.store);
      still = first_block t (g.met.S.MemberStore.counts end);
      law = g.met.S.MemberStore.stands end;
      on = c.requires;
      awake = refl;
      calls = (e, (refl, subst (λ (x : List ℕ). Stopped (device.store 0 0 x ∷ device.barrier ∷ []) s e t) c.block_of.ensures c.in_err-store_and_bar.ensures));
      memory = refl;
    })
