use Rattle.std.proofs.Common.{◌+◌, vec_len}
use Rattle.array.specs.Sound.{means}
use Rattle.array_run.proofs.Calls.{then_given}
use Rattle.array_run.proofs.give_up.give_up_all.Goals as goal

pub returns : goal.returns
returns g c =
    let m = means g.S.MemberStore.meaning g.G.IntentLog.meaning in
    let k = c.args.tokens in
    let s = m c.args.array.now in
    let t = m c.give_up_held.new.array in
    let u = m c.give_up_held-2.new.array in
    let v = m c.give_up_held-3.new.array in
    record {
      sound = λ h. c.give_up_held-3.ensures.sound (c.give_up_held-2.ensures.sound (c.give_up_held.ensures.sound h));
      given = then_given (vec_len k.tickets + vec_len k.permits) (vec_len k.shorts) s u v
          (then_given (vec_len k.tickets) (vec_len k.permits) s t u c.give_up_held.ensures.given c.give_up_held-2.ensures.given)
          c.give_up_held-3.ensures.given;
    }
