use Rattle.std.proofs.Common.{Ok, Err, refl}
use Rattle.array_model.specs.Meaning.{geometry}
use Rattle.array_model.specs.declared.state.State.TheVariants.{Ready}
use Rattle.array.specs.Sound.{means}
use Rattle.array.proofs.Flushing.{flushed_ready}
use Rattle.array.proofs.Kept.{sound_as}
use Rattle.array.proofs.array.Array.close_ready.Goals as goal

pub returns-in-Ok-clause-does : goal.returns-in-Ok-clause-does
returns-in-Ok-clause-does g c =
    let s = means g.S.MemberStore.meaning g.G.IntentLog.meaning c.args.self.now in
    let u = means g.S.MemberStore.meaning g.G.IntentLog.meaning c.flush-flushed.new.self in
    let z = g.G.IntentLog.sound c.flush-flushed.new.self.log in
    let n = c.in-Ok.field-0 in
    λ ready h. let d = c.in-Ok.ensures.does h in
    let sound = sound_as u.state Ready z u.members u.log (flushed_ready (geometry g.L.Layout.arrangement s) s u n ready d) (c.in-Ok.ensures.sound h) in
    (Ok n, u, d, c.clear_log.ensures.does sound.0.0)

pub returns-in-Err-clause-does : goal.returns-in-Err-clause-does
returns-in-Err-clause-does g c =
    let u = means g.S.MemberStore.meaning g.G.IntentLog.meaning c.flush-flushed.new.self in
    λ ready h. (Err c.in-Err.e, u, c.in-Err.ensures.does h, (refl, refl))
