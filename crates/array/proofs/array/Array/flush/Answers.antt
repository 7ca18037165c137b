use Rattle.cache.specs.Meaning.{contents}
use Rattle.array_model.specs.declared.state.State.TheVariants.{Ready}
use Rattle.array.proofs.Kept.{sound_as}
use Rattle.array.proofs.Flushing.{flushed_sound}
use Rattle.array.proofs.array.Array.flush.Goals as goal

pub returns-in_ok-shape-in-Ready-clause-sound : goal.returns-in_ok-shape-in-Ready-clause-sound
returns-in_ok-shape-in-Ready-clause-sound g c =
    let q = c.args.self.now.state in
    let d = contents c.args.self.now.caches in
    let m = g.S.MemberStore.meaning c.args.self.now.store in
    let l = g.G.IntentLog.meaning c.args.self.now.log in
    let w = c.flush_all-outcome in
    let d' = contents w.new.caches in
    let m' = g.S.MemberStore.meaning w.new.store in
    let l' = g.G.IntentLog.meaning w.new.log in
    let a = g.L.Layout.arrangement in
    let z = g.G.IntentLog.sound c.args.self.now.log in
    let z' = g.G.IntentLog.sound w.new.log in
    let shape = c.in_ok-shape-in-Ready.shape in
    let e = c.in-Ready.is in
    λ h. let o = sound_as q Ready z m l e h in
    rw (c.or_fall.ensures.leaves, c.or_fall.ensures.same)
    (flushed_sound a shape q d m l e d' m' l' w.result z z' (w.ensures.sound o.0.0) o (w.ensures.does o.0.0 o.0.1))
