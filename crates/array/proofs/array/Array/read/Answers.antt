use Rattle.std.proofs.Common.{◌≡◌, Err, refl, rules}
use Rattle.cache.specs.Meaning.{contents}
use Rattle.array_model.specs.Meaning.{array, geometry_on}
use Rattle.array_work.specs.Outcomes.{sized, state_after}
use Rattle.array_model.specs.declared.state.State.TheVariants.{Ready}
use Rattle.array.proofs.Kept.{sound_as}
use Rattle.array.proofs.Reading.{reads_no, reads_by, read_sound, refused_keeps}
use Rattle.array.proofs.array.Array.read.Goals as goal

pub returns-in_ok-shape-in-Ready : goal.returns-in_ok-shape-in-Ready
returns-in_ok-shape-in-Ready g c =
    let q = c.args.self.now.state in
    let d = contents c.args.self.now.caches in
    let m = g.S.MemberStore.meaning c.args.self.now.store in
    let l = g.G.IntentLog.meaning c.args.self.now.log in
    let o = c.read_newest-outcome in
    let n = g.S.MemberStore.meaning o.new.store in
    let a = g.L.Layout.arrangement in
    let z = g.G.IntentLog.sound c.args.self.now.log in
    let k = c.args.block in
    let old = c.args.into.now in
    let new = o.new.into in
    let shape = c.in_ok-shape-in-Ready.shape in
    let f = c.in_ok-shape-in-Ready.ensures in
    let w = o.ensures q l in
    let t = array (state_after q o.result) d n l in
    record {
      sound = λ h. rw (c.or_fall.ensures.leaves, c.or_fall.ensures.same) (read_sound (sized a shape) q d m l k old new n z o.result c.in-Ready.is w h);
      does = λ h. rw (c.or_fall.ensures.leaves, c.or_fall.ensures.same) (reads_by a shape q d m l k old new f.0 f.1 f.2 f.3 o.result t c.in-Ready.is w);
      kept = rw c.or_fall.ensures.same (refused_keeps (sized a shape) k old new (array q d m l) t o.result w);
    }

pub returns-in_err-shape-in-Ready-clause-does : goal.returns-in_err-shape-in-Ready-clause-does
returns-in_err-shape-in-Ready-clause-does g c =
    let q = c.args.self.now.state in
    let d = contents c.args.self.now.caches in
    let m = g.S.MemberStore.meaning c.args.self.now.store in
    let l = g.G.IntentLog.meaning c.args.self.now.log in
    let a = g.L.Layout.arrangement in
    let z = g.G.IntentLog.sound c.args.self.now.log in
    let old = c.args.into.now in
    let no = c.in_err-shape-in-Ready in
    let e : c.from_residual.result ≡ Err no.field-0.0 = search rules in
    λ h. rw e (reads_no (geometry_on a m) q d m l c.args.block old old no.field-0.0 c.in-Ready.is refl (no.ensures (sound_as q Ready z m l c.in-Ready.is h).1 a))
