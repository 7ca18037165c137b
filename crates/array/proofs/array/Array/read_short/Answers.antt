use Rattle.std.proofs.Common.{◌≡◌, Err, refl, rules}
use Rattle.cache.specs.Meaning.{contents}
use Rattle.array_model.specs.Meaning.{array, geometry_on}
use Rattle.array_work.specs.Outcomes.{sized, state_after}
use Rattle.array_model.specs.declared.state.State.TheVariants.{Short}
use Rattle.array.proofs.Kept.{sound_as}
use Rattle.array.proofs.ShortReading.{reads_short_no, without_sound, refused_keeps}
use Rattle.array.proofs.array.Array.read_short.Goals as goal

pub returns-in_ok-shape-in-Short-clause-sound : goal.returns-in_ok-shape-in-Short-clause-sound
returns-in_ok-shape-in-Short-clause-sound g c =
    let q = c.args.self.now.state in
    let d = contents c.args.self.now.caches in
    let m = g.S.MemberStore.meaning c.args.self.now.store in
    let l = g.G.IntentLog.meaning c.args.self.now.log in
    let o = c.read_without-outcome in
    let n = g.S.MemberStore.meaning o.new.store in
    let a = g.L.Layout.arrangement in
    let z = g.G.IntentLog.sound c.args.self.now.log in
    λ h. rw (c.or_fall.ensures.leaves, c.or_fall.ensures.same)
    (without_sound (sized a c.in_ok-shape-in-Short.shape) q d m l c.in-Short.absent c.args.block c.args.into.now o.new.into n z o.result c.in-Short.is (o.ensures q d l) h)

pub returns-in_ok-shape-in-Short-clause-kept : goal.returns-in_ok-shape-in-Short-clause-kept
returns-in_ok-shape-in-Short-clause-kept g c =
    let q = c.args.self.now.state in
    let d = contents c.args.self.now.caches in
    let m = g.S.MemberStore.meaning c.args.self.now.store in
    let l = g.G.IntentLog.meaning c.args.self.now.log in
    let o = c.read_without-outcome in
    let n = g.S.MemberStore.meaning o.new.store in
    let a = g.L.Layout.arrangement in
    rw c.or_fall.ensures.same
    (refused_keeps (sized a c.in_ok-shape-in-Short.shape) c.in-Short.absent c.args.block c.args.into.now o.new.into (array q d m l) (array (state_after q o.result) d n l) o.result (o.ensures q d l))

pub returns-in_err-shape-in-Short-clause-does : goal.returns-in_err-shape-in-Short-clause-does
returns-in_err-shape-in-Short-clause-does g c =
    let q = c.args.self.now.state in
    let d = contents c.args.self.now.caches in
    let m = g.S.MemberStore.meaning c.args.self.now.store in
    let l = g.G.IntentLog.meaning c.args.self.now.log in
    let a = g.L.Layout.arrangement in
    let z = g.G.IntentLog.sound c.args.self.now.log in
    let i = c.in-Short.absent in
    let old = c.args.into.now in
    let no = c.in_err-shape-in-Short in
    let e : c.from_residual.result ≡ Err no.field-0.0 = search rules in
    λ h. let o = sound_as q (Short i) z m l c.in-Short.is h in
    rw e (reads_short_no (geometry_on a m) q d m l i c.args.block old old no.field-0.0 c.in-Short.is refl (no.ensures o.0 o.1 q d))
