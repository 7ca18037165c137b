use Rattle.cache.specs.Meaning.{contents}
use Rattle.array.specs.Sound.{means}
use Rattle.array_model.specs.declared.state.State.TheVariants.{Resync}
use Rattle.array.proofs.Kept.{sound_as}
use Rattle.array.proofs.Resyncing.{from, steps}
use Rattle.array.proofs.array.Array.step.Goals as goal

pub returns-in-Some : goal.returns-in-Some
returns-in-Some g c =
    let q = c.args.self.now.state in
    let d = contents c.args.self.now.caches in
    let m = g.S.MemberStore.meaning c.args.self.now.store in
    let l = g.G.IntentLog.meaning c.args.self.now.log in
    let a = g.L.Layout.arrangement in
    let p = c.in-Resync.progress in
    let k = c.in-Some.stripe in
    let found = c.in_ok-shape-in-Resync in
    let o = found.next in
    let z = g.G.IntentLog.sound c.args.self.now.log in
    record {
      sound = λ h. let s = sound_as q (Resync p) z m l c.in-Resync.is h in
          let f = found.ensures.finds s.0 s.1 in
          c.take.ensures.sound s.0 s.1 s.2 (from a q d m l p o k c.in-Some.is f.2);
      does = λ h. let s = sound_as q (Resync p) z m l c.in-Resync.is h in
          let f = found.ensures.finds s.0 s.1 in
          steps a q d m l p o k c.take.result (means g.S.MemberStore.meaning g.G.IntentLog.meaning c.take.new.self) c.in-Resync.is c.in-Some.is f.2 (c.take.ensures.does f.0 f.1 s.2);
    }
