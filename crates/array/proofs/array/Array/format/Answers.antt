use Rattle.cache.specs.Meaning.{contents}
use Rattle.array_model.specs.declared.state.State.TheVariants.{Down}
use Rattle.array.proofs.Kept.{sound_as}
use Rattle.array.proofs.Formatting.{formats, formatted_sound}
use Rattle.array.proofs.array.Array.format.Goals as goal

pub returns-in_ok-shape-in-Down : goal.returns-in_ok-shape-in-Down
returns-in_ok-shape-in-Down g c =
    let q = c.args.self.now.state in
    let d = contents c.args.self.now.caches in
    let m = g.S.MemberStore.meaning c.args.self.now.store in
    let l = g.G.IntentLog.meaning c.args.self.now.log in
    let w = c.format_work-outcome in
    let n = g.S.MemberStore.meaning w.new.store in
    let k = g.G.IntentLog.meaning w.new.log in
    let a = g.L.Layout.arrangement in
    let z = g.G.IntentLog.sound c.args.self.now.log in
    let shape = c.in_ok-shape-in-Down.shape in
    let e = c.in_ok-shape-in-Down.ensures in
    let f = c.or_fall.ensures in
    record {
      sound = λ h. let s = (sound_as q Down z m l c.in-Down.is h).0 in
          rw (f.leaves, f.same) (formatted_sound a q d m l c.in-Down.is shape e.0 e.1 e.2 n k (g.G.IntentLog.sound w.new.log) (w.ensures.sound s) w.result (w.ensures.does a s));
      does = λ h. let s = (sound_as q Down z m l c.in-Down.is h).0 in
          rw (f.leaves, f.same) (formats a q d m l c.in-Down.is shape e.0 e.1 e.2 n k w.result (w.ensures.does a s));
    }
