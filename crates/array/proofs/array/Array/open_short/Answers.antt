use Rattle.std.proofs.Common.{◌≡◌, Err, rules}
use Rattle.cache.specs.Meaning.{contents}
use Rattle.array_model.specs.Meaning.{geometry_on}
use Rattle.array_model.specs.declared.state.State.TheVariants.{Down}
use Rattle.array.proofs.Kept.{sound_as}
use Rattle.array.proofs.Opening.{opens_short, opens_short_no}
use Rattle.array.proofs.array.Array.open_short.Goals as goal

pub returns-in_ok-check_open_short-in-Down-clause-does : goal.returns-in_ok-check_open_short-in-Down-clause-does
returns-in_ok-check_open_short-in-Down-clause-does g c =
    let q = c.args.self.now.state in
    let d = contents c.args.self.now.caches in
    let m = g.S.MemberStore.meaning c.args.self.now.store in
    let l = g.G.IntentLog.meaning c.args.self.now.log in
    let a = g.L.Layout.arrangement in
    let z = g.G.IntentLog.sound c.args.self.now.log in
    λ h. opens_short (geometry_on a m) q d m l c.args.absent c.in-Down.is (c.in_ok-check_open_short-in-Down.ensures.checks a q d (sound_as q Down z m l c.in-Down.is h))

pub returns-in_err-check_open_short-in-Down-clause-does : goal.returns-in_err-check_open_short-in-Down-clause-does
returns-in_err-check_open_short-in-Down-clause-does g c =
    let q = c.args.self.now.state in
    let d = contents c.args.self.now.caches in
    let m = g.S.MemberStore.meaning c.args.self.now.store in
    let l = g.G.IntentLog.meaning c.args.self.now.log in
    let a = g.L.Layout.arrangement in
    let z = g.G.IntentLog.sound c.args.self.now.log in
    let no = c.in_err-check_open_short-in-Down in
    let e : c.from_residual.result ≡ Err no.field-0.0 = search rules in
    λ h. rw e (opens_short_no (geometry_on a m) q d m l c.args.absent no.field-0.0 c.in-Down.is (no.ensures.checks a q d (sound_as q Down z m l c.in-Down.is h)))
