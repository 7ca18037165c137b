use Rattle.std.proofs.Common.{◌≡◌, Err, rules}
use Rattle.cache.specs.Meaning.{contents}
use Rattle.array_model.specs.Meaning.{geometry_on}
use Rattle.array_model.specs.declared.state.State.TheVariants.{Ready}
use Rattle.array.proofs.Kept.{sound_as}
use Rattle.array.proofs.Blocks.{writes_no}
use Rattle.array.proofs.array.Array.write.Goals as goal

pub returns-in_err-check_block-in-Ready-clause-does : goal.returns-in_err-check_block-in-Ready-clause-does
returns-in_err-check_block-in-Ready-clause-does g c =
    let q = c.args.self.now.state in
    let d = contents c.args.self.now.caches in
    let m = g.S.MemberStore.meaning c.args.self.now.store in
    let l = g.G.IntentLog.meaning c.args.self.now.log in
    let z = g.G.IntentLog.sound c.args.self.now.log in
    let a = g.L.Layout.arrangement in
    let no = c.in_err-check_block-in-Ready in
    let e : c.from_residual.result ≡ Err no.field-0.0 = search rules in
    λ h. rw e (writes_no (geometry_on a m) q d m l c.in-Ready.is c.args.block c.args.bytes.now no.field-0.0 (no.ensures (sound_as q Ready z m l c.in-Ready.is h).1 a))
