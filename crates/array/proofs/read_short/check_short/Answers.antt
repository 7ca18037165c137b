use Rattle.std.proofs.Common.{◌≡◌, Err, rules}
use Rattle.array_model.specs.Meaning.{array, geometry_on}
use Rattle.array.proofs.ShortReading.{short_no}
use Rattle.array.proofs.read_short.check_short.Goals as goal

pub returns-in_err-shape : goal.returns-in_err-shape
returns-in_err-shape g c =
    let m = g.S.MemberStore.meaning c.args.store.now in
    let l = g.G.IntentLog.meaning c.args.log.now in
    let a = g.L.Layout.arrangement in
    let no = c.in_err-shape in
    let e : c.from_residual.result ≡ Err no.field-0.0 = search rules in
    rw e (λ on z q d. short_no (geometry_on a m) c.args.absent c.args.block c.args.length (array q d m l) no.field-0.0 (no.ensures z a))
