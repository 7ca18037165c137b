use Rattle.std.proofs.Common.{◌<◌, ◌∙◌, arith}
use Rattle.std.specs.Option.{option_or}
use Rattle.array_model.specs.Meaning.{array, geometry_on}
use Rattle.array_model.specs.Checks.{record_check, member_check}
use Rattle.array.proofs.Opening.{within_limits, has_member}
use Rattle.array.proofs.open.check_open_short.Goals as goal

pub returns-clause-checks : goal.returns-clause-checks
returns-clause-checks g c =
    let m = g.S.MemberStore.meaning c.args.store.now in
    let l = g.G.IntentLog.meaning c.args.log.now in
    let d = c.args.absent in
    let lt : d < m.members = omega arith in
    λ arrange q k h. c.check_record.ensures q k m h
    ∙ has_member (geometry_on arrange m) d (record_check (array q k m l)) lt
    ∙ within_limits arrange m (option_or (member_check (geometry_on arrange m) d) (record_check (array q k m l))) c.in_ok-shape_of.ensures.0
