use Rattle.std.proofs.Common.{◌∙◌}
use Rattle.array_model.specs.Meaning.{array}
use Rattle.array_model.specs.Checks.{record_check}
use Rattle.array.proofs.Opening.{within_limits}
use Rattle.array.proofs.open.check_open.Goals as goal

pub returns-clause-checks : goal.returns-clause-checks
returns-clause-checks g c =
    let m = g.S.MemberStore.meaning c.args.store.now in
    let l = g.G.IntentLog.meaning c.args.log.now in
    λ arrange q d h. c.check_record.ensures q d m h ∙ within_limits arrange m (record_check (array q d m l)) c.in_ok-shape_of.ensures.0
