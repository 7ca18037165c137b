use Rattle.std.proofs.Common.{◌≡◌, ◌-◌, subst, arith}
use Rattle.cut_script.specs.Script.{LastStore}
use Rattle.cut_script.proofs.last_store.Goals as goal

pub returns : goal.returns
returns c =
    let all : c.loop-number.number - 1 ≡ c.args.count = omega (arith, c.loop-number.invariant.0) in
    subst (λ k. LastStore c.args.place k c.loop-number.last) all c.loop-number.invariant.1
