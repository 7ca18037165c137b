use Rattle.std.proofs.Common.{◌+◌, ◌-◌, ◌≤◌}
use Rattle.cut_script.specs.Script.{LastStore}
use Rattle.cut_script.proofs.last_store.Given as goal

abbrev pub invariant-loop-number : goal.invariant-loop-number
invariant-loop-number l = (l.number ≤ l.count + 1) × LastStore l.place (l.number - 1) l.last
