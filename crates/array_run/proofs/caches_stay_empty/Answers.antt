-- The theorem answers the contract.
use Rattle.array_run.proofs.Emptiness.{does_unused}
use Rattle.array_run.proofs.caches_stay_empty.Goals as goal

pub returns : goal.returns
returns c = record { kept = does_unused }
