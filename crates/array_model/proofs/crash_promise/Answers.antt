-- The theorem answers the contract.
use Rattle.array_model.proofs.Promised.{crash_promise}
use Rattle.array_model.proofs.crash_promise.Goals as goal

pub returns : goal.returns
returns c = crash_promise
