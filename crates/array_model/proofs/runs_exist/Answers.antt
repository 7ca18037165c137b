-- The witness answers the contract.
use Rattle.array_model.proofs.Witness.{runs_exist}
use Rattle.array_model.proofs.runs_exist.Goals as goal

pub returns : goal.returns
returns c = runs_exist
