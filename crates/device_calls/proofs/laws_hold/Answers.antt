use Rattle.device_calls.proofs.Proved.{laws}
use Rattle.device_calls.proofs.laws_hold.Goals as goal

pub returns : goal.returns
returns c = laws
