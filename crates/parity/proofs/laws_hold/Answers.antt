use Rattle.parity.proofs.Others.{laws}
use Rattle.parity.proofs.laws_hold.Goals as goal

pub returns : goal.returns
returns c = laws
