use Rattle.std.proofs.Common.{refl}
use Rattle.leb128.specs.Encoding.{groups}
use Rattle.leb128.specs.Decoding.{ungrouped}
use Rattle.leb128.proofs.worked_examples_hold.Goals as goal

pub returns : goal.returns
unfolding groups ungrouped
returns c = record { examples = record { encodes = refl; decodes = refl; longer = refl; large = refl; short = refl }; count = refl }
