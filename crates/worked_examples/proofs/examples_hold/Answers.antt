use mathlib.Core.Path.{refl}
use Rattle.leb128.specs.Encoding.{groups}
use Rattle.leb128.specs.Decoding.{ungrouped}
use Rattle.record.specs.Form.{body}
use Rattle.record.specs.Reading.{stripes_from, recorded}
use Rattle.worked_examples.proofs.examples_hold.Goals as goal

pub returns : goal.returns
unfolding groups ungrouped body stripes_from recorded
returns c = record {
  block_16_of_4 = refl;
  block_0_of_3 = refl;
  parity = refl;
  lost = refl;
  records = record {
    numbers = record { encodes = refl; decodes = refl; longer = refl; large = refl; short = refl };
    written = refl;
    read = refl;
  };
}
