use Rattle.std.proofs.Common.{refl, sym, ap, ◌∙◌}
use Rattle.leb128.specs.Encoding.{groups}
use Rattle.leb128.specs.Decoding.{ungrouped}
use Rattle.record.specs.Form.{body}
use Rattle.record.specs.Limits.{checked}
use Rattle.record.specs.Reading.{stripes_from, recorded}
use Rattle.record.proofs.Steps.{some_same, some≢none}
use Rattle.record.proofs.worked_examples_hold.Goals as goal

pub returns : goal.returns
unfolding groups ungrouped body stripes_from recorded
returns c = record {
  examples = record {
    numbers = record { encodes = refl; decodes = refl; longer = refl; large = refl; short = refl };
    written = refl;
    read = refl;
  };
  value = c.new.ensures ∙ ap (checked 2) (some_same c.in_ok-stripes.ensures);
}

pub returns-in_err-stripes : goal.returns-in_err-stripes
returns-in_err-stripes c = absurd (some≢none (sym c.in_err-stripes.ensures))
