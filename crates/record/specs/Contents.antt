-- What a record says: its version and the stripes that it names.
use Rattle.std.specs.Prelude.{ℕ, List, Some, None, Option}
use Rattle.stripe_set.specs.Stripes.{stripes}
use Rattle.record.specs.declared.form.Record.{Record}

pub record Contents : Type 0 where
  pub version : ℕ
  pub stripes : List ℕ

abbrev pub contents : Record → Contents
contents r = record { version = r.version; stripes = stripes r.stripes }

abbrev pub contained : Option Record → Option Contents
contained None = None
contained (Some r) = Some (contents r)
