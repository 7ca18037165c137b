-- What a ring keeps in memory: the record that stands, and its slot.
use Rattle.std.specs.Prelude.{ℕ, Some, None, Option}
use Rattle.record.specs.Contents.{Contents, contents}
use Rattle.ring_log.specs.declared.ring.StandingRecord.{StandingRecord}

abbrev pub kept : Option StandingRecord → Option (ℕ × Contents)
kept None = None
kept (Some x) = Some (x.slot, contents x.record)
