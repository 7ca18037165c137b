-- What a look at an array counts: stripes with wrong parity in what its members hold now, and named stripes.
use Rattle.std.specs.Prelude.{ℕ, zero, suc, ◌+◌, Bool, cond, Some, None, Option}
use Rattle.geometry.specs.Counts.{counts_allowed}
use Rattle.geometry.specs.Layouts.{Arrangement}
use Rattle.geometry.specs.Places.{stripes}
use Rattle.member_store.specs.Meaning as store
use Rattle.intent_log.specs.Meaning as intent
use Rattle.stripe_work.specs.Work.{wrong_below}

-- Members whose counts no array has have no stripes.
abbrev pub wrong_stripes : (ℕ → ℕ → Arrangement) → store.Meaning → ℕ
wrong_stripes arrange s =
    cond (counts_allowed s.members s.blocks) (wrong_below arrange s.members s (stripes s.blocks)) 0

-- How many of the stripes below n are named.
abbrev pub named_below : (ℕ → Bool) → ℕ → ℕ
named_below names zero = 0
named_below names (suc k) = named_below names k + cond (names k) 1 0

-- None where the log has no power, or no record stands.
abbrev pub named_stripes : intent.Meaning → ℕ → Option ℕ
named_stripes l n = cond l.on (cond l.standing.stands (Some (named_below l.standing.names n)) None) None
