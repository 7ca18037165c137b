-- What a put leaves, from its record.
use Rattle.std.specs.Prelude.{◌≡◌, Bool, Option, None, Result}
use Rattle.member_store.specs.Meaning as store
use Rattle.member_store.specs.Meaning.{current}
use Rattle.intent_log.specs.Meaning.{Standing}
use Rattle.intent_log.specs.Calls.{Changes}
use Rattle.intent_log.specs.Devices.{MakesChange}
use Rattle.intent_log.specs.declared.refusal.LogRefusal.{LogRefusal}
use Rattle.flag_log.specs.declared.flag.FlagRecord.{FlagRecord}
use Rattle.flag_log.specs.Form.{flag_record}
use Rattle.flag_log.specs.Flag.{standing_of, flag, Sound, put_calls}
use Rattle.flag_log.specs.Own.{Stands}
use Rattle.flag_log.specs.Puts as puts
use Rattle.flag_log.specs.Puts.{Put}

module _ {s t : store.Meaning} {a a' : Bool} {o kept new : Option FlagRecord} {r : Result (Unit {0}) LogRefusal} (p : Put s a kept o r t a' new) (h : Sound a s kept) where
  pub sound_after : Sound a' t new
  sound_after = puts.sound_after s t a a' o kept new p.at p.still p.law p.on p.awake h r p.calls p.memory

  pub changes : (checks : Option LogRefusal) (P Q : Standing → Type 0) → checks ≡ None → P (standing_of o) → Q (standing_of (flag_record (current s 0 0))) → Q (standing_of o) → Changes checks P Q (flag a s) r (flag a' t)
  changes = puts.changes s t a a' o kept new p.at p.still p.law p.on p.awake h r p.calls

  pub own : (checks : Option LogRefusal) → checks ≡ None → MakesChange checks (put_calls o) (Stands t o) s r t
  own = puts.own s t a a' o kept new p.at p.still p.law p.on p.awake h r p.calls
