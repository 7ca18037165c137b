-- What the flag log says of its own calls: the device calls that each makes, and which record stands then.
use Rattle.std.specs.Prelude.{◌≡◌, ℕ, Bool, cond, List, [], ◌∷◌, Some, None, Ok, Err, Option, Result}
use Rattle.member_store.specs.Meaning.{Meaning, current}
use Rattle.member_store.specs.Calls.{PoweredOn}
use Rattle.device_calls.specs.Lists as device
use Rattle.intent_log.specs.Calls.{mark_checks, fresh_checks, power_checks}
use Rattle.intent_log.specs.Devices.{Makes, MakesChange}
use Rattle.intent_log.specs.declared.refusal.LogRefusal.{LogRefusal}
use Rattle.intent_log.specs.declared.refusal.LogRefusal.TheVariants.{Off}
use Rattle.flag_log.specs.declared.flag.FlagRecord.{FlagRecord}
use Rattle.flag_log.specs.declared.flag.FlagRecord.TheVariants.{NamesNothing, NamesEvery}
use Rattle.flag_log.specs.Form.{flag_record}
use Rattle.flag_log.specs.Flag.{flag, put_calls}

-- the record o stands in the block
abbrev pub Stands : Meaning → Option FlagRecord → Type 0
Stands t o = flag_record (current t 0 0) ≡ o

module _ {U : Type 0} where
  abbrev pub OwnMark : Bool → Meaning → List ℕ → Result U LogRefusal → Meaning → Type 0
  OwnMark awake s w r t = MakesChange (mark_checks (flag awake s) w) (put_calls (Some NamesEvery)) (Stands t (Some NamesEvery)) s r t

  abbrev pub OwnFresh : Bool → Meaning → List ℕ → Result U LogRefusal → Meaning → Type 0
  OwnFresh awake s w r t = MakesChange (fresh_checks (flag awake s) w) (put_calls (Some NamesEvery)) (Stands t (Some NamesEvery)) s r t

  abbrev pub OwnClear : Bool → Meaning → Result U LogRefusal → Meaning → Type 0
  OwnClear awake s r t = MakesChange (power_checks (flag awake s)) (put_calls (Some NamesNothing)) (Stands t (Some NamesNothing)) s r t

  abbrev pub OwnBlank : Bool → Meaning → Result U LogRefusal → Meaning → Type 0
  OwnBlank awake s r t = MakesChange (power_checks (flag awake s)) (put_calls None) (Stands t None) s r t

  -- the store is powered, and then block 0 of member 0 is read
  abbrev pub OwnPower : Meaning → Result U LogRefusal → Meaning → Type 0
  OwnPower s r t = (u : Meaning) × (PoweredOn s u × Makes (device.read 0 0 ∷ []) u r t)

-- the record that stands is shown while power is on
abbrev pub Shows : Bool → Meaning → Result (Option FlagRecord) LogRefusal → Type 0
Shows on s r = r ≡ cond on (Ok (flag_record (current s 0 0))) (Err Off)
