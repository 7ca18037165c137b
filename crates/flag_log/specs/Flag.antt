-- What a flag log on a member store means, and what is kept in memory.
use Rattle.std.specs.Prelude.{◌≡◌, ℕ, Bool, true, false, ◌&&◌, List, [], ◌∷◌, map, is_some, None, Option}
use Rattle.member_store.specs.Meaning as store
use Rattle.device_calls.specs.Lists as device
use Rattle.device_calls.specs.Lists.{DeviceCall}
use Rattle.intent_log.specs.Meaning.{Standing, Meaning, listed}
use Rattle.flag_log.specs.declared.flag.FlagRecord.{FlagRecord}
use Rattle.flag_log.specs.Form.{every, flag_block, flag_record}

-- a record names every stripe or none
abbrev pub standing_of : Option FlagRecord → Standing
standing_of o = record { stands = is_some o; names = λ s. every o }

abbrev pub flag : Bool → store.Meaning → Meaning
flag awake s = record {
  on = awake && s.on;
  standing = standing_of (flag_record (store.current s 0 0));
  others = map (λ v. standing_of (flag_record v)) (s.versions 0 0);
  spent = false;
  fits = listed;
  too_small = None;
}

-- block 0 of member 0 has one version, and what is kept in memory is the record in it
pub record Steady (s : store.Meaning) (kept : Option FlagRecord) : Type 0 where
  pub single : (v : List ℕ) → store.Version s 0 0 v → v ≡ store.current s 0 0
  pub same : kept ≡ flag_record (store.current s 0 0)

-- while power is on
abbrev pub Sound : Bool → store.Meaning → Option FlagRecord → Type 0
Sound awake s kept = (awake && s.on) ≡ true → Steady s kept

-- a record is stored and barred
abbrev pub put_calls : Option FlagRecord → List DeviceCall
put_calls o = device.store 0 0 (flag_block o) ∷ device.barrier ∷ []
