-- What a kind of log says of a change beyond the interface: the device calls that it makes on the store below, and
-- what stands then.
use Rattle.std.specs.Prelude.{◌≡◌, List, IfOk, Err, Option, Result}
use Rattle.std.specs.Option as options
use Rattle.std.specs.Result as results
use Rattle.member_store.specs.Meaning.{Meaning}
use Rattle.member_store.specs.declared.refusal.Refusal.{Refusal}
use Rattle.device_calls.specs.Lists.{DeviceCall, Completed, Stopped}
use Rattle.intent_log.specs.declared.refusal.LogRefusal.{LogRefusal}
use Rattle.intent_log.specs.declared.refusal.LogRefusal.TheVariants.{Store}

module _ {U : Type 0} where
  -- The log makes these device calls in order, and hands up the refusal of the one at which it stops.
  abbrev pub Makes : List DeviceCall → Meaning → Result U LogRefusal → Meaning → Type 0
  Makes os s r t = results.MatchResult r (λ _. Completed os s t) (λ e. (d : Refusal) × ((e ≡ Store d) × Stopped os s d t))

  -- Where the checks pass, the log makes these device calls; else the store below is as it was. Accepted, `after` holds.
  pub record MakesChange (checks : Option LogRefusal) (calls : List DeviceCall) (after : Type 0) (s : Meaning) (r : Result U LogRefusal) (t : Meaning) : Type 0 where
    pub made_calls : options.MatchOption checks (Makes calls s r t) (λ d. (r ≡ Err d) × (t ≡ s))
    pub stands : IfOk r (λ _. after)
