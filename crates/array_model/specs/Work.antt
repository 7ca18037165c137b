-- What an array does to its members and its log: a list of actions in their order, performed up to the first refusal.
use Rattle.std.specs.Prelude.{◌≡◌, ℕ, ◌⊎◌, List, [], ◌∷◌, Ok, Err, Result}
use Rattle.std.specs.Result as results
use Rattle.member_store.specs.Meaning as store
use Rattle.member_store.specs.declared.refusal.Refusal.{Refusal}
use Rattle.device_calls.specs.Lists.{DeviceCall, Completed, Stopped}
use Rattle.intent_log.specs.Meaning as intent
use Rattle.intent_log.specs.Calls.{Marks, Freshens, Clears, Blanks}
use Rattle.intent_log.specs.declared.refusal.LogRefusal.{LogRefusal}
use Rattle.cache.specs.Contents.{Contents}
use Rattle.array_model.specs.Meaning.{Meaning, array}
use Rattle.array_model.specs.declared.state.State.{State}
use Rattle.array_model.specs.declared.state.State.TheVariants.{Fallen}
use Rattle.array_model.specs.declared.refusal.ArrayRefusal.{ArrayRefusal}
use Rattle.array_model.specs.declared.refusal.ArrayRefusal.TheVariants.{Members, Log}

-- Device calls on the members, or a change of the log.
pub data Action : Type 0 where
  devices : List DeviceCall → Action
  mark fresh : List ℕ → Action
  clear blank : Action

-- The action is accepted: members m and log l become m' and l'.
abbrev pub ActionAccepted : Action → store.Meaning → intent.Meaning → store.Meaning → intent.Meaning → Type 0
ActionAccepted (devices os) m l m' l' = Completed os m m' × (l' ≡ l)
ActionAccepted (mark w) m l m' l' = (m' ≡ m) × Marks {U = Unit {0}} w l (Ok tt) l'
ActionAccepted (fresh w) m l m' l' = (m' ≡ m) × Freshens {U = Unit {0}} w l (Ok tt) l'
ActionAccepted clear m l m' l' = (m' ≡ m) × Clears {U = Unit {0}} l (Ok tt) l'
ActionAccepted blank m l m' l' = (m' ≡ m) × Blanks {U = Unit {0}} l (Ok tt) l'

-- The action is refused with e, which is handed up with its layer.
abbrev pub ActionRefused : Action → store.Meaning → intent.Meaning → ArrayRefusal → store.Meaning → intent.Meaning → Type 0
ActionRefused (devices os) m l e m' l' = (d : Refusal) × (e ≡ Members d) × Stopped os m d m' × (l' ≡ l)
ActionRefused (mark w) m l e m' l' = (d : LogRefusal) × (e ≡ Log d) × (m' ≡ m) × Marks {U = Unit {0}} w l (Err d) l'
ActionRefused (fresh w) m l e m' l' = (d : LogRefusal) × (e ≡ Log d) × (m' ≡ m) × Freshens {U = Unit {0}} w l (Err d) l'
ActionRefused clear m l e m' l' = (d : LogRefusal) × (e ≡ Log d) × (m' ≡ m) × Clears {U = Unit {0}} l (Err d) l'
ActionRefused blank m l e m' l' = (d : LogRefusal) × (e ≡ Log d) × (m' ≡ m) × Blanks {U = Unit {0}} l (Err d) l'

-- All actions are accepted, one after the other.
abbrev pub AllAccepted : List Action → store.Meaning → intent.Meaning → store.Meaning → intent.Meaning → Type 0
AllAccepted [] m l m' l' = (m' ≡ m) × (l' ≡ l)
AllAccepted (a ∷ rest) m l m' l' = (u : store.Meaning) × (k : intent.Meaning) × ActionAccepted a m l u k × AllAccepted rest u k m' l'

-- The first ones are accepted, the next one is refused with e, and none after it is begun.
abbrev pub FirstRefused : List Action → store.Meaning → intent.Meaning → ArrayRefusal → store.Meaning → intent.Meaning → Type 0
FirstRefused [] m l e m' l' = ⊥
FirstRefused (a ∷ rest) m l e m' l' =
    ActionRefused a m l e m' l' ⊎ ((u : store.Meaning) × (k : intent.Meaning) × ActionAccepted a m l u k × FirstRefused rest u k e m' l')

module _ {A : Type 0} where
  -- Where all actions are accepted, the answer is a, and the array is in state q with caches c. At the first one
  -- refused it is fallen, with the caches that it had.
  abbrev pub Performs : List Action → A → State → Contents → Meaning → Result A ArrayRefusal → Meaning → Type 0
  Performs works a q c s r t =
      results.MatchResult r
      (λ b. (b ≡ a) × AllAccepted works s.members s.log t.members t.log × (t ≡ array q c t.members t.log))
      (λ e. FirstRefused works s.members s.log e t.members t.log × (t ≡ array Fallen s.caches t.members t.log))

  -- The call is refused with e, and everything is as it was.
  abbrev pub Declines : ArrayRefusal → Meaning → Result A ArrayRefusal → Meaning → Type 0
  Declines e s r t = (r ≡ Err e) × (t ≡ s)
