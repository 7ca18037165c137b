-- What the work below the calls of an array answers, and what it leaves of members and log.
use Rattle.std.specs.Prelude.{◌≡◌, ℕ, ◌<◌, Bool, true, false, ◌&&◌, List, [], ◌∷◌, IfSome, IfOk, Ok, Err, Option, Result, nat_lt}
use Rattle.std.specs.Option as options
use Rattle.std.specs.Result as results
use Rattle.geometry.specs.Counts.{members_of, blocks_of}
use Rattle.geometry.specs.Places.{stripes}
use Rattle.geometry.specs.declared.shape.Shape.{Shape}
use Rattle.member_store.specs.Meaning as store
use Rattle.member_store.specs.Calls.{PoweredOn}
use Rattle.device_calls.specs.Lists.{DeviceCall}
use Rattle.stripe_set.specs.Named.{LeastFrom}
use Rattle.intent_log.specs.Meaning as intent
use Rattle.intent_log.specs.Calls as logs
use Rattle.intent_log.specs.declared.refusal.LogRefusal.{LogRefusal}
use Rattle.intent_log.specs.declared.refusal.LogRefusal.TheVariants.{Off}
use Rattle.array_model.specs.Meaning.{Meaning, Arrange, Geometry}
use Rattle.array_model.specs.Checks.{naming_check}
use Rattle.array_model.specs.Calls.{naming_actions, puts}
use Rattle.array_model.specs.Work.{Action, devices, AllAccepted, FirstRefused}
use Rattle.array_model.specs.declared.state.State.{State}
use Rattle.array_model.specs.declared.state.State.TheVariants.{Fallen}
use Rattle.array_model.specs.declared.refusal.ArrayRefusal.{ArrayRefusal}
use Rattle.array_model.specs.declared.refusal.ArrayRefusal.TheVariants.{Members, Log, Limits, WrongState, NoRecord, NoSlot, StripeLeft, NoBlock, WrongLength, StripeNamed, NoMember, LogSpent}
use Rattle.stripe_work.specs.declared.refusal.StripeRefusal.{StripeRefusal}
use Rattle.stripe_work.specs.declared.refusal.StripeRefusal.TheVariants as stripe_refusal

-- The layout with the counts of a shape.
abbrev pub sized : Arrange → Shape → Geometry
sized arrange a = record { arrange = arrange; members = members_of a; blocks = blocks_of a }

-- Where all actions are accepted, the answer is a; else it is the refusal of the first one refused.
abbrev pub Works : {A : Type 0} → List Action → A → store.Meaning → intent.Meaning → Result A ArrayRefusal → store.Meaning → intent.Meaning → Type 0
Works actions a m l r m' l' = results.MatchResult r (λ b. (b ≡ a) × AllAccepted actions m l m' l') (λ e. FirstRefused actions m l e m' l')

-- Power-on: the members are powered, then the log, whose refusal is handed up.
abbrev pub Powers : store.Meaning → intent.Meaning → Result (Unit {0}) ArrayRefusal → store.Meaning → intent.Meaning → Type 0
Powers m l r m' l' =
    PoweredOn m m'
    × results.MatchResult r
    (λ _. logs.PowersOn {U = Unit {0}} l (Ok tt) l')
    (λ e. (d : LogRefusal) × (e ≡ Log d) × logs.PowersOn {U = Unit {0}} l (Err d) l')

-- The stripes of an array with n blocks a member that the log names.
abbrev pub due_in : ℕ → intent.Meaning → ℕ → Bool
due_in n l k = nat_lt k (stripes n) && l.standing.names k

-- The next of them at or above a number, while power is on.
abbrev pub FindsDue : ℕ → intent.Meaning → ℕ → Result (Option ℕ) LogRefusal → Type 0
FindsDue n l a r = results.MatchResult r (λ o. (l.on ≡ true) × LeastFrom (due_in n l) a o) (λ e. (l.on ≡ false) × (e ≡ Off))

-- A stripe that was found is one of the array.
abbrev pub Below : ℕ → Result (Option ℕ) LogRefusal → Type 0
Below n r = IfOk r (λ o. IfSome o (λ k. k < stripes n))

-- A device call was refused, and the array tells that refusal r.
abbrev pub IsDevice : StripeRefusal → Type 0
IsDevice (stripe_refusal.Device e) = Unit {0}
IsDevice (stripe_refusal.NoStripe k) = ⊥
IsDevice (stripe_refusal.NoMember k) = ⊥
IsDevice (stripe_refusal.NoBlock k) = ⊥

abbrev pub Tells : StripeRefusal → ArrayRefusal → Type 0
Tells (stripe_refusal.Device e) r = r ≡ Members e
Tells (stripe_refusal.NoStripe k) r = ⊥
Tells (stripe_refusal.NoMember k) r = ⊥
Tells (stripe_refusal.NoBlock k) r = ⊥

-- Naming the stripes of a list for an array that means s: what the checks name is refused, and nothing changed; else
-- the log names them, and the answer is the number of puts.
abbrev pub Names : List ℕ → Meaning → Result ℕ ArrayRefusal → store.Meaning → intent.Meaning → Type 0
Names w s r m' l' =
    options.MatchOption (naming_check w s)
    (Works (naming_actions w s) (puts w s) s.members s.log r m' l')
    (λ e. (r ≡ Err e) × (m' ≡ s.members) × (l' ≡ s.log))

-- The device calls are made; accepted, the buffer holds x; refused, what it held. The log is not touched.
abbrev pub Fetched : List DeviceCall → List ℕ → List ℕ → List ℕ → store.Meaning → Result (Unit {0}) ArrayRefusal → store.Meaning → Type 0
Fetched os x old new m r m' = ((l : intent.Meaning) → Works (devices os ∷ []) tt m l r m' l) × results.MatchResult r (λ _. new ≡ x) (λ _. new ≡ old)

-- The state of an array after work in state q: fallen where power was missing; the refusal for a spent log leaves it.
abbrev pub state_told : State → ArrayRefusal → State
state_told q (Members e) = Fallen
state_told q (Log e) = Fallen
state_told q (Limits m n) = Fallen
state_told q (WrongState p) = Fallen
state_told q NoRecord = Fallen
state_told q (NoSlot k) = Fallen
state_told q (StripeLeft k) = Fallen
state_told q (NoBlock k) = Fallen
state_told q (WrongLength n) = Fallen
state_told q (StripeNamed k) = Fallen
state_told q (NoMember k) = Fallen
state_told q LogSpent = q

abbrev pub state_after : {A : Type 0} → State → Result A ArrayRefusal → State
state_after q (Ok a) = q
state_after q (Err e) = state_told q e
