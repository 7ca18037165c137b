-- What each call of the array does, by its state: a relation between what the array meant before (s), the answer (r)
-- and what it means after (t). The device calls and the changes of the log stand in their order, and power may go in
-- each of them.
use Rattle.std.specs.Prelude.{◌≡◌, ℕ, ◌+◌, Bool, cond, not, ◌&&◌, ◌⊎◌, List, [], ◌∷◌, ◌++◌, length, Some, None, Ok, Err, Option, Result, ◌==◌, nat_lt}
use Rattle.std.specs.Option as options
use Rattle.std.specs.Result as results
use Rattle.parity.specs.Xor.{zeros}
use Rattle.member_store.specs.Calls.{PoweredOn}
use Rattle.device_calls.specs.Lists.{DeviceCall, read, store, barrier, for_each}
use Rattle.stripe_set.specs.Named.{LeastFrom}
use Rattle.intent_log.specs.Calls as intent
use Rattle.intent_log.specs.declared.refusal.LogRefusal.{LogRefusal}
use Rattle.cache.specs.Contents.{empty, put_into, newest, exchanged}
use Rattle.cache.specs.Stripes.{Lowest, Listed, by_position, stripe_freed}
use Rattle.stripe_work.specs.Stripe.{parity_right}
use Rattle.stripe_work.specs.Work.{destage_calls, resync_calls, other_reads, reconstructed}
use Rattle.array_model.specs.Meaning.{Meaning, array, in_state, with_caches, named, Geometry, stripe_count, stripe, home, holder, held}
use Rattle.array_model.specs.Work.{Action, devices, mark, fresh, clear, blank, Performs, Declines}
use Rattle.array_model.specs.Checks.{limits_check, open_checks, open_short_checks, block_checks, write_checks, read_short_checks, all_named, naming_check}
use Rattle.array_model.specs.declared.state.Progress.{Progress}
use Rattle.array_model.specs.declared.state.State.{State}
use Rattle.array_model.specs.declared.state.State.TheVariants.{Fallen, Down, Resync, Ready, Short}
use Rattle.array_model.specs.declared.answer.TakenStripe.{TakenStripe}
use Rattle.array_model.specs.declared.answer.ResyncCounts.{ResyncCounts}
use Rattle.array_model.specs.declared.answer.Destage.{Destage}
use Rattle.array_model.specs.declared.answer.Destage.TheVariants.{Moved, Changed, Idle}
use Rattle.array_model.specs.declared.answer.FlushCounts.{FlushCounts}
use Rattle.array_model.specs.declared.refusal.ArrayRefusal.{ArrayRefusal}
use Rattle.array_model.specs.declared.refusal.ArrayRefusal.TheVariants.{Log, WrongState, StripeLeft}

-- an answer that tells nothing more, or a refusal
abbrev pub Plain : Type 0
Plain = Result (Unit {0}) ArrayRefusal

module _ {A : Type 0} where
  -- Where the checks name no refusal, P; else that refusal, and everything is as it was.
  abbrev pub Checked : Option ArrayRefusal → Meaning → Result A ArrayRefusal → Meaning → Type 0 → Type 0
  Checked checks s r t P = options.MatchOption checks P (λ e. Declines e s r t)

  -- The state does not allow the call.
  abbrev pub NotAllowed : Meaning → Result A ArrayRefusal → Meaning → Type 0
  NotAllowed s r t = Declines (WrongState s.state) s r t

  -- What a call does that only one state allows.
  abbrev pub InDown : (Meaning → Result A ArrayRefusal → Meaning → Type 0) → State → Meaning → Result A ArrayRefusal → Meaning → Type 0
  InDown P Fallen s r t = NotAllowed s r t
  InDown P Down s r t = P s r t
  InDown P (Resync p) s r t = NotAllowed s r t
  InDown P Ready s r t = NotAllowed s r t
  InDown P (Short d) s r t = NotAllowed s r t

  abbrev pub InResync : (Progress → Meaning → Result A ArrayRefusal → Meaning → Type 0) → State → Meaning → Result A ArrayRefusal → Meaning → Type 0
  InResync P Fallen s r t = NotAllowed s r t
  InResync P Down s r t = NotAllowed s r t
  InResync P (Resync p) s r t = P p s r t
  InResync P Ready s r t = NotAllowed s r t
  InResync P (Short d) s r t = NotAllowed s r t

  abbrev pub InReady : (Meaning → Result A ArrayRefusal → Meaning → Type 0) → State → Meaning → Result A ArrayRefusal → Meaning → Type 0
  InReady P Fallen s r t = NotAllowed s r t
  InReady P Down s r t = NotAllowed s r t
  InReady P (Resync p) s r t = NotAllowed s r t
  InReady P Ready s r t = P s r t
  InReady P (Short d) s r t = NotAllowed s r t

  abbrev pub InShort : (ℕ → Meaning → Result A ArrayRefusal → Meaning → Type 0) → State → Meaning → Result A ArrayRefusal → Meaning → Type 0
  InShort P Fallen s r t = NotAllowed s r t
  InShort P Down s r t = NotAllowed s r t
  InShort P (Resync p) s r t = NotAllowed s r t
  InShort P Ready s r t = NotAllowed s r t
  InShort P (Short d) s r t = P d s r t

-- POWER-ON, in any state: the caches are emptied, the members powered, then the log.
abbrev pub PowersOn : Meaning → Plain → Meaning → Type 0
PowersOn s r t =
    PoweredOn s.members t.members
    × results.MatchResult r
    (λ _. intent.PowersOn {U = Unit {0}} s.log (Ok tt) t.log × (t ≡ array Down empty t.members t.log))
    (λ e. (d : LogRefusal) × (e ≡ Log d) × intent.PowersOn {U = Unit {0}} s.log (Err d) t.log × (t ≡ array Fallen empty t.members t.log))

-- FORMAT: the log is blanked, every block zeroed, member by member and blocks rising, the members barred, the log cleared.
abbrev pub zero_calls : Geometry → List DeviceCall
zero_calls g = for_each (λ m. for_each (λ b. store m b zeros ∷ []) g.blocks) g.members

abbrev pub format_actions : Geometry → List Action
format_actions g = blank ∷ devices (zero_calls g ++ barrier ∷ []) ∷ clear ∷ []

abbrev pub Formats : Geometry → Meaning → Plain → Meaning → Type 0
Formats g s =
    InDown (λ s r t. Checked (limits_check g) s r t (Performs (format_actions g) tt Down s.caches s r t)) s.state s

-- THE OPENINGS
abbrev pub begun : Progress
begun = record { next = 0; read = 0; mended = 0 }

abbrev pub Opens : Geometry → Meaning → Plain → Meaning → Type 0
Opens g s = InDown (λ s r t. Checked (open_checks g s) s r t ((r ≡ Ok tt) × (t ≡ in_state (Resync begun) s))) s.state s

abbrev pub OpensShort : Geometry → ℕ → Meaning → Plain → Meaning → Type 0
OpensShort g d s = InDown (λ s r t. Checked (open_short_checks g d s) s r t ((r ≡ Ok tt) × (t ≡ in_state (Short d) s))) s.state s

-- STEP: the next named stripe of the array is taken.
abbrev pub due : Geometry → Meaning → ℕ → Bool
due g s k = nat_lt k (stripe_count g) && named s k

-- r is the next stripe to take, None where none is left
abbrev pub NextDue : Geometry → Meaning → Progress → Option ℕ → Type 0
NextDue g s p r = LeastFrom (due g s) p.next r

-- after stripe k was read, with parity right or wrong
abbrev pub taken : Progress → ℕ → Bool → Progress
taken p k right = record { next = k + 1; read = p.read + 1; mended = cond right p.mended (p.mended + 1) }

abbrev pub Takes : Geometry → Progress → ℕ → Meaning → Result (Option TakenStripe) ArrayRefusal → Meaning → Type 0
Takes g p k s r t =
    Performs (devices (resync_calls (stripe g k) s.members) ∷ []) (Some (record { stripe = k; mended = not (parity_right (stripe g k) s.members) }))
    (Resync (taken p k (parity_right (stripe g k) s.members))) s.caches s r t

abbrev pub StepsFrom : Geometry → Progress → Meaning → Result (Option TakenStripe) ArrayRefusal → Meaning → Type 0
StepsFrom g p s r t =
    (o : Option ℕ) × NextDue g s p o × options.MatchOption o ((r ≡ Ok None) × (t ≡ s)) (λ k. Takes g p k s r t)

abbrev pub Steps : Geometry → Meaning → Result (Option TakenStripe) ArrayRefusal → Meaning → Type 0
Steps g s = InResync (StepsFrom g) s.state s

-- FINISH: where no stripe is left, the members are barred, then the log is cleared.
abbrev pub totals : Progress → ResyncCounts
totals p = record { read = p.read; mended = p.mended }

abbrev pub finish_actions : List Action
finish_actions = devices (barrier ∷ []) ∷ clear ∷ []

abbrev pub FinishesFrom : Geometry → Progress → Meaning → Result ResyncCounts ArrayRefusal → Meaning → Type 0
FinishesFrom g p s r t =
    (o : Option ℕ) × NextDue g s p o
    × options.MatchOption o (Performs finish_actions (totals p) Ready s.caches s r t) (λ k. (r ≡ Err (StripeLeft k)) × (t ≡ in_state Down s))

abbrev pub Finishes : Geometry → Meaning → Result ResyncCounts ArrayRefusal → Meaning → Type 0
Finishes g s = InResync (FinishesFrom g) s.state s

-- WRITE: the block is put into the buffering cache.
abbrev pub Writes : Geometry → ℕ → List ℕ → Meaning → Plain → Meaning → Type 0
Writes g k x s =
    InReady (λ s r t. Checked (write_checks g k (length x) s) s r t ((r ≡ Ok tt) × (t ≡ with_caches (put_into k x s.caches) s))) s.state s

-- READ, into a buffer that held `old` and holds `new` after it.

-- The device calls are made; accepted, the buffer holds x; refused, what it held.
abbrev pub Fetches : List DeviceCall → List ℕ → List ℕ → List ℕ → Meaning → Plain → Meaning → Type 0
Fetches os x old new s r t =
    Performs (devices os ∷ []) tt s.state s.caches s r t × results.MatchResult r (λ _. new ≡ x) (λ _. new ≡ old)

abbrev pub read_calls : Geometry → ℕ → List DeviceCall
read_calls g k = read (holder g k) (stripe g (home g k)).block ∷ []

-- A cached block is answered from the caches, the newest first, else the members are read.
abbrev pub ReadsNewest : Geometry → ℕ → List ℕ → List ℕ → Meaning → Plain → Meaning → Type 0
ReadsNewest g k old new s r t =
    options.MatchOption (newest k s.caches)
    (Fetches (read_calls g k) (held g s.members k) old new s r t)
    (λ x. (r ≡ Ok tt) × (new ≡ x) × (t ≡ s))

abbrev pub Reads : Geometry → ℕ → List ℕ → List ℕ → Meaning → Plain → Meaning → Type 0
Reads g k old new s =
    InReady (λ s r t. options.MatchOption (block_checks g k (length old)) (ReadsNewest g k old new s r t) (λ e. Declines e s r t × (new ≡ old))) s.state s

-- DESTAGE

-- The log names the stripes of the list, which it may do already; the members are barred before a fresh.
abbrev pub naming_actions : List ℕ → Meaning → List Action
naming_actions w s = cond (all_named s w) [] (cond (s.log.fits w) (mark w ∷ []) (devices (barrier ∷ []) ∷ fresh w ∷ []))

abbrev pub puts : List ℕ → Meaning → ℕ
puts w s = cond (all_named s w) 0 1

-- w are the stripes of the buffering cache, and the destaging cache is empty: the caches change places.
abbrev pub ChangesCaches : List ℕ → Meaning → Result Destage ArrayRefusal → Meaning → Type 0
ChangesCaches [] s r t = (r ≡ Ok Idle) × (t ≡ s)
ChangesCaches (k ∷ ks) s r t =
    Checked (naming_check (k ∷ ks) s) s r t (Performs (naming_actions (k ∷ ks) s) (Changed (puts (k ∷ ks) s)) Ready (exchanged s.caches) s r t)

-- Stripe k of the destaging cache is written to the members, and its slots are freed.
abbrev pub MovesStripe : Geometry → ℕ → Meaning → Result Destage ArrayRefusal → Meaning → Type 0
MovesStripe g k s r t =
    Performs (devices (destage_calls (stripe g k) (by_position g.members g.blocks s.caches.destaging k) s.members) ∷ [])
    (Moved k) Ready (stripe_freed g.members g.blocks k s.caches) s r t

abbrev pub DestagesReady : Geometry → Meaning → Result Destage ArrayRefusal → Meaning → Type 0
DestagesReady g s r t =
    (o : Option ℕ) × Lowest g.members g.blocks s.caches.destaging o
    × options.MatchOption o
    ((w : List ℕ) × Listed g.members g.blocks s.caches.buffering w × ChangesCaches w s r t)
    (λ k. MovesStripe g k s r t)

abbrev pub Destages : Geometry → Meaning → Result Destage ArrayRefusal → Meaning → Type 0
Destages g s = InReady (DestagesReady g) s.state s

-- FLUSH: destages until idle, then bars.

-- Destages one after the other, none idle: how many stripes were moved and how many puts the log took.
pub data Drains (g : Geometry) (s : Meaning) : ℕ → ℕ → Meaning → Type 0 where
  begin : Drains g s 0 0 s
  then_moved : {n p : ℕ} {t : Meaning} (k : ℕ) (u : Meaning) → Drains g s n p t → Destages g t (Ok (Moved k)) u → Drains g s (n + 1) p u
  then_changed : {n p : ℕ} {t : Meaning} (q : ℕ) (u : Meaning) → Drains g s n p t → Destages g t (Ok (Changed q)) u → Drains g s n (p + q) u

-- Idle, and then barred.
abbrev pub Settles : Geometry → FlushCounts → Meaning → Result FlushCounts ArrayRefusal → Meaning → Type 0
Settles g c s r t = Destages g s (Ok Idle) s × Performs (devices (barrier ∷ []) ∷ []) c Ready s.caches s r t

abbrev pub FlushesReady : Geometry → Meaning → Result FlushCounts ArrayRefusal → Meaning → Type 0
FlushesReady g s r t =
    (n p : ℕ) × (u : Meaning) × Drains g s n p u
    × (Settles g (record { stripes = n; puts = p }) u r t ⊎ ((e : ArrayRefusal) × (r ≡ Err e) × Destages g u (Err e) t))

abbrev pub Flushes : Geometry → Meaning → Result FlushCounts ArrayRefusal → Meaning → Type 0
Flushes g s = InReady (FlushesReady g) s.state s

-- CLOSE: flushes, then clears the log; refused, the array is fallen.
abbrev pub ClosesReady : Geometry → Meaning → Plain → Meaning → Type 0
ClosesReady g s r t =
    (f : Result FlushCounts ArrayRefusal) × (u : Meaning) × Flushes g s f u
    × results.MatchResult f (λ _. Performs (clear ∷ []) tt Down empty u r t) (λ e. (r ≡ Err e) × (t ≡ in_state Fallen u))

abbrev pub Closes : Geometry → Meaning → Plain → Meaning → Type 0
Closes g s = InReady (ClosesReady g) s.state s

-- READ-SHORT, without member d: its blocks are worked out of the others.
abbrev pub ReadsWithout : Geometry → ℕ → ℕ → List ℕ → List ℕ → Meaning → Plain → Meaning → Type 0
ReadsWithout g d k old new s r t =
    cond (holder g k == d)
    (Fetches (other_reads g.members (stripe g (home g k)).block d) (reconstructed g.members (stripe g (home g k)).block d s.members) old new s r t)
    (Fetches (read_calls g k) (held g s.members k) old new s r t)

abbrev pub ReadsShort : Geometry → ℕ → List ℕ → List ℕ → Meaning → Plain → Meaning → Type 0
ReadsShort g k old new s =
    InShort (λ d s r t. options.MatchOption (read_short_checks g d k (length old) s) (ReadsWithout g d k old new s r t) (λ e. Declines e s r t × (new ≡ old)))
    s.state s

-- GIVE-UP of a ticket or permit: the caches are emptied.
abbrev pub given_up : State → State
given_up Fallen = Fallen
given_up Down = Down
given_up (Resync p) = Down
given_up Ready = Down
given_up (Short d) = Down

abbrev pub GivesUp : Meaning → Meaning → Type 0
GivesUp s t = t ≡ array (given_up s.state) empty s.members s.log
