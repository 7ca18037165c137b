-- Every call leaves the caches of a down, resynchronizing or short array empty. Assumes nothing.
use Rattle.std.proofs.Common.{◌≡◌, ℕ, Bool, true, false, cond, not, eqb, List, [], ◌∷◌, length, Some, None, Ok, Err, Option, Result, sym, refl, subst, inl, inr}
use Rattle.std.specs.Option as options
use Rattle.std.specs.Result as results
use Rattle.device_calls.specs.Lists.{barrier}
use Rattle.cache.specs.Contents.{Contents, empty, put_into, newest, exchanged}
use Rattle.cache.specs.Stripes.{Listed, by_position, stripe_freed}
use Rattle.stripe_work.specs.Stripe.{parity_right}
use Rattle.stripe_work.specs.Work.{destage_calls, resync_calls, other_reads, reconstructed}
use Rattle.array_model.specs.Meaning.{Meaning, in_state, with_caches, Geometry, stripe, home, holder, held}
use Rattle.array_model.specs.Checks.{limits_check, open_checks, open_short_checks, block_checks, write_checks, read_short_checks, naming_check}
use Rattle.array_model.specs.Work.{Action, devices, clear, Performs, Declines}
use Rattle.array_model.specs.Calls.{Plain, Checked, NotAllowed, PowersOn, format_actions, Formats, begun, Opens, OpensShort, taken, Takes, StepsFrom, Steps, totals, finish_actions, FinishesFrom, Finishes, Writes, Fetches, read_calls, ReadsNewest, Reads, naming_actions, puts, ChangesCaches, MovesStripe, DestagesReady, Destages, Drains, begin, then_moved, then_changed, FlushesReady, Flushes, ClosesReady, Closes, ReadsWithout, ReadsShort, given_up, GivesUp}
use Rattle.array_model.specs.Book as model
use Rattle.array_model.specs.Runs.{Does}
use Rattle.array_model.specs.declared.answer.TakenStripe.{TakenStripe}
use Rattle.array_model.specs.declared.answer.Destage.{Destage}
use Rattle.array_model.specs.declared.answer.Destage.TheVariants.{Moved, Changed}
use Rattle.array_model.specs.declared.answer.ResyncCounts.{ResyncCounts}
use Rattle.array_model.specs.declared.answer.FlushCounts.{FlushCounts}
use Rattle.array_model.specs.declared.refusal.ArrayRefusal.{ArrayRefusal}
use Rattle.array_model.specs.declared.refusal.ArrayRefusal.TheVariants.{StripeLeft}
use Rattle.array_model.specs.declared.state.Progress.{Progress}
use Rattle.array_model.specs.declared.state.State.{State}
use Rattle.array_model.specs.declared.state.State.TheVariants.{Fallen, Down, Resync, Ready, Short}
use Rattle.array_model.proofs.Cases.{in_down, in_resync, in_ready, in_short}
use Rattle.array_run.specs.Trace.{EmptyUnlessReady}

abbrev pub Idle : Meaning → Type 0
Idle s = EmptyUnlessReady s.state s.caches

-- as the array s has it in state q
abbrev In : Meaning → State → Type 0
In s q = EmptyUnlessReady q s.caches

same : (s t : Meaning) → t ≡ s → Idle s → Idle t
same s t e h = subst Idle (sym e) h

module _ {A : Type 0} (s : Meaning) (r : Result A ArrayRefusal) (t : Meaning) (h : Idle s) where
  not_allowed : NotAllowed s r t → Idle t
  not_allowed d = same s t d.1 h

  checked : (o : Option ArrayRefusal) (P : Type 0) → (P → Idle t) → Checked o s r t P → Idle t
  checked None P use-it d = use-it d
  checked (Some e) P use-it d = same s t d.1 h

performs : {A : Type 0} (acts : List Action) (a : A) (q : State) (c : Contents) (s : Meaning) (r : Result A ArrayRefusal) (t : Meaning) → EmptyUnlessReady q c → Performs acts a q c s r t → Idle t
performs acts a q c s (Ok b) t h d = subst Idle (sym d.2) h
performs acts a q c s (Err e) t h d = subst Idle (sym d.1) tt

powers_on : (s : Meaning) (r : Plain) (t : Meaning) → PowersOn s r t → Idle t
powers_on s (Ok a) t d = subst Idle (sym d.1.1) refl
powers_on s (Err e) t d = subst Idle (sym d.1.3) tt

module _ (g : Geometry) (s t : Meaning) (h : Idle s) where
  formats : (r : Plain) → Formats g s r t → Idle t
  formats r d =
      in_down s r t (In s) (Idle t) (λ s r t. Checked (limits_check g) s r t (Performs (format_actions g) tt Down s.caches s r t))
      (not_allowed s r t h)
      (λ i w e. checked s r t h (limits_check g) (Performs (format_actions g) tt Down s.caches s r t) (performs (format_actions g) tt Down s.caches s r t i) w)
      s.state refl h d

  opens : (r : Plain) → Opens g s r t → Idle t
  opens r d =
      in_down s r t (In s) (Idle t) (λ s r t. Checked (open_checks g s) s r t ((r ≡ Ok tt) × (t ≡ in_state (Resync begun) s)))
      (not_allowed s r t h)
      (λ i w e. checked s r t h (open_checks g s) ((r ≡ Ok tt) × (t ≡ in_state (Resync begun) s)) (λ k. subst Idle (sym k.1) i) w)
      s.state refl h d

  opens_short : (x : ℕ) (r : Plain) → OpensShort g x s r t → Idle t
  opens_short x r d =
      in_down s r t (In s) (Idle t) (λ s r t. Checked (open_short_checks g x s) s r t ((r ≡ Ok tt) × (t ≡ in_state (Short x) s)))
      (not_allowed s r t h)
      (λ i w e. checked s r t h (open_short_checks g x s) ((r ≡ Ok tt) × (t ≡ in_state (Short x) s)) (λ k. subst Idle (sym k.1) i) w)
      s.state refl h d

  step_by : (p : Progress) (r : Result (Option TakenStripe) ArrayRefusal) (o : Option ℕ) → s.caches ≡ empty → options.MatchOption o ((r ≡ Ok None) × (t ≡ s)) (λ k. Takes g p k s r t) → Idle t
  step_by p r None i w = same s t w.1 h
  step_by p r (Some k) i w =
      performs (devices (resync_calls (stripe g k) s.members) ∷ []) (Some (record { stripe = k; mended = not (parity_right (stripe g k) s.members) })) (Resync (taken p k (parity_right (stripe g k) s.members))) s.caches s r t i w

  steps : (r : Result (Option TakenStripe) ArrayRefusal) → Steps g s r t → Idle t
  steps r d =
      in_resync s r t (In s) (Idle t) (StepsFrom g)
      (not_allowed s r t h)
      (λ p i w e. step_by p r w.0 i w.2)
      s.state refl h d

  finish_by : (p : Progress) (r : Result ResyncCounts ArrayRefusal) (o : Option ℕ) → s.caches ≡ empty → options.MatchOption o (Performs finish_actions (totals p) Ready s.caches s r t) (λ k. (r ≡ Err (StripeLeft k)) × (t ≡ in_state Down s)) → Idle t
  finish_by p r None i w = performs finish_actions (totals p) Ready s.caches s r t tt w
  finish_by p r (Some k) i w = subst Idle (sym w.1) i

  finishes : (r : Result ResyncCounts ArrayRefusal) → Finishes g s r t → Idle t
  finishes r d =
      in_resync s r t (In s) (Idle t) (FinishesFrom g)
      (not_allowed s r t h)
      (λ p i w e. finish_by p r w.0 i w.2)
      s.state refl h d

  writes : (k : ℕ) (x : List ℕ) (r : Plain) → Writes g k x s r t → Idle t
  writes k x r d =
      in_ready s r t (In s) (Idle t) (λ s r t. Checked (write_checks g k (length x) s) s r t ((r ≡ Ok tt) × (t ≡ with_caches (put_into k x s.caches) s)))
      (not_allowed s r t h)
      (λ i w e. checked s r t h (write_checks g k (length x) s) ((r ≡ Ok tt) × (t ≡ with_caches (put_into k x s.caches) s))
      (λ v. subst Idle (sym v.1) (subst (λ q. EmptyUnlessReady q (put_into k x s.caches)) (sym e) tt)) w)
      s.state refl h d

  newest_by : (k : ℕ) (old new : List ℕ) (r : Plain) (o : Option (List ℕ)) → options.MatchOption o (Fetches (read_calls g k) (held g s.members k) old new s r t) (λ x. (r ≡ Ok tt) × (new ≡ x) × (t ≡ s)) → Idle t
  newest_by k old new r None w = performs (devices (read_calls g k) ∷ []) tt s.state s.caches s r t h w.0
  newest_by k old new r (Some x) w = same s t w.2 h

  read_by : (k : ℕ) (old new : List ℕ) (r : Plain) (o : Option ArrayRefusal) → options.MatchOption o (ReadsNewest g k old new s r t) (λ e. Declines e s r t × (new ≡ old)) → Idle t
  read_by k old new r None w = newest_by k old new r (newest k s.caches) w
  read_by k old new r (Some e) w = same s t w.0.1 h

  reads : (k : ℕ) (old new : List ℕ) (r : Plain) → Reads g k old new s r t → Idle t
  reads k old new r d =
      in_ready s r t (In s) (Idle t) (λ s r t. options.MatchOption (block_checks g k (length old)) (ReadsNewest g k old new s r t) (λ e. Declines e s r t × (new ≡ old)))
      (not_allowed s r t h)
      (λ i w e. read_by k old new r (block_checks g k (length old)) w)
      s.state refl h d

  without_by : (x k : ℕ) (old new : List ℕ) (r : Plain) (b : Bool)
      → cond b (Fetches (other_reads g.members (stripe g (home g k)).block x) (reconstructed g.members (stripe g (home g k)).block x s.members) old new s r t) (Fetches (read_calls g k) (held g s.members k) old new s r t)
      → Idle t
  without_by x k old new r true w = performs (devices (other_reads g.members (stripe g (home g k)).block x) ∷ []) tt s.state s.caches s r t h w.0
  without_by x k old new r false w = performs (devices (read_calls g k) ∷ []) tt s.state s.caches s r t h w.0

  short_by : (x k : ℕ) (old new : List ℕ) (r : Plain) (o : Option ArrayRefusal) → options.MatchOption o (ReadsWithout g x k old new s r t) (λ e. Declines e s r t × (new ≡ old)) → Idle t
  short_by x k old new r None w = without_by x k old new r (eqb (holder g k) x) w
  short_by x k old new r (Some e) w = same s t w.0.1 h

  reads_short : (k : ℕ) (old new : List ℕ) (r : Plain) → ReadsShort g k old new s r t → Idle t
  reads_short k old new r d =
      in_short s r t (In s) (Idle t) (λ x s r t. options.MatchOption (read_short_checks g x k (length old) s) (ReadsWithout g x k old new s r t) (λ e. Declines e s r t × (new ≡ old)))
      (not_allowed s r t h)
      (λ x i w e. short_by x k old new r (read_short_checks g x k (length old) s) w)
      s.state refl h d

  changes : (r : Result Destage ArrayRefusal) (w : List ℕ) → ChangesCaches w s r t → Idle t
  changes r [] d = same s t d.1 h
  changes r (k ∷ ks) d =
      checked s r t h (naming_check (k ∷ ks) s) (Performs (naming_actions (k ∷ ks) s) (Changed (puts (k ∷ ks) s)) Ready (exchanged s.caches) s r t)
      (performs (naming_actions (k ∷ ks) s) (Changed (puts (k ∷ ks) s)) Ready (exchanged s.caches) s r t tt) d

  destage_by : (r : Result Destage ArrayRefusal) (o : Option ℕ) → options.MatchOption o ((w : List ℕ) × Listed g.members g.blocks s.caches.buffering w × ChangesCaches w s r t) (λ k. MovesStripe g k s r t) → Idle t
  destage_by r None d = changes r d.0 d.2
  destage_by r (Some k) d =
      performs (devices (destage_calls (stripe g k) (by_position g.members g.blocks s.caches.destaging k) s.members) ∷ []) (Moved k) Ready (stripe_freed g.members g.blocks k s.caches) s r t tt d

  pub destages : (r : Result Destage ArrayRefusal) → Destages g s r t → Idle t
  destages r d =
      in_ready s r t (In s) (Idle t) (DestagesReady g)
      (not_allowed s r t h)
      (λ i w e. destage_by r w.0 w.2)
      s.state refl h d

module _ (g : Geometry) where
  drains : (s : Meaning) (n p : ℕ) (t : Meaning) → Idle s → Drains g s n p t → Idle t
  drains s _ _ t h begin = h
  drains s _ _ t h (then_moved {n = n} {p = p} {t = u} k _ d e) = destages g u t (drains s n p u h d) (Ok (Moved k)) e
  drains s _ _ t h (then_changed {n = n} {p = p} {t = u} k _ d e) = destages g u t (drains s n p u h d) (Ok (Changed k)) e

  module _ (s t : Meaning) (h : Idle s) where
    flush_ready : (r : Result FlushCounts ArrayRefusal) → FlushesReady g s r t → Idle t
    flush_ready r (n, p, u, d, inl w) = performs (devices (barrier ∷ []) ∷ []) (record { stripes = n; puts = p }) Ready u.caches u r t tt w.1
    flush_ready r (n, p, u, d, inr w) = destages g u t (drains s n p u h d) (Err w.0) w.2

    flushes : (r : Result FlushCounts ArrayRefusal) → Flushes g s r t → Idle t
    flushes r d = in_ready s r t (In s) (Idle t) (FlushesReady g) (not_allowed s r t h) (λ i w e. flush_ready r w) s.state refl h d

    close_by : (r : Plain) (f : Result FlushCounts ArrayRefusal) (u : Meaning) → results.MatchResult f (λ _. Performs (clear ∷ []) tt Down empty u r t) (λ e. (r ≡ Err e) × (t ≡ in_state Fallen u)) → Idle t
    close_by r (Ok a) u w = performs (clear ∷ []) tt Down empty u r t refl w
    close_by r (Err e) u w = subst Idle (sym w.1) tt

    closes : (r : Plain) → Closes g s r t → Idle t
    closes r d = in_ready s r t (In s) (Idle t) (ClosesReady g) (not_allowed s r t h) (λ i w e. close_by r w.0 w.1 w.3) s.state refl h d

left_empty : (q : State) → EmptyUnlessReady (given_up q) empty
left_empty Fallen = tt
left_empty Down = refl
left_empty (Resync p) = refl
left_empty Ready = refl
left_empty (Short d) = refl

gives_up : (s t : Meaning) → GivesUp s t → Idle t
gives_up s t d = subst Idle (sym d) (left_empty s.state)

pub does_unused : (g : Geometry) (c : model.Call) (s : Meaning) (r : model.Reply c) (t : Meaning) → Does g c s r t → Idle s → Idle t
does_unused g model.power_on s r t d h = powers_on s r t d
does_unused g model.format s r t d h = formats g s t h r d
does_unused g model.open_whole s r t d h = opens g s t h r d
does_unused g model.step s r t d h = steps g s t h r d
does_unused g model.finish s r t d h = finishes g s t h r d
does_unused g model.destage s r t d h = destages g s t h r d
does_unused g model.flush s r t d h = flushes g s t h r d
does_unused g model.close s r t d h = closes g s t h r d
does_unused g model.give_up s r t d h = gives_up s t d
does_unused g (model.open_short x) s r t d h = opens_short g s t h x r d
does_unused g (model.write k x) s r t d h = writes g s t h k x r d
does_unused g (model.read_block k old) s r t d h = reads g s t h k old r.1 r.0 d
does_unused g (model.read_short k old) s r t d h = reads_short g s t h k old r.1 r.0 d
