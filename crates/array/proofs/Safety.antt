-- What destages and flushes leave of a sound array. Assumes nothing.
use Rattle.std.proofs.Common.{◌≡◌, ℕ, true, List, [], ◌∷◌, Some, None, Ok, Err, Option, Result, sym, ap, subst, inl, inr, arith}
use Rattle.std.specs.Option as options
use Rattle.device_calls.specs.Lists.{barrier}
use Rattle.cache.specs.Contents.{Contents, exchanged}
use Rattle.cache.specs.Stripes.{Listed, by_position, stripe_freed}
use Rattle.stripe_work.specs.Work.{destage_calls}
use Rattle.array_model.specs.Meaning.{Meaning, Geometry, stripe}
use Rattle.array_model.specs.Checks.{naming_check}
use Rattle.array_model.specs.Work.{Action, devices, Performs, Declines}
use Rattle.array_model.specs.Calls.{InReady, naming_actions, puts, ChangesCaches, MovesStripe, DestagesReady, Destages, Drains, begin, then_moved, then_changed, FlushesReady}
use Rattle.array_model.specs.declared.answer.FlushCounts.{FlushCounts}
use Rattle.array_model.specs.declared.answer.Destage.{Destage}
use Rattle.array_model.specs.declared.answer.Destage.TheVariants.{Moved, Changed, Idle}
use Rattle.array_model.specs.declared.state.State.{State}
use Rattle.array_model.specs.declared.state.State.TheVariants.{Fallen, Down, Resync, Ready, Short}
use Rattle.array_model.specs.declared.refusal.ArrayRefusal.{ArrayRefusal}
use Rattle.array_model.specs.declared.refusal.ArrayRefusal.TheVariants.{WrongState}
use Rattle.array.specs.Sound.{Sized, SoundIn}
use Rattle.array.proofs.Kept.{sized_still, all_counts, all_on}

module _ (S : Type 0) (x : S) where
  abbrev Safe : Meaning → Type 0
  Safe s = SoundIn s.state S s.members s.log

  pub same_safe : (s t : Meaning) → t ≡ s → Safe s → Safe t
  same_safe s t e h = subst Safe (sym e) h

  pub performs_safe : {A : Type 0} (acts : List Action) (a : A) (c : Contents) (s t : Meaning) (r : Result A ArrayRefusal) → s.log.on ≡ true → Sized s.members → Performs acts a Ready c s r t → Safe t
  performs_safe acts a c s t (Ok b) on z d =
      subst (λ q. SoundIn q S t.members t.log) (sym (ap (λ u. u.state) d.2))
      ((x, all_on acts s.members s.log t.members t.log on d.1), sized_still s.members t.members (all_counts acts s.members s.log t.members t.log d.1) z)
  performs_safe acts a c s t (Err e) on z d = subst (λ q. SoundIn q S t.members t.log) (sym (ap (λ u. u.state) d.1)) tt

  module _ (g : Geometry) (s t : Meaning) (r : Result Destage ArrayRefusal) where
    checked_safe : (o : Option ArrayRefusal) (acts : List Action) (a : Destage) (c : Contents) → s.log.on ≡ true → Sized s.members → Safe s → options.MatchOption o (Performs acts a Ready c s r t) (λ e. Declines e s r t) → Safe t
    checked_safe None acts a c on z h d = performs_safe acts a c s t r on z d
    checked_safe (Some e) acts a c on z h d = same_safe s t d.1 h

    changes_safe : (w : List ℕ) → s.log.on ≡ true → Sized s.members → Safe s → ChangesCaches w s r t → Safe t
    changes_safe [] on z h d = same_safe s t d.1 h
    changes_safe (k ∷ ks) on z h d = checked_safe (naming_check (k ∷ ks) s) (naming_actions (k ∷ ks) s) (Changed (puts (k ∷ ks) s)) (exchanged s.caches) on z h d

    destage_by : (o : Option ℕ) → s.log.on ≡ true → Sized s.members → Safe s → options.MatchOption o ((w : List ℕ) × Listed g.members g.blocks s.caches.buffering w × ChangesCaches w s r t) (λ k. MovesStripe g k s r t) → Safe t
    destage_by None on z h d = changes_safe d.0 on z h d.2
    destage_by (Some k) on z h d =
        performs_safe (devices (destage_calls (stripe g k) (by_position g.members g.blocks s.caches.destaging k) s.members) ∷ []) (Moved k) (stripe_freed g.members g.blocks k s.caches) s t r on z d

    pub destage_safe : s.log.on ≡ true → Sized s.members → Safe s → DestagesReady g s r t → Safe t
    destage_safe on z h d = destage_by d.0 on z h d.2

    by_state : (q : State) → SoundIn q S s.members s.log → Safe s → InReady (DestagesReady g) q s r t → Safe t
    by_state Fallen k h d = same_safe s t d.1 h
    by_state Down k h d = same_safe s t d.1 h
    by_state (Resync p) k h d = same_safe s t d.1 h
    by_state Ready k h d = destage_safe k.0.1 k.1 h d
    by_state (Short i) k h d = same_safe s t d.1 h

    pub destages_safe : Safe s → Destages g s r t → Safe t
    destages_safe h d = by_state s.state h h d

  module _ (g : Geometry) where
    pub drains_safe : (s : Meaning) (n p : ℕ) (t : Meaning) → Safe s → Drains g s n p t → Safe t
    drains_safe s _ _ t h begin = h
    drains_safe s _ _ t h (then_moved {n = n} {p = p} {t = u} k _ d e) = destages_safe g u t (Ok (Moved k)) (drains_safe s n p u h d) e
    drains_safe s _ _ t h (then_changed {n = n} {p = p} {t = u} k _ d e) = destages_safe g u t (Ok (Changed k)) (drains_safe s n p u h d) e

    idle_not : {A : Type 0} (e : ArrayRefusal) → ◌≡◌ {A = Result Destage ArrayRefusal} (Ok Idle) (Err e) → A
    idle_not e h = let z : ◌≡◌ {A = ℕ} 0 1 = cc in absurd (omega arith)

    settles_by : (c : FlushCounts) (u t : Meaning) (r : Result FlushCounts ArrayRefusal) (q : State) → SoundIn q S u.members u.log → InReady (DestagesReady g) q u (Ok Idle) u → Performs (devices (barrier ∷ []) ∷ []) c Ready u.caches u r t → Safe t
    settles_by c u t r Fallen k i d = idle_not (WrongState u.state) i.0
    settles_by c u t r Down k i d = idle_not (WrongState u.state) i.0
    settles_by c u t r (Resync p) k i d = idle_not (WrongState u.state) i.0
    settles_by c u t r Ready k i d = performs_safe (devices (barrier ∷ []) ∷ []) c u.caches u t r k.0.1 k.1 d
    settles_by c u t r (Short p) k i d = idle_not (WrongState u.state) i.0

    pub flush_safe : (s t : Meaning) (r : Result FlushCounts ArrayRefusal) → Safe s → FlushesReady g s r t → Safe t
    flush_safe s t r h (n, p, u, d, inl w) = settles_by (record { stripes = n; puts = p }) u t r u.state (drains_safe s n p u h d) w.0 w.1
    flush_safe s t r h (n, p, u, d, inr w) = destages_safe g u t (Err w.0) (drains_safe s n p u h d) w.2
