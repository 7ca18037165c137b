-- Destages one after the other, and the barrier after them. Assumes nothing.
use Rattle.std.proofs.Common.{◌≡◌, ℕ, ◌+◌, true, List, [], ◌∷◌, Some, None, Ok, Err, Option, refl, ap, ◌∙◌, subst, inl}
use Rattle.std.specs.Option as options
use Rattle.member_store.specs.Meaning as members
use Rattle.member_store.specs.Calls.{Bars}
use Rattle.member_store.specs.declared.refusal.Refusal.{Refusal}
use Rattle.device_calls.specs.Lists.{barrier}
use Rattle.device_calls.proofs.Single.{barrier_performs}
use Rattle.intent_log.specs.Meaning as intent
use Rattle.cache.specs.Contents.{Contents, exchanged}
use Rattle.cache.specs.Stripes.{Listed}
use Rattle.array_model.specs.Meaning.{Meaning, Geometry, array}
use Rattle.array_model.specs.Work.{Action, devices, mark, fresh, clear, blank, AllAccepted, Performs, Declines}
use Rattle.array_model.specs.Checks.{naming_check}
use Rattle.array_model.specs.Calls.{naming_actions, puts, ChangesCaches, MovesStripe, DestagesReady, Destages, Drains, then_moved, then_changed, Settles}
use Rattle.array_model.specs.declared.answer.Destage.{Destage}
use Rattle.array_model.specs.declared.answer.Destage.TheVariants.{Moved, Changed, Idle}
use Rattle.array_model.specs.declared.answer.FlushCounts.{FlushCounts}
use Rattle.array_model.specs.declared.state.State.TheVariants.{Fallen, Ready}
use Rattle.array_model.specs.declared.refusal.ArrayRefusal.{ArrayRefusal}
use Rattle.array_model.specs.declared.refusal.ArrayRefusal.TheVariants.{Members}

-- power stays on in the log
accepted_on : (acts : List Action) (m : members.Meaning) (l : intent.Meaning) (m' : members.Meaning) (l' : intent.Meaning) → AllAccepted acts m l m' l' → l.on ≡ true → l'.on ≡ true
accepted_on [] m l m' l' d h = ap (λ k. k.on) d.1 ∙ h
accepted_on (devices os ∷ acts) m l m' l' d h = accepted_on acts d.0 d.1 m' l' d.3 (ap (λ k. k.on) d.2.1 ∙ h)
accepted_on (mark w ∷ acts) m l m' l' d h = accepted_on acts d.0 d.1 m' l' d.3 d.2.1.1.on
accepted_on (fresh w ∷ acts) m l m' l' d h = accepted_on acts d.0 d.1 m' l' d.3 d.2.1.1.on
accepted_on (clear ∷ acts) m l m' l' d h = accepted_on acts d.0 d.1 m' l' d.3 d.2.1.1.on
accepted_on (blank ∷ acts) m l m' l' d h = accepted_on acts d.0 d.1 m' l' d.3 d.2.1.1.on

module _ (g : Geometry) (s t : Meaning) (a : Destage) where
  checked_on : (acts : List Action) (p : ℕ) (o : Option ArrayRefusal) → options.MatchOption o (Performs acts (Changed p) Ready (exchanged s.caches) s (Ok a) t) (λ e. Declines e s (Ok a) t) → s.log.on ≡ true → t.log.on ≡ true
  checked_on acts p None d h = accepted_on acts s.members s.log t.members t.log d.1 h
  checked_on acts p (Some e) d h = ap (λ u. u.log.on) d.1 ∙ h

  listed_on : (w : List ℕ) → ChangesCaches w s (Ok a) t → s.log.on ≡ true → t.log.on ≡ true
  listed_on [] d h = ap (λ u. u.log.on) d.1 ∙ h
  listed_on (k ∷ ks) d h = checked_on (naming_actions (k ∷ ks) s) (puts (k ∷ ks) s) (naming_check (k ∷ ks) s) d h

  found_on : (o : Option ℕ) → options.MatchOption o ((w : List ℕ) × Listed g.members g.blocks s.caches.buffering w × ChangesCaches w s (Ok a) t) (λ k. MovesStripe g k s (Ok a) t) → s.log.on ≡ true → t.log.on ≡ true
  found_on None d h = listed_on d.0 d.2 h
  found_on (Some k) d h = ap (λ x. x.on) (d.1.3.1 ∙ d.1.2.1) ∙ h

  pub destaged_on : DestagesReady g s (Ok a) t → s.log.on ≡ true → t.log.on ≡ true
  destaged_on d h = found_on d.0 d.2 h

-- an idle destage changes nothing
module _ (g : Geometry) (s t : Meaning) where
  checked_idle : (acts : List Action) (p : ℕ) (o : Option ArrayRefusal) → options.MatchOption o (Performs acts (Changed p) Ready (exchanged s.caches) s (Ok Idle) t) (λ e. Declines e s (Ok Idle) t) → t ≡ s
  checked_idle acts p None d = cc (d.0)
  checked_idle acts p (Some e) d = d.1

  listed_idle : (w : List ℕ) → ChangesCaches w s (Ok Idle) t → t ≡ s
  listed_idle [] d = d.1
  listed_idle (k ∷ ks) d = checked_idle (naming_actions (k ∷ ks) s) (puts (k ∷ ks) s) (naming_check (k ∷ ks) s) d

  found_idle : (o : Option ℕ) → options.MatchOption o ((w : List ℕ) × Listed g.members g.blocks s.caches.buffering w × ChangesCaches w s (Ok Idle) t) (λ k. MovesStripe g k s (Ok Idle) t) → t ≡ s
  found_idle None d = listed_idle d.0 d.2
  found_idle (Some k) d = cc (d.0)

  pub idle_same : DestagesReady g s (Ok Idle) t → t ≡ s
  idle_same d = found_idle d.0 d.2

-- one destage more, from u, which is ready, to t
module _ (g : Geometry) (s : Meaning) (n p : ℕ) (c : Contents) (m : members.Meaning) (l : intent.Meaning) (t : Meaning) where
  abbrev from : Meaning
  from = array Ready c m l

  pub more_moved : (a : Destage) (k : ℕ) → a ≡ Moved k → DestagesReady g from (Ok a) t → Drains g s n p from → Drains g s (n + 1) p t
  more_moved a k e d h = then_moved k t h (subst (λ b. DestagesReady g from (Ok b) t) e d)

  pub more_changed : (a : Destage) (k : ℕ) → a ≡ Changed k → DestagesReady g from (Ok a) t → Drains g s n p from → Drains g s n (p + k) t
  more_changed a k e d h = then_changed k t h (subst (λ b. DestagesReady g from (Ok b) t) e d)

  pub idle : (a : Destage) → a ≡ Idle → DestagesReady g from (Ok a) t → (Destages g from (Ok Idle) from) × (t ≡ from)
  idle a e d =
      let i : DestagesReady g from (Ok Idle) t = subst (λ b. DestagesReady g from (Ok b) t) e d in
      let q : t ≡ from = idle_same g from t i in
      (subst (λ u. DestagesReady g from (Ok Idle) u) q i, q)

-- the barrier after the last one is refused
pub barrier_cut : (g : Geometry) (u : Meaning) (c : Contents) (m : members.Meaning) (l : intent.Meaning) (n : members.Meaning) (e : Refusal) (k : FlushCounts)
    → array Ready c m l ≡ u → Destages g u (Ok Idle) u → Bars {U = Unit {0}} m (Err e) n → Settles g k u (Err (Members e)) (array Fallen c n l)
barrier_cut g u c m l n e k q i d = (
  i,
  subst (λ v. Performs (devices (barrier ∷ []) ∷ []) k Ready v.caches v (Err (Members e)) (array Fallen c n l)) q
      (inl (e, refl, barrier_performs {U = Unit {0}} m n (Err e) d, refl), refl),
)
