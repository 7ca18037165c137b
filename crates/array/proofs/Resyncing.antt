-- The steps and the end of a resynchronization. Assumes nothing.
use Rattle.std.proofs.Common.{◌≡◌, ℕ, ◌+◌, ◌<◌, ◌≤◌, Bool, true, false, cond, not, [], ◌∷◌, Some, Ok, Err, Option, Result, sym, refl, ap, ◌∙◌, subst, arith}
use Rattle.member_store.specs.Meaning as store
use Rattle.member_store.specs.Calls.{SameCounts}
use Rattle.device_calls.proofs.Left.{completed_counts}
use Rattle.stripe_set.specs.Named.{LeastFrom}
use Rattle.intent_log.specs.Meaning as intent
use Rattle.cache.specs.Contents.{Contents}
use Rattle.stripe_work.specs.Stripe.{stripe_at, parity_right}
use Rattle.stripe_work.specs.Work.{resync_calls}
use Rattle.array_model.specs.Meaning.{Meaning, Arrange, Geometry, geometry_on, array}
use Rattle.array_model.specs.Work.{devices, AllAccepted, FirstRefused}
use Rattle.array_model.specs.Calls.{InResync, taken, Takes, StepsFrom, Steps, FinishesFrom}
use Rattle.array_model.specs.declared.answer.TakenStripe.{TakenStripe}
use Rattle.array_model.specs.declared.state.Progress.{Progress}
use Rattle.array_model.specs.declared.state.State.{State}
use Rattle.array_model.specs.declared.state.State.TheVariants.{Fallen, Down, Resync}
use Rattle.array_model.specs.declared.refusal.ArrayRefusal.{ArrayRefusal}
use Rattle.array_model.specs.declared.refusal.ArrayRefusal.TheVariants.{StripeLeft}
use Rattle.array_work.specs.Outcomes.{due_in}
use Rattle.array.specs.Sound.{LogOn, Sized, Bounded, SoundIn}
use Rattle.array.proofs.Kept.{sized_still}

mended_few : (b : Bool) (x y : ℕ) → x ≤ y → cond b x (x + 1) ≤ y + 1
mended_few true x y h = omega arith
mended_few false x y h = omega arith

bounded : (p : Progress) (k : ℕ) (b : Bool) → k < 16777216 → p.next ≤ k → Bounded p → Bounded (taken p k b)
bounded p k b lt from h =
    let x = h.read_most in
    record { next_most = omega arith; read_most = omega arith; mended_most = mended_few b p.mended p.read h.mended_most }

not_not : (b : Bool) → not (not b) ≡ b
not_not true = refl
not_not false = refl

module _ (arrange : Arrange) (q : State) (c : Contents) (m : store.Meaning) (l : intent.Meaning) (p : Progress) where
  abbrev before : Meaning
  before = array q c m l

  abbrev here : Geometry
  here = geometry_on arrange m

  pub stripe_left : (o : Option ℕ) (k : ℕ) → o ≡ Some k → LeastFrom (due_in m.blocks l) p.next o → FinishesFrom here p before (Err (StripeLeft k)) (array Down c m l)
  stripe_left o k e h = (Some k, subst (λ x. LeastFrom (due_in m.blocks l) p.next x) e h, (refl, refl))

  pub from : (o : Option ℕ) (k : ℕ) → o ≡ Some k → LeastFrom (due_in m.blocks l) p.next o → p.next ≤ k
  from o k e h = (subst (λ x. LeastFrom (due_in m.blocks l) p.next x) e h).0

  pub steps : (o : Option ℕ) (k : ℕ) (r : Result (Option TakenStripe) ArrayRefusal) (t : Meaning) → q ≡ Resync p → o ≡ Some k → LeastFrom (due_in m.blocks l) p.next o → Takes here p k before r t → Steps here before r t
  steps o k r t d e h takes =
      subst (λ x. InResync (StepsFrom here) x before r t) (sym d) (Some k, subst (λ x. LeastFrom (due_in m.blocks l) p.next x) e h, takes)

  -- with the members counted as w
  module _ (k w : ℕ) (n : store.Meaning) where
    pub takes : (x : Progress) (b : Bool) → w ≡ m.members → b ≡ not (parity_right (stripe_at arrange w k) m) → AllAccepted (devices (resync_calls (stripe_at arrange w k) m) ∷ []) m l n l → x ≡ taken p k (not b) → Takes here p k before (Ok (Some (record { stripe = k; mended = b }))) (array (Resync x) c n l)
    takes x b e f h y =
        let right = parity_right (stripe_at arrange m.members k) m in
        let f' : b ≡ not right = subst (λ (i : ℕ). b ≡ not (parity_right (stripe_at arrange i k) m)) e f in
        let h' : AllAccepted (devices (resync_calls (stripe_at arrange m.members k) m) ∷ []) m l n l = subst (λ (i : ℕ). AllAccepted (devices (resync_calls (stripe_at arrange i k) m) ∷ []) m l n l) e h in
        let z : x ≡ taken p k right = y ∙ ap (λ d. taken p k (not d)) f' ∙ ap (taken p k) (not_not right) in
        (ap (λ (d : Bool). Some (record { stripe = k; mended = d })) f', h', ap (λ d. array (Resync d) c n l) z)

    pub takes_cut : (e : ArrayRefusal) → w ≡ m.members → FirstRefused (devices (resync_calls (stripe_at arrange w k) m) ∷ []) m l e n l → Takes here p k before (Err e) (array Fallen c n l)
    takes_cut e i h = (subst (λ (x : ℕ). FirstRefused (devices (resync_calls (stripe_at arrange x k) m) ∷ []) m l e n l) i h, refl)

    pub taken_sound : (x : Progress) (b : Bool) (sound : Type 0) → AllAccepted (devices (resync_calls (stripe_at arrange w k) m) ∷ []) m l n l → x ≡ taken p k b → k < 16777216 → LogOn sound l → Sized m → Bounded p → p.next ≤ k → SoundIn (Resync x) sound n l
    taken_sound x b sound h y lt on z bound above =
        let same : SameCounts m n = subst (λ u. SameCounts m u) (sym h.3.0) (completed_counts (resync_calls (stripe_at arrange w k) m) m h.0 h.2.0) in
        (on, sized_still m n same z, subst Bounded (sym y) (bounded p k b lt above bound))
