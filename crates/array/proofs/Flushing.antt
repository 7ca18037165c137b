-- Flushes of a ready array, as what its call does. Assumes nothing.
use Rattle.std.proofs.Common.{◌≡◌, Ok, Result, sym, ap, subst, inl, inr}
use Rattle.geometry.specs.declared.shape.Shape.{Shape}
use Rattle.member_store.specs.Meaning as store
use Rattle.intent_log.specs.Meaning as intent
use Rattle.cache.specs.Contents.{Contents}
use Rattle.array_model.specs.Meaning.{Meaning, Arrange, Geometry, array}
use Rattle.array_model.specs.Calls.{InReady, FlushesReady, Flushes}
use Rattle.array_model.specs.declared.answer.FlushCounts.{FlushCounts}
use Rattle.array_model.specs.declared.state.State.{State}
use Rattle.array_model.specs.declared.state.State.TheVariants.{Ready}
use Rattle.array_model.specs.declared.refusal.ArrayRefusal.{ArrayRefusal}
use Rattle.array_model.proofs.Cases.{ok≢err}
use Rattle.array_work.specs.Outcomes.{sized, state_after}
use Rattle.array.specs.Sound.{LogOn, Sized, SoundIn}
use Rattle.array.proofs.Safety.{flush_safe}

module _ (arrange : Arrange) (a : Shape) (q : State) (c : Contents) (m : store.Meaning) (l : intent.Meaning) (ready : q ≡ Ready) (c' : Contents) (m' : store.Meaning) (l' : intent.Meaning) (r : Result FlushCounts ArrayRefusal) where
  abbrev Ended : Type 0
  Ended = FlushesReady (sized arrange a) (array Ready c m l) r (array (state_after Ready r) c' m' l')

  pub flushed_sound : (S S' : Type 0) → S' → LogOn S l × Sized m → Ended → SoundIn (state_after q r) S' m' l'
  flushed_sound S S' s h d =
      subst (λ z. SoundIn (state_after z r) S' m' l') (sym ready)
      (flush_safe S' s (sized arrange a) (array Ready c m l) (array (state_after Ready r) c' m' l') r ((s, h.0.1), h.1) d)

-- an accepted flush leaves a ready array ready
pub flushed_ready : (g : Geometry) (s t : Meaning) (c : FlushCounts) → s.state ≡ Ready → Flushes g s (Ok c) t → t.state ≡ Ready
flushed_ready g s t c e d = go (subst (λ q. InReady (FlushesReady g) q s (Ok c) t) e d)
  where
    go : FlushesReady g s (Ok c) t → t.state ≡ Ready
    go (n, p, u, b, inl w) = ap (λ x. x.state) w.1.2
    go (n, p, u, b, inr w) = absurd (ok≢err w.1)
