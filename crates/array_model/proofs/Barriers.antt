-- Stripes that stay right, what a barrier leaves, and single actions. Assumes nothing.
use Rattle.std.proofs.Common.{◌≡◌, ℕ, ◌<◌, List, [], ◌∷◌, length, sym, ap, ◌∙◌, subst, inl, inr}
use Rattle.parity.specs.Xor.{parity_of}
use Rattle.member_store.specs.Meaning as store
use Rattle.member_store.specs.Meaning.{current, Version}
use Rattle.member_store.specs.declared.refusal.Refusal.{Refusal}
use Rattle.device_calls.specs.Lists.{DeviceCall, barrier, Completed, Stopped}
use Rattle.intent_log.specs.Meaning as intent
use Rattle.stripe_work.specs.Stripe.{data_at, RightParity}
use Rattle.stripe_work.proofs.Rows.{listed_same}
use Rattle.array_model.specs.Meaning.{Geometry, stripe_count, stripe}
use Rattle.array_model.specs.Work.{devices, AllAccepted, FirstRefused}
use Rattle.array_model.specs.Book.{Book}
use Rattle.array_model.specs.declared.refusal.ArrayRefusal.{ArrayRefusal}
use Rattle.array_model.specs.declared.refusal.ArrayRefusal.TheVariants.{Members}
use Rattle.array_model.proofs.Places.{Facts, width}
use Rattle.array_model.proofs.Inv.{On, Each, Sized, stands, member_below, parity_below, Known, BookSized, Crash, AllClean, barred_clean, clean_crash}
use Rattle.array_model.proofs.Effects.{completed_has, barrier_current, barrier_only}

-- single actions

pub accepted_devices : (os : List DeviceCall) (m n : store.Meaning) (l k : intent.Meaning) → AllAccepted (devices os ∷ []) m l n k → Completed os m n × (k ≡ l)
accepted_devices os m n l k a = (subst (Completed os m) (sym a.3.0) a.2.0, a.3.1 ∙ a.2.1)

pub refused_devices : (os : List DeviceCall) (m n : store.Meaning) (l k : intent.Meaning) (e : ArrayRefusal) → FirstRefused (devices os ∷ []) m l e n k → (d : Refusal) × (e ≡ Members d) × Stopped os m d n × (k ≡ l)
refused_devices os m n l k e (inl r) = r
refused_devices os m n l k e (inr r) = absurd r.3

module _ (g : Geometry) (f : Facts g) where
  -- a right stripe whose current blocks are the same is right
  pub right_same : (m n : store.Meaning) (s : ℕ) → ((i : ℕ) → i < g.members → current n i (stripe g s).block ≡ current m i (stripe g s).block) → RightParity (stripe g s) m → RightParity (stripe g s) n
  right_same m n s same right =
      same (stripe g s).parity (parity_below g f s) ∙ right
      ∙ ap parity_of (sym (listed_same (data_at (stripe g s) n) (data_at (stripe g s) m) (width g) (λ j h. same ((stripe g s).member j) (member_below g f s j h))))

  module _ (b : Book) (m n : store.Meaning) (on : On g m) (d : Completed (barrier ∷ []) m n) (full : Sized g m) where
    pub bar_known : Known g b m → Known g b n
    bar_known known s j v h k w =
        known s j v h k (subst (Version m ((stripe g s).member j) (stripe g s).block)
        (sym (barrier_only g m n on d ((stripe g s).member j) (stripe g s).block v (member_below g f s j k) h w))
        (stands g m full ((stripe g s).member j) (stripe g s).block (member_below g f s j k) h))

    pub bar_whole : Each g n (λ i k v. length v ≡ 512)
    bar_whole i k v p q w = ap length (barrier_only g m n on d i k v p q w) ∙ full i k p q

    pub bar_clean : ((s : ℕ) → s < stripe_count g → RightParity (stripe g s) m) → AllClean g n
    bar_clean right s h = barred_clean g f m n s h (barrier_only g m n on d) (right s h)

    pub bar_right : (s : ℕ) → s < stripe_count g → RightParity (stripe g s) m → RightParity (stripe g s) n
    bar_right s h right = right_same m n s (λ i p. barrier_current g m n on d i (stripe g s).block p h) right

    -- every stripe is right: whatever may stand in the log, nothing is lost
    pub bar_crash : (l : intent.Meaning) → ((s : ℕ) → s < stripe_count g → RightParity (stripe g s) m) → Known g b m → BookSized g b → Crash g b n l
    bar_crash l right known sized =
        clean_crash g b n l (completed_has g (barrier ∷ []) m n on d) (bar_clean right) (bar_known known) bar_whole sized
