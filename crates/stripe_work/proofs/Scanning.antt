-- A scan: one stripe more. Assumes nothing.
use Rattle.std.proofs.Common.{◌≡◌, ℕ, ◌+◌, ◌<◌, Bool, cond, List, [], sym, ap, ◌∙◌, subst, add-one}
use Rattle.geometry.specs.Layouts.{Arrangement}
use Rattle.geometry.specs.Places.{stripes}
use Rattle.member_store.specs.Meaning.{Meaning}
use Rattle.member_store.specs.declared.refusal.Refusal.{Refusal}
use Rattle.device_calls.specs.Lists.{DeviceCall, Completed, Stopped, for_each}
use Rattle.device_calls.specs.Effects.{Every, InRange, Spares, Reading, CutShort}
use Rattle.device_calls.proofs.Append.{for_each_more, for_each_stopped}
use Rattle.device_calls.proofs.Properties.{every_for_each, every_weaker, written_not, reading_spares}
use Rattle.device_calls.proofs.Left.{cut_short, cut_weaker}
use Rattle.stripe_work.specs.Stripe.{stripe_at, parity_right, InStore}
use Rattle.stripe_work.specs.Work.{check_calls, scan_calls, wrong_below}
use Rattle.stripe_work.proofs.Parts.{check_every, check_reads}
use Rattle.stripe_work.proofs.Resyncing.{check_keeps}

module _ (arrange : ℕ → ℕ → Arrangement) (m : ℕ) (s : Meaning) where
  abbrev checks : ℕ → List DeviceCall
  checks k = check_calls (stripe_at arrange m k)

  pub scan_more : (k : ℕ) (u t : Meaning) → u ≡ s → Completed (for_each checks k) s s → Completed (checks k) u t → Completed (for_each checks (k + 1)) s s
  scan_more k u t e d h =
      let h' : Completed (checks k) s t = subst (λ v. Completed (checks k) v t) e h in
      for_each_more checks k s s s d (subst (λ v. Completed (checks k) s v) (check_keeps (stripe_at arrange m k) s t h') h')

  pub scan_keeps : (k : ℕ) (u t : Meaning) → u ≡ s → Completed (checks k) u t → t ≡ s
  scan_keeps k u t e h = check_keeps (stripe_at arrange m k) u t h ∙ e

  pub scan_stops : (n k : ℕ) (u : Meaning) (e : Refusal) (t : Meaning) → k < n → u ≡ s → Completed (for_each checks k) s s → Stopped (checks k) u e t → Stopped (for_each checks n) s e t
  scan_stops n k u e t l q d h = for_each_stopped checks n k s s e t l d (subst (λ v. Stopped (checks k) v e t) q h)

  -- the count, with one that is wrong and one that is right
  pub count_more : (k : ℕ) (right : Bool) (n : ℕ) → right ≡ parity_right (stripe_at arrange m k) s → n ≡ wrong_below arrange m s k → n + cond right 0 1 ≡ wrong_below arrange m s (k + 1)
  count_more k right n e h = ap (λ (i : ℕ). i + cond right 0 1) h ∙ ap (λ b. wrong_below arrange m s k + cond b 0 1) e ∙ sym (ap (wrong_below arrange m s) (add-one k))

  pub scan_cut : (n : ℕ) (e : Refusal) (t : Meaning) → Stopped (scan_calls arrange m n) s e t → CutShort ((k : ℕ) → k < stripes n → InStore (stripe_at arrange m k) s) [] s e t
  scan_cut n e t d =
      cut_weaker (Every (InRange s) (scan_calls arrange m n)) ((k : ℕ) → k < stripes n → InStore (stripe_at arrange m k) s) (scan_calls arrange m n) [] s e t
      (λ h. every_for_each (InRange s) checks (stripes n) (λ k l. check_every (InRange s) (stripe_at arrange m k) (h k l).member (h k l).parity))
      (λ i b v k. absurd (written_not i b v (scan_calls arrange m n) (every_for_each (Spares i b) checks (stripes n) (λ j l. every_weaker Reading (Spares i b) (reading_spares i b) (checks j) (check_reads (stripe_at arrange m j)))) k))
      (cut_short (scan_calls arrange m n) s e t d)
