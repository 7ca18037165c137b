-- What each piece of work on a stripe promises, for an array with m members of n blocks over a store that meant s before
-- it and means t after it, with the answer r.
use Rattle.std.specs.Prelude.{◌≡◌, ℕ, ◌<◌, Bool, not, List, [], IfOk, Result}
use Rattle.std.specs.Result as results
use Rattle.geometry.specs.Layouts.{Arrangement}
use Rattle.geometry.specs.Places.{stripes, stripe_of_block}
use Rattle.block_address.specs.declared.Address.{Address}
use Rattle.member_store.specs.Meaning.{Meaning}
use Rattle.member_store.specs.declared.refusal.Refusal.{Refusal}
use Rattle.device_calls.specs.Lists.{Performs}
use Rattle.device_calls.specs.Effects.{Every, Avoids, CutShort}
use Rattle.stripe_work.specs.Stripe.{stripe_at, parity_right, InStore}
use Rattle.stripe_work.specs.Work.{CachedBlocks, destage_calls, check_calls, resync_calls, scan_calls, wrong_below, other_reads, reconstructed}
use Rattle.stripe_work.specs.Answers.{stripe_check, address_check, Answers, Unfinished}
use Rattle.stripe_work.specs.Outcomes.{Destaged, Resynced, OthersSpared, Recovers, OthersInStore}
use Rattle.stripe_work.specs.declared.refusal.StripeRefusal.{StripeRefusal}

-- Destaging stripe k with the cached blocks c.
pub record Destages {U : Type 0} (arrange : ℕ → ℕ → Arrangement) (m n k : ℕ) (c : CachedBlocks) (s : Meaning) (r : Result U StripeRefusal) (t : Meaning) : Type 0 where
  -- which device calls are made, in which order, and which refusal comes up
  pub calls : Answers (stripe_check n k) (destage_calls (stripe_at arrange m k) c s) s r t
  -- what is current and which versions there can be, after success and after a refusal
  pub leaves : results.MatchResult r (λ _. Destaged (stripe_at arrange m k) c s t) (λ e. Unfinished (InStore (stripe_at arrange m k) s) (destage_calls (stripe_at arrange m k) c s) s e t)
  pub elsewhere : OthersSpared (stripe_at arrange m k) s t

-- Checking the parity of stripe k: nothing changes.
pub record Checks (arrange : ℕ → ℕ → Arrangement) (m n k : ℕ) (s : Meaning) (r : Result Bool StripeRefusal) (t : Meaning) : Type 0 where
  pub calls : Answers (stripe_check n k) (check_calls (stripe_at arrange m k)) s r t
  pub told : IfOk r (λ right. right ≡ parity_right (stripe_at arrange m k) s)
  pub leaves : results.MatchResult r (λ _. t ≡ s) (λ e. Unfinished (InStore (stripe_at arrange m k) s) [] s e t)

-- Resynchronizing stripe k: told as mended just where parity was wrong.
pub record Resyncs (arrange : ℕ → ℕ → Arrangement) (m n k : ℕ) (s : Meaning) (r : Result Bool StripeRefusal) (t : Meaning) : Type 0 where
  pub calls : Answers (stripe_check n k) (resync_calls (stripe_at arrange m k) s) s r t
  pub told : IfOk r (λ mended. mended ≡ not (parity_right (stripe_at arrange m k) s))
  pub leaves : results.MatchResult r (λ _. Resynced (stripe_at arrange m k) s t) (λ e. Unfinished (InStore (stripe_at arrange m k) s) (resync_calls (stripe_at arrange m k) s) s e t)
  pub elsewhere : OthersSpared (stripe_at arrange m k) s t

-- Scanning all stripes: nothing changes.
pub record Scans (arrange : ℕ → ℕ → Arrangement) (m n : ℕ) (s : Meaning) (r : Result ℕ Refusal) (t : Meaning) : Type 0 where
  pub calls : Performs (scan_calls arrange m n) s r t
  pub told : IfOk r (λ wrong. wrong ≡ wrong_below arrange m s (stripes n))
  pub leaves : results.MatchResult r (λ _. t ≡ s) (λ e. CutShort ((k : ℕ) → k < stripes n → InStore (stripe_at arrange m k) s) [] s e t)

-- Reconstructing the block at an address into a buffer that held `old` and holds `new` after it: nothing else changes.
pub record Reconstructs {U : Type 0} (arrange : ℕ → ℕ → Arrangement) (m n : ℕ) (at : Address) (old : List ℕ) (s : Meaning) (r : Result U StripeRefusal) (new : List ℕ) (t : Meaning) : Type 0 where
  pub calls : Answers (address_check m n at) (other_reads m at.block at.member) s r t
  -- no device call is for the member of the address
  pub avoids : Every (Avoids at.member) (other_reads m at.block at.member)
  pub bytes : results.MatchResult r (λ _. new ≡ reconstructed m at.block at.member s) (λ _. new ≡ old)
  pub recovers : IfOk r (λ _. Recovers (stripe_at arrange m (stripe_of_block at.block)) m at.member s new)
  pub leaves : results.MatchResult r (λ _. t ≡ s) (λ e. Unfinished (OthersInStore at.member m at.block s) [] s e t)
