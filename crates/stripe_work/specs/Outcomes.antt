-- What the work on a stripe leaves, in terms of data, parity and versions.
use Rattle.std.specs.Prelude.{◌≡◌, ℕ, ◌<◌, true, List, length, ◌≢◌}
use Rattle.member_store.specs.Meaning.{Meaning, current, HasBlock, Version}
use Rattle.member_store.specs.Calls.{SameCounts}
use Rattle.device_calls.specs.Effects.{Gains}
use Rattle.stripe_work.specs.Stripe.{Stripe, data_at, RightParity, parity_right}
use Rattle.stripe_work.specs.Work.{CachedBlocks, merged, destage_calls, resync_calls}

-- A destage was completed: the data is the merged one, parity is right, other stripes hold what they held; every
-- version is a former one or was stored.
pub record Destaged (w : Stripe) (c : CachedBlocks) (s t : Meaning) : Type 0 where
  pub on : t.on ≡ true
  pub counts : SameCounts s t
  pub right : RightParity w t
  pub merges : (j : ℕ) → j < w.positions → data_at w t j ≡ merged w c s j
  pub elsewhere : (m b : ℕ) → HasBlock s m b → (b ≢ w.block) → current t m b ≡ current s m b
  pub gains : Gains (destage_calls w c s) s t

-- A step of resynchronization was completed: parity is right, all other blocks hold what they held; where parity was
-- right before, nothing changed at all.
pub record Resynced (w : Stripe) (s t : Meaning) : Type 0 where
  pub on : t.on ≡ true
  pub counts : SameCounts s t
  pub right : RightParity w t
  pub keeps : (m b : ℕ) → HasBlock s m b → ((m ≡ w.parity) × (b ≡ w.block) → ⊥) → current t m b ≡ current s m b
  pub idle : parity_right w s ≡ true → t ≡ s
  pub gains : Gains (resync_calls w s) s t

-- No block of another stripe has gained a version.
abbrev pub OthersSpared : Stripe → Meaning → Meaning → Type 0
OthersSpared w s t = (m b : ℕ) (v : List ℕ) → HasBlock s m b → (b ≢ w.block) → Version t m b v → Version s m b v

-- The members of u other than d, of m, hold at block b what those of s hold, and all hold whole blocks there.
pub record SameBut (d m b : ℕ) (s u : Meaning) : Type 0 where
  pub others : (t : ℕ) → t < m → (t ≢ d) → current u t b ≡ current s t b
  pub whole : (t : ℕ) → t < m → length (current u t b) ≡ 512

-- The bytes are what member d holds in the stripe, in whatever store that agrees with s on the other members and in
-- which the parity is right. So nothing that stands on member d now can change them.
abbrev pub Recovers : Stripe → ℕ → ℕ → Meaning → List ℕ → Type 0
Recovers w m d s bytes = (u : Meaning) → SameBut d m w.block s u → RightParity w u → bytes ≡ current u d w.block

-- The store has block b of the members other than d, of m.
abbrev pub OthersInStore : ℕ → ℕ → ℕ → Meaning → Type 0
OthersInStore d m b s = (t : ℕ) → t < m → (t ≢ d) → HasBlock s t b
