-- What a destage makes of the caches, in an array of m members with n blocks each, whatever members and log do.
use Rattle.std.specs.Prelude.{◌≡◌, ℕ, ◌≤◌, Ok, Err, Result}
use Rattle.std.specs.Result as results
use Rattle.cache.specs.Contents.{Contents, exchanged}
use Rattle.cache.specs.Stripes.{HasStripe, stripe_freed}
use Rattle.array_model.specs.Meaning.{Meaning, Geometry}
use Rattle.array_model.specs.Calls.{Destages, Drains}
use Rattle.array_model.specs.declared.answer.FlushCounts.{FlushCounts}
use Rattle.array_model.specs.declared.answer.Destage.{Destage}
use Rattle.array_model.specs.declared.answer.Destage.TheVariants.{Moved, Changed, Idle}
use Rattle.array_model.specs.declared.refusal.ArrayRefusal.{ArrayRefusal}

-- The caches change places only where the buffering one has a stripe, after 0 or 1 puts; a refusal leaves them.
abbrev pub Exchanged : ℕ → ℕ → Contents → Destage → Contents → Type 0
Exchanged m n c (Moved k) c' = ⊥
Exchanged m n c (Changed p) c' = (p ≤ 1) × ((s : ℕ) × HasStripe m n c.buffering s) × (c' ≡ exchanged c)
Exchanged m n c Idle c' = c' ≡ c

abbrev pub Exchanges : ℕ → ℕ → Contents → Result Destage ArrayRefusal → Contents → Type 0
Exchanges m n c r c' = results.MatchResult r (λ a. Exchanged m n c a c') (λ _. c' ≡ c)

-- A stripe that the destaging cache has is freed, or that cache has none and the caches change places.
abbrev pub After : ℕ → ℕ → Contents → Destage → Contents → Type 0
After m n c (Moved k) c' = HasStripe m n c.destaging k × (c' ≡ stripe_freed m n k c)
After m n c (Changed p) c' = ((s : ℕ) → HasStripe m n c.destaging s → ⊥) × Exchanged m n c (Changed p) c'
After m n c Idle c' = c' ≡ c

abbrev pub Drained : ℕ → ℕ → Contents → Result Destage ArrayRefusal → Contents → Type 0
Drained m n c r c' = results.MatchResult r (λ a. After m n c a c') (λ _. c' ≡ c)

-- Destages one after the other until idle: the counts are those of the stripes and puts, and what is left is t; or
-- until one is refused, which left t.
abbrev pub Empties : Geometry → Meaning → Result FlushCounts ArrayRefusal → Meaning → Type 0
Empties g s r t =
    (n p : ℕ) × (u : Meaning) × Drains g s n p u
    × results.MatchResult r
    (λ c. (c ≡ record { stripes = n; puts = p }) × Destages g u (Ok Idle) u × (t ≡ u))
    (λ e. Destages g u (Err e) t)
