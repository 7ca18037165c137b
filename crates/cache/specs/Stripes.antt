-- The blocks of a cache by stripe, in an array of m members with n blocks each. Blocks outside the array are in no stripe. Assumes nothing.
use Rattle.std.specs.Prelude.{◌≡◌, ℕ, zero, suc, ◌+◌, ◌-◌, ◌<◌, ◌≤◌, Bool, true, false, cond, List, length, is_some, Some, None, Option, MatchOption, ◌==◌, slice_index}
use Rattle.std.specs.Option.{option_map}
use Rattle.geometry.specs.Places.{located, numbered}
use Rattle.cache.specs.Contents.{Blocks, Contents, one_if}

-- The stripe of block k, where the array has that block.
abbrev pub stripe_of_block : ℕ → ℕ → ℕ → Option ℕ
stripe_of_block m n k = option_map (λ l. l.stripe) (located m n k)

abbrev pub is_number : ℕ → Option ℕ → Bool
is_number s None = false
is_number s (Some t) = t == s

abbrev pub in_stripe : ℕ → ℕ → ℕ → ℕ → Bool
in_stripe m n s k = is_number s (stripe_of_block m n k)

-- A block of stripe s is in the cache.
abbrev pub HasStripe : ℕ → ℕ → Blocks → ℕ → Type 0
HasStripe m n f s = (k : ℕ) × (is_some (f k) ≡ true) × (stripe_of_block m n k ≡ Some s)

-- r is the lowest stripe that has a block in the cache, None where there is none.
abbrev pub Lowest : ℕ → ℕ → Blocks → Option ℕ → Type 0
Lowest m n f r = MatchOption r ((s : ℕ) → HasStripe m n f s → ⊥) (λ t. HasStripe m n f t × ((s : ℕ) → HasStripe m n f s → t ≤ s))

-- ys are the stripes that have a block in the cache, rising, each once, and no more than there are slots.
pub record Listed (m n : ℕ) (f : Blocks) (ys : List ℕ) : Type 0 where
  pub few : length ys ≤ 32
  pub rising : (i j : ℕ) → i < j → j < length ys → slice_index ys i < slice_index ys j
  pub cached : (i : ℕ) → i < length ys → HasStripe m n f (slice_index ys i)
  pub all : (s : ℕ) → HasStripe m n f s → (i : ℕ) × (i < length ys) × (slice_index ys i ≡ s)

-- What a cache holds at a place, where the array has that place.
abbrev pub looked_up : Blocks → Option ℕ → Option (List ℕ)
looked_up f None = None
looked_up f (Some k) = f k

-- The blocks of stripe s in the cache, by position.
abbrev pub by_position : ℕ → ℕ → Blocks → ℕ → ℕ → Option (List ℕ)
by_position m n f s j = looked_up f (numbered m n (record { stripe = s; position = j }))

-- How many numbers below n pass a test.
abbrev pub count_below : ℕ → (ℕ → Bool) → ℕ
count_below zero test = 0
count_below (suc j) test = one_if (test j) + count_below j test

-- How many blocks of stripe s the cache holds.
abbrev pub held_count : ℕ → ℕ → Blocks → ℕ → ℕ
held_count m n f s = count_below (m - 1) (λ j. is_some (by_position m n f s j))

-- Stripe s of the destaging cache is freed.
abbrev pub stripe_freed : ℕ → ℕ → ℕ → Contents → Contents
stripe_freed m n s c = record {
  buffering = c.buffering;
  destaging = λ k. cond (in_stripe m n s k) None (c.destaging k);
  free = c.free + held_count m n c.destaging s;
}
