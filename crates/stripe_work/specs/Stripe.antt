-- A stripe on the members of a store: where its blocks lie, what they hold, and when its parity is right.
use Rattle.std.specs.Prelude.{◌≡◌, ℕ, ◌-◌, ◌<◌, Bool, List, map}
use Rattle.std.specs.List.{range_with_len}
use Rattle.std.specs.Str.{bytes_eq}
use Rattle.parity.specs.Xor.{parity_of}
use Rattle.geometry.specs.Layouts.{Arrangement}
use Rattle.geometry.specs.Places.{block_of_stripe}
use Rattle.member_store.specs.Meaning.{Meaning, current, HasBlock}

-- How many data blocks a stripe has, which block of the members it is, and the members of its parity and of a position.
pub record Stripe : Type 0 where
  pub positions : ℕ
  pub block : ℕ
  pub parity : ℕ
  pub member : ℕ → ℕ

-- Stripe k of a layout over m members.
abbrev pub stripe_at : (ℕ → ℕ → Arrangement) → ℕ → ℕ → Stripe
stripe_at arrange m k = record {
  positions = m - 1;
  block = block_of_stripe k;
  parity = (arrange m k).parity;
  member = (arrange m k).member;
}

-- The list of f 0 to f (n - 1).
abbrev pub listed : (ℕ → List ℕ) → ℕ → List (List ℕ)
listed f n = map f (range_with_len 0 n)

-- The current data at a position, all of it by position, and the current parity.
abbrev pub data_at : Stripe → Meaning → ℕ → List ℕ
data_at w s j = current s (w.member j) w.block

abbrev pub stripe_data : Stripe → Meaning → List (List ℕ)
stripe_data w s = listed (data_at w s) w.positions

abbrev pub parity_at : Stripe → Meaning → List ℕ
parity_at w s = current s w.parity w.block

-- Parity is right: it is the exclusive or of the data. As a fact, and as a test of all bytes.
abbrev pub RightParity : Stripe → Meaning → Type 0
RightParity w s = parity_at w s ≡ parity_of (stripe_data w s)

abbrev pub parity_right : Stripe → Meaning → Bool
parity_right w s = bytes_eq (parity_at w s) (parity_of (stripe_data w s))

-- The store has all blocks of the stripe.
pub record InStore (w : Stripe) (s : Meaning) : Type 0 where
  pub parity : HasBlock s w.parity w.block
  pub member : (j : ℕ) → j < w.positions → HasBlock s (w.member j) w.block

-- What all m members hold at block b, by member.
abbrev pub row_blocks : ℕ → ℕ → Meaning → List (List ℕ)
row_blocks m b s = listed (λ t. current s t b) m
