-- Right parity of a stripe on four members, by the bytes alone.
use Rattle.std.specs.Prelude.{◌≡◌, ℕ, ◌<◌, List, bit_xor, slice_index}
use Rattle.member_store.specs.Meaning.{Meaning, HasBlock, current}

-- The exclusive or of four blocks is zero at every offset.
abbrev pub CancelOut : List ℕ → List ℕ → List ℕ → List ℕ → Type 0
CancelOut a b c d = (i : ℕ) → i < 512 → bit_xor (bit_xor (bit_xor (slice_index a i) (slice_index b i)) (slice_index c i)) (slice_index d i) ≡ 0

-- Members 0 to 3 have the stripe, and its current blocks cancel out: whichever of them is the parity, it is the
-- exclusive or of the others.
abbrev pub RightStripe : Meaning → ℕ → Type 0
RightStripe m s = HasBlock m 3 s × CancelOut (current m 0 s) (current m 1 s) (current m 2 s) (current m 3 s)

-- So are all stripes below n.
abbrev pub AllRight : Meaning → ℕ → Type 0
AllRight m n = (s : ℕ) → s < n → RightStripe m s
