-- The laws of parity. Assumes nothing.
use Rattle.std.specs.Prelude.{◌≡◌, ℕ, ◌<◌, List, length, replicate, slice_index}
use Rattle.parity.specs.Xor.{zeros, parity_of, Whole, OthersGive, byte_sum}

pub record Laws : Type 0 where
  pub zero_parity : (n : ℕ) → parity_of (replicate n zeros) ≡ zeros
  pub each_byte : (blocks : List (List ℕ)) (i : ℕ) → Whole blocks → i < 512 → slice_index (parity_of blocks) i ≡ byte_sum blocks i
  pub any_block : (blocks : List (List ℕ)) (p i : ℕ) → Whole blocks → p < length blocks → OthersGive blocks p → i < length blocks → OthersGive blocks i
