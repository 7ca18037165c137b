-- What the two caches hold that share 32 slots, each a partial map from block number to bytes, and what the calls make of it. Assumes nothing.
use Rattle.std.specs.Prelude.{ℕ, ◌-◌, Bool, true, false, cond, not, ◌&&◌, List, is_some, Some, None, Option, ◌==◌}
use Rattle.std.specs.Option.{option_or}

-- The blocks of one cache, with their bytes.
abbrev pub Blocks : Type 0
Blocks = ℕ → Option (List ℕ)

pub record Contents : Type 0 where
  pub buffering : Blocks
  pub destaging : Blocks
  pub free : ℕ

abbrev pub no_blocks : Blocks
no_blocks k = None

abbrev pub empty : Contents
empty = record { buffering = no_blocks; destaging = no_blocks; free = 32 }

-- 1 where the test passes, else 0.
abbrev pub one_if : Bool → ℕ
one_if true = 1
one_if false = 0

-- Block b finds no slot: it is not buffered, and no slot is free.
abbrev pub no_slot_for : ℕ → Contents → Bool
no_slot_for b c = not (is_some (c.buffering b)) && c.free == 0

-- Block b is put into the buffering cache: a buffered copy is replaced, else a slot is taken.
abbrev pub put_into : ℕ → List ℕ → Contents → Contents
put_into b x c = record {
  buffering = λ k. cond (k == b) (Some x) (c.buffering k);
  destaging = c.destaging;
  free = c.free - one_if (not (is_some (c.buffering b)));
}

-- The newest bytes of block b: a buffered copy before one in the destaging cache.
abbrev pub newest : ℕ → Contents → Option (List ℕ)
newest b c = option_or (c.buffering b) (c.destaging b)

-- The caches change places.
abbrev pub exchanged : Contents → Contents
exchanged c = record { buffering = c.destaging; destaging = c.buffering; free = c.free }
