-- What the book says of blocks: bases, and lists of accepted bytes.
use Rattle.std.specs.Prelude.{◌≡◌, ℕ, zero, suc, ◌<◌, ◌⊎◌, List, [], ◌∷◌, ◌++◌, length, replicate, slice_index_or, slice_set}
use Rattle.std.specs.List.{ContainsAt as Has}
use Rattle.sheet_book.specs.declared.book.Accepted.{Accepted}

-- A block of zeros.
abbrev pub zeros : List ℕ
zeros = replicate 512 0

-- Zeros for each of n blocks, as if they had been written in order.
abbrev pub zero_writes : ℕ → List Accepted
zero_writes zero = []
zero_writes (suc n) = zero_writes n ++ (record { block = n; bytes = zeros } ∷ [])

-- The bases once accepted writes, oldest first, are made bases: a block's newest bytes, if any, are then its base.
abbrev pub rebased : List (List ℕ) → List Accepted → List (List ℕ)
rebased bases [] = bases
rebased bases (w ∷ ws) = rebased (slice_set bases w.block w.bytes) ws

-- This write gave block b the bytes x.
abbrev pub Gives : ℕ → List ℕ → Accepted → Type 0
Gives b x w = (w.block ≡ b) × (w.bytes ≡ x)

-- The bytes x are on the list of block b.
abbrev pub OnList : List Accepted → ℕ → List ℕ → Type 0
OnList ws b x = (w : Accepted) × (Has ws w × Gives b x w)

-- Block b, of which there is a base, may hold x: its base, or bytes on its list.
abbrev pub MayHold : List (List ℕ) → List Accepted → ℕ → List ℕ → Type 0
MayHold bases ws b x = (b < length bases) × ((slice_index_or bases b [] ≡ x) ⊎ OnList ws b x)
