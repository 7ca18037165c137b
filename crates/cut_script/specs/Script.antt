-- The script's stores: which block store n goes to, and the last store to a block.
use Rattle.std.specs.Prelude.{◌≡◌, ℕ, ◌+◌, ◌*◌, ◌/◌, ◌%◌, ◌<◌, ◌≤◌, Bool, ◌||◌, ◌⊎◌, ◌==◌, ◌≢◌}
use Rattle.block_address.specs.declared.Address.{Address}

-- Triangular numbers over 4 members of 2 blocks.
abbrev pub place : ℕ → Address
place n = record { member = n * (n + 1) / 2 % 8 % 4; block = n * (n + 1) / 2 % 8 / 4 }

-- Does a barrier follow store n?
abbrev pub barrier_after : ℕ → Bool
barrier_after n = n == 6 || n == 12

-- r is the last of the stores 1 to count to the block p, 0 where there is none.
abbrev pub LastStore : Address → ℕ → ℕ → Type 0
LastStore p count r = (r ≤ count) × ((r ≡ 0) ⊎ (place r ≡ p)) × ((k : ℕ) → r < k → k ≤ count → place k ≢ p)
