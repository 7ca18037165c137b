-- Blocks of 512 bytes in a row, member after member: where one lies, and what a store to it leaves.
use Rattle.std.specs.Prelude.{ℕ, ◌+◌, ◌*◌, ◌≤◌, true, List, [], ◌∷◌, ◌++◌, take, drop, Some, None, Option}
use Rattle.member_store.specs.Meaning.{Meaning}
use Rattle.member_store.specs.declared.refusal.Refusal.{Refusal}

-- There is a member and a block at least, and n bytes are enough for all blocks.
abbrev pub Fits : ℕ → ℕ → ℕ → Type 0
Fits members blocks n = (1 ≤ members) × (1 ≤ blocks) × (members * blocks * 512 ≤ n)

-- Where block b of member m begins, at `blocks` blocks a member.
abbrev pub offset : ℕ → ℕ → ℕ → ℕ
offset blocks m b = (m * blocks + b) * 512

abbrev pub block_at : List ℕ → ℕ → ℕ → ℕ → List ℕ
block_at row blocks m b = take 512 (drop (offset blocks m b) row)

-- The row with x in the place of block b of member m.
abbrev pub with_block : List ℕ → ℕ → ℕ → ℕ → List ℕ → List ℕ
with_block row blocks m b x = take (offset blocks m b) row ++ (x ++ drop (offset blocks m b + 512) row)

-- What a store of x leaves, by what the checks say: a refusal alters nothing.
abbrev pub after_store : Option Refusal → List ℕ → ℕ → ℕ → ℕ → List ℕ → List ℕ
after_store None row blocks m b x = with_block row blocks m b x
after_store (Some e) row blocks m b x = row

-- A store that has power, and one version a block, which stands in the row.
abbrev pub laid : ℕ → ℕ → List ℕ → Meaning
laid members blocks row = record {
  on = true;
  members = members;
  blocks = blocks;
  versions = λ m b. block_at row blocks m b ∷ [];
}
