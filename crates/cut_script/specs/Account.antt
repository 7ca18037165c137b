-- Which bytes may stand in a block when the script has made some stores and the last barrier that was not refused
-- came after some of them: those stored since, or what the block had at that barrier.
use Rattle.std.specs.Prelude.{◌≡◌, ℕ, ◌/◌, ◌%◌, ◌<◌, ◌≤◌, ◌⊎◌, List, replicate, slice_index}
use Rattle.member_store.specs.Meaning.{Meaning, Version, HasBlock, current}
use Rattle.block_address.specs.declared.Address.{Address}
use Rattle.cut_script.specs.Script.{place, LastStore}

-- The bytes of store n.
abbrev pub fill : ℕ → List ℕ
fill n = replicate 512 n

abbrev pub at : ℕ → ℕ → Address
at m b = record { member = m; block = b }

-- The bytes v were stored in block b of member m after the first `barred` stores and among the first `made`.
abbrev pub StoredSince : ℕ → ℕ → ℕ → ℕ → List ℕ → Type 0
StoredSince made barred m b v = (k : ℕ) × (barred < k) × (k ≤ made) × (place k ≡ at m b) × (v ≡ fill k)

-- The bytes v are those of the last of the first `barred` stores to the block, or, without one, stood before the script.
abbrev pub StoodAtBarrier : Meaning → ℕ → ℕ → ℕ → List ℕ → Type 0
StoodAtBarrier s barred m b v = (k : ℕ) × LastStore (at m b) barred k × (((k ≡ 0) × Version s m b v) ⊎ ((1 ≤ k) × (v ≡ fill k)))

-- Every version of every block is one that the account names; s is the store before the script.
abbrev pub Accounted : Meaning → ℕ → ℕ → Meaning → Type 0
Accounted s made barred t =
    (m b : ℕ) (v : List ℕ) → HasBlock s m b → Version t m b v → StoredSince made barred m b v ⊎ StoodAtBarrier s barred m b v

-- The first n of v are the first bytes of the blocks, member after member.
abbrev pub FirstBytes : Meaning → ℕ → List ℕ → Type 0
FirstBytes s n v = (k : ℕ) → k < n → slice_index v k ≡ slice_index (current s (k % 4) (k / 4)) 0
