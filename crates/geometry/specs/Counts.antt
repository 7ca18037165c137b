-- The counts of an array, and their limits. Assumes nothing.
use Rattle.std.specs.Prelude.{ℕ, Bool, ◌&&◌, nat_le}
use Rattle.geometry.specs.declared.shape.MemberCount.{MemberCount}
use Rattle.geometry.specs.declared.shape.Shape.{Shape}

-- 3 to 8 members
abbrev pub members_allowed : ℕ → Bool
members_allowed m = nat_le 3 m && nat_le m 8

-- with 1 to 16,777,216 blocks each
abbrev pub counts_allowed : ℕ → ℕ → Bool
counts_allowed m n = members_allowed m && (nat_le 1 n && nat_le n 16777216)

-- how many members
abbrev pub counted : MemberCount → ℕ
counted c = c.count

abbrev pub members_of : Shape → ℕ
members_of a = a.members.count

-- how many blocks a member has
abbrev pub blocks_of : Shape → ℕ
blocks_of a = a.blocks
