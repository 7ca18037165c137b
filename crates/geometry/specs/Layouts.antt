-- The layouts of RAID-5: on which member of a stripe the parity lies, and on which the data of a position.
-- Assumes nothing.
use Rattle.std.specs.Prelude.{◌≡◌, ℕ, ◌+◌, ◌-◌, ◌%◌, ◌<◌, cond, Some, None, Option, ◌==◌, ◌≢◌, nat_lt}

-- One stripe: the parity's member, the member of a position, and the way back, the position on a member.
pub record Arrangement : Type 0 where
  pub parity : ℕ
  pub member : ℕ → ℕ
  pub position : ℕ → ℕ

-- What every layout owes of a stripe over m members, which has m - 1 positions.
pub record Lawful (m : ℕ) (a : Arrangement) : Type 0 where
  -- the members answered lie below m and differ
  pub parity_below : a.parity < m
  pub member_below : (j : ℕ) → j < m - 1 → a.member j < m
  pub apart : (j : ℕ) → j < m - 1 → a.member j ≢ a.parity
  pub differ : (i j : ℕ) → i < m - 1 → j < m - 1 → a.member i ≡ a.member j → i ≡ j
  -- the way back undoes the way out, and the way out the way back
  pub position_of_member : (j : ℕ) → j < m - 1 → a.position (a.member j) ≡ j
  pub position_below : (t : ℕ) → t < m → (t ≢ a.parity) → a.position t < m - 1
  pub member_of_position : (t : ℕ) → t < m → (t ≢ a.parity) → a.member (a.position t) ≡ t

-- The member of position j, where there is one.
abbrev pub member_at : ℕ → Arrangement → ℕ → Option ℕ
member_at m a j = cond (nat_lt j (m - 1)) (Some (a.member j)) None

-- The position on member t, where there is one: none on the parity's member.
abbrev pub position_at : ℕ → Arrangement → ℕ → Option ℕ
position_at m a t = cond (nat_lt t m) (cond (t == a.parity) None (Some (a.position t))) None

-- The parity's member rises with the stripe, or falls.
abbrev pub rising : ℕ → ℕ → ℕ
rising m s = s % m

abbrev pub falling : ℕ → ℕ → ℕ
falling m s = m - 1 - s % m

-- Data that restarts at member 0 and passes over the parity's member p; the position on member t.
abbrev pub restarted : ℕ → ℕ → ℕ
restarted p j = cond (nat_lt j p) j (j + 1)

abbrev pub restarted_back : ℕ → ℕ → ℕ
restarted_back p t = cond (nat_lt t p) t (t - 1)

-- Data that continues after the parity's member p, round the members; the position on member t.
abbrev pub continued : ℕ → ℕ → ℕ → ℕ
continued m p j = (p + 1 + j) % m

abbrev pub continued_back : ℕ → ℕ → ℕ → ℕ
continued_back m p t = (t + (m - 1 - p)) % m

-- The three layouts: stripe s over m members.
-- RAID level qualifier 0
abbrev pub right_asymmetric : ℕ → ℕ → Arrangement
right_asymmetric m s = record { parity = rising m s; member = restarted (rising m s); position = restarted_back (rising m s) }

-- RAID level qualifier 2
abbrev pub left_asymmetric : ℕ → ℕ → Arrangement
left_asymmetric m s = record { parity = falling m s; member = restarted (falling m s); position = restarted_back (falling m s) }

-- RAID level qualifier 3
abbrev pub left_symmetric : ℕ → ℕ → Arrangement
left_symmetric m s = record { parity = falling m s; member = continued m (falling m s); position = continued_back m (falling m s) }
