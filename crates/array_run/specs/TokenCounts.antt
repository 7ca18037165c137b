-- How many tickets and permits of each kind a caller holds.
use Rattle.std.specs.Prelude.{ℕ, ◌+◌, ◌-◌, ◌≤◌, vec_len, vec_capacity}
use Rattle.array_run.specs.declared.call.TokenKind.{TokenKind}
use Rattle.array_run.specs.declared.call.TokenKind.TheVariants as kind
use Rattle.array_run.specs.declared.tokens.Tokens.{Tokens}

pub record TokenCounts : Type 0 where
  pub tickets : ℕ
  pub permits : ℕ
  pub shorts : ℕ

-- what the tokens are
abbrev pub counts_of : Tokens → TokenCounts
counts_of k = record { tickets = vec_len k.tickets; permits = vec_len k.permits; shorts = vec_len k.shorts }

abbrev pub no_tokens : TokenCounts
no_tokens = record { tickets = 0; permits = 0; shorts = 0 }

-- how many there are
abbrev pub total : TokenCounts → ℕ
total h = h.tickets + h.permits + h.shorts

-- how many there are of a kind
abbrev pub count : TokenKind → TokenCounts → ℕ
count kind.Resync h = h.tickets
count kind.Ready h = h.permits
count kind.Short h = h.shorts

-- one more of a kind
abbrev pub more : TokenKind → TokenCounts → TokenCounts
more kind.Resync h = record { tickets = h.tickets + 1; permits = h.permits; shorts = h.shorts }
more kind.Ready h = record { tickets = h.tickets; permits = h.permits + 1; shorts = h.shorts }
more kind.Short h = record { tickets = h.tickets; permits = h.permits; shorts = h.shorts + 1 }

-- one less of a kind
abbrev pub less : TokenKind → TokenCounts → TokenCounts
less kind.Resync h = record { tickets = h.tickets - 1; permits = h.permits; shorts = h.shorts }
less kind.Ready h = record { tickets = h.tickets; permits = h.permits - 1; shorts = h.shorts }
less kind.Short h = record { tickets = h.tickets; permits = h.permits; shorts = h.shorts - 1 }

-- There is room for so many more of each kind.
pub record Room (n : ℕ) (a : Tokens) : Type 0 where
  pub for_tickets : vec_len a.tickets + n ≤ vec_capacity a.tickets
  pub for_permits : vec_len a.permits + n ≤ vec_capacity a.permits
  pub for_shorts : vec_len a.shorts + n ≤ vec_capacity a.shorts

-- At most so many of each kind were added, and no room was lost.
pub record Grown (n : ℕ) (a b : Tokens) : Type 0 where
  pub few_tickets : vec_len b.tickets ≤ vec_len a.tickets + n
  pub few_permits : vec_len b.permits ≤ vec_len a.permits + n
  pub few_shorts : vec_len b.shorts ≤ vec_len a.shorts + n
  pub room_tickets : vec_capacity a.tickets ≤ vec_capacity b.tickets
  pub room_permits : vec_capacity a.permits ≤ vec_capacity b.permits
  pub room_shorts : vec_capacity a.shorts ≤ vec_capacity b.shorts
