-- Room for tokens, over calls one after the other. Assumes nothing.
use Rattle.std.proofs.Common.{◌≡◌, ℕ, zero, suc, ◌+◌, ◌<◌, ◌≤◌, Bool, true, false, cond, ◌&&◌, List, [], ◌∷◌, length, get_or, sym, refl, subst, arith}
use Rattle.array_run.specs.TokenCounts.{Room, Grown}
use Rattle.array_run.specs.Calls.{unbuffered, all_unbuffered, before_read}
use Rattle.array_run.specs.declared.call.Call.{Call}
use Rattle.array_run.specs.declared.tokens.Tokens.{Tokens}

pub none_grown : (a : Tokens) → Grown 1 a a
none_grown a = record { few_tickets = omega arith; few_permits = omega arith; few_shorts = omega arith; room_tickets = omega arith; room_permits = omega arith; room_shorts = omega arith }

pub not_grown : (a : Tokens) → Grown 0 a a
not_grown a = record { few_tickets = omega arith; few_permits = omega arith; few_shorts = omega arith; room_tickets = omega arith; room_permits = omega arith; room_shorts = omega arith }

pub grown_more : (i : ℕ) (a b d : Tokens) → Grown i a b → Grown 1 b d → Grown (i + 1) a d
grown_more i a b d g h = record { few_tickets = omega arith; few_permits = omega arith; few_shorts = omega arith; room_tickets = omega arith; room_permits = omega arith; room_shorts = omega arith }

pub room_left : (n i : ℕ) (a b : Tokens) → i < n → Room n a → Grown i a b → Room 1 b
room_left n i a b lt r g = record { for_tickets = omega arith; for_permits = omega arith; for_shorts = omega arith }

first : (x y : Bool) → x && y ≡ true → x ≡ true
first true y e = refl
first false y e = e

second : (x y : Bool) → x && y ≡ true → y ≡ true
second true y e = e
second false y e = let z : ◌≡◌ {A = ℕ} 0 1 = cc in absurd (omega arith)

pub unbuffered_at : (cs : List Call) (n : ℕ) (d : Call) → n < length cs → all_unbuffered cs ≡ true → unbuffered (get_or cs n d) ≡ true
unbuffered_at [] n d lt e = absurd (omega arith)
unbuffered_at (c ∷ cs) zero d lt e = first (unbuffered c) (all_unbuffered cs) e
unbuffered_at (c ∷ cs) (suc n) d lt e = unbuffered_at cs n d (omega arith) (second (unbuffered c) (all_unbuffered cs) e)

pub before_most : (cs : List Call) → before_read cs ≤ length cs
before_most [] = omega arith
before_most (c ∷ cs) = go (unbuffered c) (before_most cs)
  where
    go : (b : Bool) → before_read cs ≤ length cs → cond b (before_read cs + 1) 0 ≤ length (c ∷ cs)
    go true h = omega arith
    go false h = omega arith

-- a read is not among the calls before the first read
pub before_at : (cs : List Call) (n : ℕ) (d : Call) → n < length cs → unbuffered (get_or cs n d) ≡ false → before_read cs ≤ n
before_at [] n d lt e = absurd (omega arith)
before_at (c ∷ cs) zero d lt e = subst (λ b. cond b (before_read cs + 1) 0 ≤ 0) (sym e) (omega arith)
before_at (c ∷ cs) (suc n) d lt e = go (unbuffered c) (before_at cs n d (omega arith) e)
  where
    go : (b : Bool) → before_read cs ≤ n → cond b (before_read cs + 1) 0 ≤ suc n
    go true h = omega arith
    go false h = omega arith

-- a call that is refused for want of memory while there is room is a read
pub is_read : (c : Call) → (unbuffered c ≡ true → false ≡ true) → unbuffered c ≡ false
is_read c f = go (unbuffered c) refl
  where
    go : (b : Bool) → unbuffered c ≡ b → unbuffered c ≡ false
    go true e = let z : ◌≡◌ {A = Bool} false true = f e in let y : ◌≡◌ {A = ℕ} 0 1 = cc in absurd (omega arith)
    go false e = e
