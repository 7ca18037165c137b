-- The book of accepted writes, fed with calls, their answers and, at a finish, what the blocks hold; and what is known
-- since the latest accepted open.
use Rattle.std.specs.Prelude.{◌≡◌, ℕ, Bool, cond, ◌⊎◌, List, [], ◌∷◌, is_ok, Some, None, Ok, Err, Option, Result, ◌==◌}
use Rattle.parity.specs.Xor.{zeros}
use Rattle.member_store.specs.Meaning as store
use Rattle.array_model.specs.Refusals.{refused_with}
use Rattle.array_model.specs.Meaning.{Meaning, Geometry, held}
use Rattle.array_model.specs.Calls.{Plain}
use Rattle.array_model.specs.declared.answer.TakenStripe.{TakenStripe}
use Rattle.array_model.specs.declared.answer.ResyncCounts.{ResyncCounts}
use Rattle.array_model.specs.declared.answer.Destage.{Destage}
use Rattle.array_model.specs.declared.answer.FlushCounts.{FlushCounts}
use Rattle.array_model.specs.declared.refusal.ArrayRefusal.{ArrayRefusal}

-- The calls: write with its bytes, the reads with what their buffer held.
pub data Call : Type 0 where
  power_on format open_whole step finish destage flush close give_up : Call
  open_short : (absent : ℕ) → Call
  write : (block : ℕ) (bytes : List ℕ) → Call
  read_block read_short : (block : ℕ) (buffer : List ℕ) → Call

-- What each answers: the reads also what their buffer holds then.
abbrev pub Reply : Call → Type 0
Reply power_on = Plain
Reply format = Plain
Reply open_whole = Plain
Reply step = Result (Option TakenStripe) ArrayRefusal
Reply finish = Result ResyncCounts ArrayRefusal
Reply destage = Result Destage ArrayRefusal
Reply flush = Result FlushCounts ArrayRefusal
Reply close = Plain
Reply give_up = Unit {0}
Reply (open_short d) = Plain
Reply (write k x) = Plain
Reply (read_block k old) = Plain × List ℕ
Reply (read_short k old) = Plain × List ℕ

-- For each block its base, and a list of bytes, the newest first.
pub record Book : Type 0 where
  pub base : ℕ → List ℕ
  pub list : ℕ → List (List ℕ)

-- The bytes are the block's base or on its list.
abbrev pub InBook : Book → ℕ → List ℕ → Type 0
InBook b k x = (x ≡ b.base k) ⊎ store.In x (b.list k)

abbrev pub newest_of : List ℕ → List (List ℕ) → List ℕ
newest_of x [] = x
newest_of x (y ∷ ys) = y

-- The newest bytes on the list, else the base.
abbrev pub latest : Book → ℕ → List ℕ
latest b k = newest_of (b.base k) (b.list k)

-- These are the bases, and all lists are empty.
abbrev pub holding : (ℕ → List ℕ) → Book
holding f = record { base = f; list = λ k. [] }

abbrev pub zero_book : Book
zero_book = holding (λ k. zeros)

abbrev pub add : ℕ → List ℕ → Book → Book
add k x b = record { base = b.base; list = λ i. cond (i == k) (x ∷ b.list i) (b.list i) }

abbrev pub add_zeros : Book → Book
add_zeros b = record { base = b.base; list = λ i. zeros ∷ b.list i }

abbrev pub settled : Book → Book
settled b = holding (latest b)

-- The book after a call, by its answer and the array that it left.
abbrev pub booked : Geometry → (c : Call) → Reply c → Meaning → Book → Book
booked g power_on r t b = b
booked g format r t b = cond (is_ok r) zero_book (cond (refused_with 1 r) (add_zeros b) b)
booked g open_whole r t b = b
booked g step r t b = b
booked g finish r t b = cond (is_ok r) (holding (held g t.members)) b
booked g destage r t b = b
booked g flush r t b = cond (is_ok r) (settled b) b
booked g close r t b = cond (is_ok r) (settled b) b
booked g give_up r t b = b
booked g (open_short d) r t b = b
booked g (write k x) r t b = cond (is_ok r) (add k x b) b
booked g (read_block k old) r t b = b
booked g (read_short k old) r t b = b

-- Since the latest accepted open: what the log named and the members held then, and the stripes that steps told as
-- mended.
pub record Since : Type 0 where
  pub names : ℕ → Bool
  pub members : store.Meaning
  pub mended : List ℕ

abbrev pub told : Result (Option TakenStripe) ArrayRefusal → Since → Since
told (Ok (Some a)) z = cond a.mended (record { names = z.names; members = z.members; mended = a.stripe ∷ z.mended }) z
told (Ok None) z = z
told (Err e) z = z

abbrev pub since : (c : Call) → Reply c → Meaning → Since → Since
since power_on r t z = z
since format r t z = z
since open_whole r t z = cond (is_ok r) (record { names = t.log.standing.names; members = t.members; mended = [] }) z
since step r t z = told r z
since finish r t z = z
since destage r t z = z
since flush r t z = z
since close r t z = z
since give_up r t z = z
since (open_short d) r t z = z
since (write k x) r t z = z
since (read_block k old) r t z = z
since (read_short k old) r t z = z
