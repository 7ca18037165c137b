-- A call of a list: which call of the array it is, what tokens it takes and leaves, and what its answer tells.
use Rattle.std.specs.Prelude.{◌≡◌, ℕ, ◌+◌, ◌-◌, ◌<◌, Bool, true, false, cond, ◌&&◌, ◌⊎◌, List, [], ◌∷◌, replicate, is_ok, Ok, Err, vec_items, Result}
use Rattle.std.specs.Result as results
use Rattle.array_model.specs.Meaning.{Meaning, Arrange, geometry}
use Rattle.array_model.specs.Calls.{Plain, GivesUp}
use Rattle.array_model.specs.Book as model
use Rattle.array_model.specs.Runs.{Does}
use Rattle.array_model.specs.declared.answer.ResyncCounts.{ResyncCounts}
use Rattle.array_model.specs.declared.refusal.ArrayRefusal.{ArrayRefusal}
use Rattle.array_model.specs.declared.state.State.{State}
use Rattle.array_model.specs.declared.state.State.TheVariants.{Fallen, Down, Resync, Ready, Short}
use Rattle.array_run.specs.TokenCounts.{TokenCounts, count, more, less}
use Rattle.array_run.specs.declared.answer.Answer.{Answer}
use Rattle.array_run.specs.declared.answer.Answer.TheVariants as answer
use Rattle.array_run.specs.declared.call.Call.{Call}
use Rattle.array_run.specs.declared.call.Call.TheVariants as call
use Rattle.array_run.specs.declared.call.TokenKind.TheVariants as kind

-- The call of the array. A read's buffer holds zeros.
abbrev pub as_call : Call → model.Call
as_call call.PowerOn = model.power_on
as_call call.Format = model.format
as_call call.Open = model.open_whole
as_call (call.OpenShort d) = model.open_short d
as_call call.Step = model.step
as_call call.Finish = model.finish
as_call (call.Write k x) = model.write k x.now
as_call (call.Read k n) = model.read_block k (replicate n 0)
as_call (call.ReadShort k n) = model.read_short k (replicate n 0)
as_call call.Destage = model.destage
as_call call.Flush = model.flush
as_call call.Close = model.close
as_call (call.GiveUp k) = model.give_up

-- How many tokens there are of the kind that the call takes; 1 where it takes none.
abbrev pub held_for : TokenCounts → Call → ℕ
held_for h call.PowerOn = 1
held_for h call.Format = 1
held_for h call.Open = 1
held_for h (call.OpenShort d) = 1
held_for h call.Step = h.tickets
held_for h call.Finish = h.tickets
held_for h (call.Write k x) = h.permits
held_for h (call.Read k n) = h.permits
held_for h (call.ReadShort k n) = h.shorts
held_for h call.Destage = h.permits
held_for h call.Flush = h.permits
held_for h call.Close = h.permits
held_for h (call.GiveUp k) = count k h

-- A read takes memory for its buffer, no other call does.
abbrev pub unbuffered : Call → Bool
unbuffered call.PowerOn = true
unbuffered call.Format = true
unbuffered call.Open = true
unbuffered (call.OpenShort d) = true
unbuffered call.Step = true
unbuffered call.Finish = true
unbuffered (call.Write k x) = true
unbuffered (call.Read k n) = false
unbuffered (call.ReadShort k n) = false
unbuffered call.Destage = true
unbuffered call.Flush = true
unbuffered call.Close = true
unbuffered (call.GiveUp k) = true

abbrev pub all_unbuffered : List Call → Bool
all_unbuffered [] = true
all_unbuffered (c ∷ cs) = unbuffered c && all_unbuffered cs

-- How many calls come before the first read.
abbrev pub before_read : List Call → ℕ
before_read [] = 0
before_read (c ∷ cs) = cond (unbuffered c) (before_read cs + 1) 0

-- In resync a finish takes its ticket, refused or not, and gives a permit where it is accepted; in any other state the
-- ticket comes back.
abbrev pub after_finish : State → Result ResyncCounts ArrayRefusal → TokenCounts → TokenCounts
after_finish Fallen r h = h
after_finish Down r h = h
after_finish (Resync p) r h = cond (is_ok r) (more kind.Ready (less kind.Resync h)) (less kind.Resync h)
after_finish Ready r h = h
after_finish (Short d) r h = h

-- In ready a close takes its permit, refused or not; in any other state it comes back.
abbrev pub after_close : State → TokenCounts → TokenCounts
after_close Fallen h = h
after_close Down h = h
after_close (Resync p) h = h
after_close Ready h = less kind.Ready h
after_close (Short d) h = h

-- The tokens after a call that an array in this state answered so.
abbrev pub tokens_after : (c : Call) → State → model.Reply (as_call c) → TokenCounts → TokenCounts
tokens_after call.PowerOn q r h = h
tokens_after call.Format q r h = h
tokens_after call.Open q r h = cond (is_ok r) (more kind.Resync h) h
tokens_after (call.OpenShort d) q r h = cond (is_ok r) (more kind.Short h) h
tokens_after call.Step q r h = h
tokens_after call.Finish q r h = after_finish q r h
tokens_after (call.Write k x) q r h = h
tokens_after (call.Read k n) q r h = h
tokens_after (call.ReadShort k n) q r h = h
tokens_after call.Destage q r h = h
tokens_after call.Flush q r h = h
tokens_after call.Close q r h = after_close q h
tokens_after (call.GiveUp k) q r h = less k h

-- A read's answer has the bytes of its buffer.
abbrev pub ReadTold : Plain → List ℕ → Answer → Type 0
ReadTold p x (answer.Read a) = results.MatchResult a (λ v. (p ≡ Ok tt) × (vec_items v ≡ x)) (λ e. p ≡ Err e)
ReadTold p x answer.NoToken = ⊥
ReadTold p x (answer.Plain a) = ⊥
ReadTold p x (answer.Step a) = ⊥
ReadTold p x (answer.Finish a) = ⊥
ReadTold p x (answer.Destage a) = ⊥
ReadTold p x (answer.Flush a) = ⊥
ReadTold p x answer.GivenUp = ⊥

-- The answer tells what the array's call answered.
abbrev pub Told : (c : Call) → model.Reply (as_call c) → Answer → Type 0
Told call.PowerOn r a = a ≡ answer.Plain r
Told call.Format r a = a ≡ answer.Plain r
Told call.Open r a = a ≡ answer.Plain r
Told (call.OpenShort d) r a = a ≡ answer.Plain r
Told call.Step r a = a ≡ answer.Step r
Told call.Finish r a = a ≡ answer.Finish r
Told (call.Write k x) r a = a ≡ answer.Plain r
Told (call.Read k n) r a = ReadTold r.0 r.1 a
Told (call.ReadShort k n) r a = ReadTold r.0 r.1 a
Told call.Destage r a = a ≡ answer.Destage r
Told call.Flush r a = a ≡ answer.Flush r
Told call.Close r a = a ≡ answer.Plain r
Told (call.GiveUp k) r a = a ≡ answer.GivenUp

-- The call was made with the tokens at hand, h before and h' after, or there was none of the kind that it takes.
abbrev pub Made : Arrange → Call → TokenCounts → Meaning → Answer → TokenCounts → Meaning → Type 0
Made arrange c h s a h' t =
    ((held_for h c ≡ 0) × (a ≡ answer.NoToken) × (h' ≡ h) × (t ≡ s))
    ⊎ ((0 < held_for h c) × ((r : model.Reply (as_call c)) × Told c r a × Does (geometry arrange s) (as_call c) s r t × (h' ≡ tokens_after c s.state r h)))

-- The same, unless memory was wanting: then nothing was done.
abbrev pub Tries : {E : Type 0} → Arrange → Call → TokenCounts → Meaning → Result Answer E → TokenCounts → Meaning → Type 0
Tries arrange c h s r h' t = results.MatchResult r (λ a. Made arrange c h s a h' t) (λ _. (h' ≡ h) × (t ≡ s))

-- From n tokens of a kind the last is handed in, where there is one: n' are left.
abbrev pub GivesUpLast : ℕ → Meaning → Answer → ℕ → Meaning → Type 0
GivesUpLast n s a n' t =
    ((n ≡ 0) × (a ≡ answer.NoToken) × (n' ≡ n) × (t ≡ s))
    ⊎ ((0 < n) × (a ≡ answer.GivenUp) × (n' ≡ n - 1) × GivesUp s t)

-- So many give-ups, one after the other: where there is one, they do what one does.
pub record AfterGiveUps (n : ℕ) (s t : Meaning) : Type 0 where
  pub same : n ≡ 0 → t ≡ s
  pub given : 0 < n → GivesUp s t
