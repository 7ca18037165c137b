-- Runs: any list of calls, the first on an array just formatted, each later one on what the call before it left, with
-- any answer that the calls allow, refusals and power cuts included.
use Rattle.std.specs.Prelude.{◌≡◌, ℕ, cond, List, Ok, ◌==◌, ◌≢◌}
use Rattle.member_store.specs.Meaning as store
use Rattle.member_store.specs.Calls.{SameCounts}
use Rattle.cache.specs.Contents.{empty}
use Rattle.array_model.specs.Meaning.{Meaning, Arrange, Geometry, geometry, with_members}
use Rattle.array_model.specs.Calls.{Plain, PowersOn, Formats, Opens, OpensShort, Steps, Finishes, Writes, Reads, Destages, Flushes, Closes, ReadsShort, GivesUp}
use Rattle.array_model.specs.Book.{Call, power_on, format, open_whole, step, finish, destage, flush, close, give_up, open_short, write, read_block, read_short, Reply, Book, zero_book, booked, Since, since}
use Rattle.array_model.specs.declared.state.State.TheVariants.{Short}

abbrev pub Does : Geometry → (c : Call) → Meaning → Reply c → Meaning → Type 0
Does g power_on s r t = PowersOn s r t
Does g format s r t = Formats g s r t
Does g open_whole s r t = Opens g s r t
Does g step s r t = Steps g s r t
Does g finish s r t = Finishes g s r t
Does g destage s r t = Destages g s r t
Does g flush s r t = Flushes g s r t
Does g close s r t = Closes g s r t
Does g give_up s r t = GivesUp s t
Does g (open_short d) s r t = OpensShort g d s r t
Does g (write k x) s r t = Writes g k x s r t
Does g (read_block k old) s r t = Reads g k old r.1 s r.0 t
Does g (read_short k old) s r t = ReadsShort g k old r.1 s r.0 t

-- n is m but for the blocks of member d, which are any others.
pub record StandIn (d : ℕ) (m n : store.Meaning) : Type 0 where
  pub power : n.on ≡ m.on
  pub sized : SameCounts m n
  pub others : (i b : ℕ) → (i ≢ d) → n.versions i b ≡ m.versions i b

-- n, but with the blocks of member d as m has them.
abbrev pub restored : ℕ → store.Meaning → store.Meaning → store.Meaning
restored d m n = record { on = n.on; members = n.members; blocks = n.blocks; versions = λ i b. cond (i == d) (m.versions i b) (n.versions i b) }

pub data Run (arrange : Arrange) : Book → Since → Meaning → Type 0 where
  -- the first call comes right after an accepted format; an array that is down has empty caches
  formatted : {z : Since} (s t : Meaning) → s.caches ≡ empty → Formats (geometry arrange s) s (Ok tt) t → Run arrange zero_book z t
  next : {b : Book} {z : Since} {s : Meaning} (t : Meaning) (c : Call) (r : Reply c) → Run arrange b z s → Does (geometry arrange s) c s r t
      → Run arrange (booked (geometry arrange s) c r t b) (since c r t z) t
  -- a read without member d, while other blocks stand in for that member's
  without : {b : Book} {z : Since} {s : Meaning} (t : Meaning) (d : ℕ) (n : store.Meaning) (k : ℕ) (old new : List ℕ) (r : Plain) → Run arrange b z s
      → s.state ≡ Short d → StandIn d s.members n → ReadsShort (geometry arrange s) k old new (with_members n s) r t
      → Run arrange b z (with_members (restored d s.members t.members) t)
