-- A list of calls, made one after the other, with the crash promise at each of them.
use Rattle.std.specs.Prelude.{◌≡◌, ℕ, ◌<◌, ◌≤◌, true, cond, List, [], ◌∷◌, ◌++◌, length, take, is_ok, Some, None, Option, Result}
use Rattle.member_store.specs.Meaning as store
use Rattle.intent_log.specs.Meaning as intent
use Rattle.cache.specs.Contents.{Contents, empty}
use Rattle.array_model.specs.Meaning.{Meaning, Arrange, Geometry, geometry}
use Rattle.array_model.specs.Book as model
use Rattle.array_model.specs.Book.{Book, zero_book, booked, Since, since}
use Rattle.array_model.specs.Runs.{Run, Does}
use Rattle.array_model.specs.Promise.{HoldsAt}
use Rattle.array_model.specs.declared.state.State.{State}
use Rattle.array_model.specs.declared.state.State.TheVariants.{Fallen, Down, Resync, Ready, Short}
use Rattle.array.specs.Sound.{means, Sound}
use Rattle.array.specs.declared.array.Array.{Array}
use Rattle.array_run.specs.TokenCounts.{TokenCounts}
use Rattle.array_run.specs.Calls.{as_call, held_for, tokens_after, Told}
use Rattle.array_run.specs.declared.answer.Answer.{Answer}
use Rattle.array_run.specs.declared.answer.Answer.TheVariants as answer
use Rattle.array_run.specs.declared.call.Call.{Call}

-- An array that is down, resynchronizing or short has empty caches.
abbrev pub EmptyUnlessReady : State → Contents → Type 0
EmptyUnlessReady Fallen c = Unit {0}
EmptyUnlessReady Down c = c ≡ empty
EmptyUnlessReady (Resync p) c = c ≡ empty
EmptyUnlessReady Ready c = Unit {0}
EmptyUnlessReady (Short d) c = c ≡ empty

-- Every call keeps that.
pub record CachesStayEmpty : Type 0 where
  pub kept : (g : Geometry) (c : model.Call) (s : Meaning) (r : model.Reply c) (t : Meaning) → Does g c s r t → EmptyUnlessReady s.state s.caches → EmptyUnlessReady t.state t.caches

-- The array is sound, and its caches are empty where they have to be. A fallen array is fit.
abbrev pub WellFormed : {S G L : Type 0} → (S → store.Meaning) → (G → intent.Meaning) → (G → Type 0) → Array S G L → Type 0
WellFormed members log sound a = Sound members log sound a × EmptyUnlessReady (means members log a).state (means members log a).caches

-- What is kept of a run: the book of accepted writes, and what is known since the latest accepted open.
pub record Account : Type 0 where
  pub book : Book
  pub known : Since

-- An accepted format begins an account.
abbrev pub account_begun : (c : model.Call) → model.Reply c → Meaning → Option Account
account_begun model.power_on r t = None
account_begun model.format r t =
    cond (is_ok r) (Some (record { book = zero_book; known = record { names = t.log.standing.names; members = t.members; mended = [] } })) None
account_begun model.open_whole r t = None
account_begun model.step r t = None
account_begun model.finish r t = None
account_begun model.destage r t = None
account_begun model.flush r t = None
account_begun model.close r t = None
account_begun model.give_up r t = None
account_begun (model.open_short d) r t = None
account_begun (model.write k x) r t = None
account_begun (model.read_block k old) r t = None
account_begun (model.read_short k old) r t = None

-- The account after a call, if there is one yet.
abbrev pub accounted : Geometry → (c : model.Call) → model.Reply c → Meaning → Option Account → Option Account
accounted g c r t None = account_begun c r t
accounted g c r t (Some a) = Some (record { book = booked g c r t a.book; known = since c r t a.known })

-- A run of calls from an accepted format on led to s, with this account; without an account nothing is known.
abbrev pub InRun : Arrange → Option Account → Meaning → Type 0
InRun arrange None s = Unit {0}
InRun arrange (Some a) s = Run arrange a.book a.known s

-- The crash promise holds, whichever call comes next.
abbrev pub Promised : Arrange → Option Account → Meaning → Type 0
Promised arrange None s = Unit {0}
Promised arrange (Some a) s = HoldsAt (geometry arrange s) a.book a.known s

-- From account o, tokens h and array s on the calls were made one after the other, with these answers, and led to the
-- last three. At each of them the promise holds.
pub data Trace (arrange : Arrange) (o : Option Account) (h : TokenCounts) (s : Meaning) : List Call → List Answer → Option Account → TokenCounts → Meaning → Type 0 where
  begin : Trace arrange o h s [] [] o h s
  -- there was no token of the kind that the call takes
  then_none : {cs : List Call} {rs : List Answer} {p : Option Account} {i : TokenCounts} {t : Meaning} (c : Call) → Trace arrange o h s cs rs p i t → held_for i c ≡ 0
      → Trace arrange o h s (cs ++ c ∷ []) (rs ++ answer.NoToken ∷ []) p i t
  then_made : {cs : List Call} {rs : List Answer} {p : Option Account} {i : TokenCounts} {t : Meaning} (c : Call) (r : model.Reply (as_call c)) (a : Answer) (u : Meaning)
      → Trace arrange o h s cs rs p i t → Promised arrange p t → 0 < held_for i c → Told c r a → Does (geometry arrange t) (as_call c) t r u
      → Trace arrange o h s (cs ++ c ∷ []) (rs ++ a ∷ []) (accounted (geometry arrange t) (as_call c) r u p) (tokens_after c t.state r i) u

-- The first calls of the list were made, all of them unless memory was wanting, and new answers stand behind the old ones.
-- Whatever run led to the array, they continue it, and the promise holds at each of them and after them.
pub record Keeps (arrange : Arrange) (cs : List Call) (old new : List Answer) (h : TokenCounts) (s : Meaning) (i : TokenCounts) (t : Meaning) (whole : Type 0) (o : Option Account) : Type 0 where
  pub number : ℕ
  pub few : number ≤ length cs
  pub all : whole → number ≡ length cs
  pub answers : List Answer
  pub behind : new ≡ old ++ answers
  pub account : Option Account
  pub trace : Trace arrange o h s (take number cs) answers account i t
  pub promised : Promised arrange account t
  pub run : InRun arrange account t

abbrev pub KeepsPromise : {U E : Type 0} → Arrange → List Call → List Answer → List Answer → TokenCounts → Meaning → Result U E → TokenCounts → Meaning → Type 0
KeepsPromise arrange cs old new h s r i t = (o : Option Account) → InRun arrange o s → Keeps arrange cs old new h s i t (is_ok r ≡ true) o
