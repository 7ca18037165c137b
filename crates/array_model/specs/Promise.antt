-- The crash promise: what holds along every run, of every layout, member store and log, wherever power goes.
use Rattle.std.specs.Prelude.{◌≡◌, ℕ, ◌<◌, true, false, ◌↔◌, List, length, Ok}
use Rattle.member_store.specs.Meaning as store
use Rattle.cache.specs.Stripes.{count_below}
use Rattle.stripe_work.specs.Stripe.{RightParity}
use Rattle.array_model.specs.Refusals.{refused_with}
use Rattle.array_model.specs.Meaning.{Meaning, Arrange, LawfulLayout, Geometry, geometry, with_members, named, stripe_count, stripe, block_count, home, holder, held}
use Rattle.array_model.specs.Calls.{Plain, Formats, Finishes, Reads, Flushes, Closes, ReadsShort}
use Rattle.array_model.specs.Book.{Book, InBook, latest, holding, settled, zero_book, Since}
use Rattle.array_model.specs.Runs.{Run, StandIn}
use Rattle.array_model.specs.declared.state.State.TheVariants.{Short}
use Rattle.array_model.specs.declared.answer.ResyncCounts.{ResyncCounts}
use Rattle.array_model.specs.declared.answer.FlushCounts.{FlushCounts}

-- A finish was accepted with the counts c, and left the members m.
pub record Consistent (g : Geometry) (z : Since) (c : ResyncCounts) (m : store.Meaning) : Type 0 where
  -- every stripe's parity is the exclusive or of its data
  pub right : (k : ℕ) → k < stripe_count g → RightParity (stripe g k) m
  -- since the open only named stripes were stored to: those told as mended are named, and the others hold what they
  -- held then and gained no version
  pub mended_named : (k : ℕ) → store.In k z.mended → (k < stripe_count g) × (z.names k ≡ true)
  pub unnamed_same : (k i : ℕ) → k < stripe_count g → i < g.members → z.names k ≡ false
      → store.current m i (stripe g k).block ≡ store.current z.members i (stripe g k).block
  pub unnamed_none : (k i : ℕ) (v : List ℕ) → k < stripe_count g → i < g.members → z.names k ≡ false
      → store.Version m i (stripe g k).block v → store.Version z.members i (stripe g k).block v
  -- the counts are the named stripes of the array and the steps that told a mending
  pub read_is : c.read ≡ count_below (stripe_count g) z.names
  pub mended_is : c.mended ≡ length z.mended

-- Each block holds its base or bytes on its list.
abbrev pub HeldByBook : Geometry → Book → store.Meaning → Type 0
HeldByBook g b m = (k : ℕ) → k < block_count g → InBook b k (held g m k)

-- A read-short of block k without member d was answered with r and left `new` in the buffer.
pub record ShortRead (g : Geometry) (b : Book) (s : Meaning) (d k : ℕ) (r : Plain) (new : List ℕ) : Type 0 where
  -- refused with 9 exactly when that member has the block and its stripe is named
  pub refused_just : (refused_with 9 r ≡ true) ↔ ((holder g k ≡ d) × (named s (home g k) ≡ true))
  -- else it answers the block's base or bytes on its list
  pub answered : refused_with 9 r ≡ false → (r ≡ Ok tt) × InBook b k new

-- Every block has one version, its base in the book.
abbrev pub OnlyBase : Geometry → Book → store.Meaning → Type 0
OnlyBase g b m = (k : ℕ) (v : List ℕ) → k < block_count g → store.Version m (holder g k) (stripe g (home g k)).block v → v ≡ b.base k

-- What holds of a run so far, at whichever call comes next.
pub record HoldsAt (g : Geometry) (b : Book) (z : Since) (s : Meaning) : Type 0 where
  -- at an accepted finish
  pub consistent : (c : ResyncCounts) (t : Meaning) → Finishes g s (Ok c) t → Consistent g z c t.members
  pub by_book : (c : ResyncCounts) (t : Meaning) → Finishes g s (Ok c) t → HeldByBook g b t.members
  -- at a read-short that passes the checks of state, number and length and is not cut, whatever blocks stand in for
  -- the absent member's
  pub short_reads : (d k : ℕ) (old new : List ℕ) (r : Plain) (n : store.Meaning) (t : Meaning) → s.state ≡ Short d → StandIn d s.members n → k < block_count g
      → length old ≡ 512 → ReadsShort g k old new (with_members n s) r t → refused_with 1 r ≡ false → ShortRead g b s d k r new
  -- after an accepted finish, flush, close or format a cut can bring back nothing but the base
  pub finish_settles : (c : ResyncCounts) (t : Meaning) → Finishes g s (Ok c) t → OnlyBase g (holding (held g t.members)) t.members
  pub flush_settles : (c : FlushCounts) (t : Meaning) → Flushes g s (Ok c) t → OnlyBase g (settled b) t.members
  pub close_settles : (t : Meaning) → Closes g s (Ok tt) t → OnlyBase g (settled b) t.members
  pub format_settles : (t : Meaning) → Formats g s (Ok tt) t → OnlyBase g zero_book t.members
  -- a read gives the block's latest accepted write, else its base
  pub reads_latest : (k : ℕ) (old new : List ℕ) (t : Meaning) → Reads g k old new s (Ok tt) t → new ≡ latest b k

pub record CrashPromise : Type 0 where
  pub along_every_run : (arrange : Arrange) (b : Book) (z : Since) (s : Meaning) → LawfulLayout arrange → Run arrange b z s → HoldsAt (geometry arrange s) b z s
