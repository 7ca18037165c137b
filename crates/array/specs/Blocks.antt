-- What a block call checks and puts, once the array's state allows it.
use Rattle.std.specs.Prelude.{◌≡◌, ℕ, ◌<◌, true, false, cond, ◌&&◌, List, Some, None, Option, Result, ◌==◌}
use Rattle.std.specs.Result as results
use Rattle.geometry.specs.Counts.{members_of, blocks_of}
use Rattle.geometry.specs.Places.{data_blocks}
use Rattle.geometry.specs.declared.shape.Shape.{Shape}
use Rattle.member_store.specs.Meaning as store
use Rattle.intent_log.specs.Meaning as intent
use Rattle.cache.specs.Contents.{Contents, no_slot_for, put_into}
use Rattle.array_model.specs.Meaning.{Arrange, geometry_on, array, home, holder}
use Rattle.array_model.specs.Checks.{block_checks, read_short_checks}
use Rattle.array_model.specs.Calls.{Plain}
use Rattle.array_model.specs.declared.refusal.ArrayRefusal.{ArrayRefusal}
use Rattle.array_model.specs.declared.refusal.ArrayRefusal.TheVariants.{NoSlot, StripeNamed}
use Rattle.array_model.specs.declared.state.State.{State}
use Rattle.array_work.specs.Outcomes.{sized}
use Rattle.array.specs.Sound.{Sized}

-- There is a block k, and the buffer has the n bytes of a block: the counts as a shape; else the refusal.
abbrev pub BlockChecked : store.Meaning → ℕ → ℕ → Result Shape ArrayRefusal → Type 0
BlockChecked m k n r =
    results.MatchResult r
    (λ a. (members_of a ≡ m.members) × (blocks_of a ≡ m.blocks) × (k < data_blocks (members_of a) (blocks_of a)) × (n ≡ 512))
    (λ e. Sized m → (arrange : Arrange) → block_checks (geometry_on arrange m) k n ≡ Some e)

-- The block is put into the buffering cache, where a slot is found for it.
abbrev pub Puts : ℕ → List ℕ → Contents → Plain → Contents → Type 0
Puts k x c r c' =
    results.MatchResult r
    (λ _. (no_slot_for k c ≡ false) × (c' ≡ put_into k x c))
    (λ e. (no_slot_for k c ≡ true) × (c' ≡ c) × (e ≡ NoSlot k))

-- The absent member d has a block of member i and stripe b, which the log names.
abbrev pub absent_check : ℕ → ℕ → ℕ → intent.Meaning → Option ArrayRefusal
absent_check i b d l = cond (i == d && l.standing.names b) (Some (StripeNamed b)) None

-- The checks of a read without member d, while the log is on: the counts as a shape; else the refusal.
abbrev pub ShortChecked : Arrange → store.Meaning → intent.Meaning → Type 0 → ℕ → ℕ → ℕ → Result Shape ArrayRefusal → Type 0
ShortChecked arrange m l on d k n r =
    results.MatchResult r
    (λ a. (members_of a ≡ m.members) × (blocks_of a ≡ m.blocks) × (k < data_blocks (members_of a) (blocks_of a)) × (n ≡ 512)
    × (on → absent_check (holder (sized arrange a) k) (home (sized arrange a) k) d l ≡ None))
    (λ e. on → Sized m → (q : State) (c : Contents) → read_short_checks (geometry_on arrange m) d k n (array q c m l) ≡ Some e)
