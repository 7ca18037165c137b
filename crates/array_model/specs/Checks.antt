-- The checks of the array's calls, in their order: the first that fails is the refusal.
use Rattle.std.specs.Prelude.{ℕ, Bool, true, cond, ◌&&◌, List, [], ◌∷◌, Some, None, Option, ◌==◌, nat_lt}
use Rattle.std.specs.Option.{option_or}
use Rattle.geometry.specs.Counts.{counts_allowed}
use Rattle.cache.specs.Contents.{no_slot_for}
use Rattle.array_model.specs.Meaning.{Meaning, Geometry, named, block_count, home, holder}
use Rattle.array_model.specs.declared.refusal.ArrayRefusal.{ArrayRefusal}
use Rattle.array_model.specs.declared.refusal.ArrayRefusal.TheVariants.{Limits, NoRecord, NoSlot, NoBlock, WrongLength, StripeNamed, NoMember, LogSpent}

-- 3 to 8 members with 1 to 16,777,216 blocks each
abbrev pub limits_check : Geometry → Option ArrayRefusal
limits_check g = cond (counts_allowed g.members g.blocks) None (Some (Limits g.members g.blocks))

-- a record stands
abbrev pub record_check : Meaning → Option ArrayRefusal
record_check s = cond s.log.standing.stands None (Some NoRecord)

-- there is a member d to be absent
abbrev pub member_check : Geometry → ℕ → Option ArrayRefusal
member_check g d = cond (nat_lt d g.members) None (Some (NoMember d))

abbrev pub open_checks : Geometry → Meaning → Option ArrayRefusal
open_checks g s = option_or (limits_check g) (record_check s)

abbrev pub open_short_checks : Geometry → ℕ → Meaning → Option ArrayRefusal
open_short_checks g d s = option_or (limits_check g) (option_or (member_check g d) (record_check s))

-- there is a block k, and the buffer has n bytes
abbrev pub block_checks : Geometry → ℕ → ℕ → Option ArrayRefusal
block_checks g k n =
    option_or (cond (nat_lt k (block_count g)) None (Some (NoBlock k))) (cond (n == 512) None (Some (WrongLength n)))

abbrev pub write_checks : Geometry → ℕ → ℕ → Meaning → Option ArrayRefusal
write_checks g k n s = option_or (block_checks g k n) (cond (no_slot_for k s.caches) (Some (NoSlot k)) None)

-- the absent member d has block k, and its stripe is named
abbrev pub read_short_checks : Geometry → ℕ → ℕ → ℕ → Meaning → Option ArrayRefusal
read_short_checks g d k n s =
    option_or (block_checks g k n) (cond (holder g k == d && named s (home g k)) (Some (StripeNamed (home g k))) None)

-- every stripe of the list is named
abbrev pub all_named : Meaning → List ℕ → Bool
all_named s [] = true
all_named s (k ∷ ks) = named s k && all_named s ks

-- the log can name the stripes of the list, where it does not yet
abbrev pub naming_check : List ℕ → Meaning → Option ArrayRefusal
naming_check w s = cond (all_named s w) None (cond s.log.spent (Some LogSpent) None)
