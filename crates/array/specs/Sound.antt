-- What an array means, and when it is sound: by its state, what its calls rely on. A fallen array is sound.
use Rattle.std.specs.Prelude.{◌≡◌, ◌≤◌, true, false, Some, None, Ok, Err, Option, Result}
use Rattle.std.specs.Result as results
use Rattle.geometry.specs.Counts.{counts_allowed, members_of, blocks_of}
use Rattle.geometry.specs.declared.shape.Shape.{Shape}
use Rattle.member_store.specs.Meaning as store
use Rattle.intent_log.specs.Meaning as intent
use Rattle.cache.specs.Meaning.{contents}
use Rattle.array_model.specs.Meaning.{Meaning, array}
use Rattle.array_model.specs.Calls.{Plain}
use Rattle.array_model.specs.declared.state.Progress.{Progress}
use Rattle.array_model.specs.declared.state.State.{State}
use Rattle.array_model.specs.declared.state.State.TheVariants.{Fallen, Down, Resync, Ready, Short}
use Rattle.array_model.specs.declared.refusal.ArrayRefusal.{ArrayRefusal}
use Rattle.array_model.specs.declared.refusal.ArrayRefusal.TheVariants.{Limits}
use Rattle.array.specs.declared.array.Array.{Array}

abbrev pub means : {S G L : Type 0} → (S → store.Meaning) → (G → intent.Meaning) → Array S G L → Meaning
means members log a = array a.state (contents a.caches) (members a.store) (log a.log)

-- The log is sound and has power.
abbrev pub LogOn : Type 0 → intent.Meaning → Type 0
LogOn sound l = sound × (l.on ≡ true)

-- The counts of the members are within the limits.
abbrev pub Sized : store.Meaning → Type 0
Sized m = counts_allowed m.members m.blocks ≡ true

-- Stripes were taken below the most that there can be, each read once and mended at most once.
pub record Bounded (p : Progress) : Type 0 where
  pub next_most : p.next ≤ 16777216
  pub read_most : p.read ≤ p.next
  pub mended_most : p.mended ≤ p.read

abbrev pub SoundIn : State → Type 0 → store.Meaning → intent.Meaning → Type 0
SoundIn Fallen sound m l = Unit {0}
SoundIn Down sound m l = LogOn sound l
SoundIn (Resync p) sound m l = LogOn sound l × Sized m × Bounded p
SoundIn Ready sound m l = LogOn sound l × Sized m
SoundIn (Short d) sound m l = LogOn sound l × Sized m

abbrev pub Sound : {S G L : Type 0} → (S → store.Meaning) → (G → intent.Meaning) → (G → Type 0) → Array S G L → Type 0
Sound members log sound a = SoundIn a.state (sound a.log) (members a.store) (log a.log)

-- The counts of the members as a shape, or the refusal that tells them.
abbrev pub Sizes : store.Meaning → Result Shape ArrayRefusal → Type 0
Sizes m r =
    results.MatchResult r
    (λ a. Sized m × (members_of a ≡ m.members) × (blocks_of a ≡ m.blocks))
    (λ e. (counts_allowed m.members m.blocks ≡ false) × (e ≡ Limits m.members m.blocks))

-- An answer without its ticket or permit.
abbrev pub plain : {A : Type 0} → Result A ArrayRefusal → Plain
plain (Ok a) = Ok tt
plain (Err e) = Err e

-- What checks answer: the refusal that they name, if any.
abbrev pub verdict : Option ArrayRefusal → Plain
verdict None = Ok tt
verdict (Some e) = Err e
