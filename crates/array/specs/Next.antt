-- The stripe that a resynchronization takes next.
use Rattle.std.specs.Prelude.{◌≡◌, ℕ, ◌<◌, IfSome, Option, Result}
use Rattle.std.specs.Result as results
use Rattle.geometry.specs.Counts.{members_of, blocks_of}
use Rattle.geometry.specs.Places.{stripes}
use Rattle.geometry.specs.declared.shape.Shape.{Shape}
use Rattle.stripe_set.specs.Named.{LeastFrom}
use Rattle.member_store.specs.Meaning as store
use Rattle.intent_log.specs.Meaning as intent
use Rattle.array_model.specs.declared.refusal.ArrayRefusal.{ArrayRefusal}
use Rattle.array_work.specs.Outcomes.{due_in}

-- A stripe that was found is one of the array.
abbrev pub Inside : Shape → Option ℕ → Type 0
Inside a o = IfSome o (λ k. k < stripes (blocks_of a))

-- The shape with the counts of the members, and the next stripe of the array at or above a number that the log names.
abbrev pub FindsNext : store.Meaning → intent.Meaning → ℕ → Result (Shape × Option ℕ) ArrayRefusal → Type 0
FindsNext m l from r =
    results.MatchResult r
    (λ a. (members_of a.0 ≡ m.members) × (blocks_of a.0 ≡ m.blocks) × LeastFrom (due_in m.blocks l) from a.1)
    (λ _. ⊥)
