-- The block calls, refused by their checks. Assumes nothing.
use Rattle.std.proofs.Common.{◌≡◌, ℕ, cond, List, length, Some, None, Ok, Err, sym, refl, subst}
use Rattle.std.specs.Option as options
use Rattle.std.specs.Option.{option_or}
use Rattle.member_store.specs.Meaning as store
use Rattle.intent_log.specs.Meaning as intent
use Rattle.cache.specs.Contents.{Contents, no_slot_for, put_into}
use Rattle.array_model.specs.Meaning.{Meaning, Geometry, array, with_caches}
use Rattle.array_model.specs.Checks.{block_checks, write_checks}
use Rattle.array_model.specs.Work.{Declines}
use Rattle.array_model.specs.Calls.{Plain, Checked, InReady, Writes}
use Rattle.array_model.specs.declared.state.State.{State}
use Rattle.array_model.specs.declared.state.State.TheVariants.{Ready}
use Rattle.array_model.specs.declared.refusal.ArrayRefusal.{ArrayRefusal}
use Rattle.array_model.specs.declared.refusal.ArrayRefusal.TheVariants.{NoSlot}

module _ (g : Geometry) (q : State) (c : Contents) (m : store.Meaning) (l : intent.Meaning) (ready : q ≡ Ready) (k : ℕ) where
  abbrev before : Meaning
  before = array q c m l

  module _ (x : List ℕ) where
    abbrev Written : Meaning → Plain → Meaning → Type 0
    Written s r t = Checked (write_checks g k (length x) s) s r t ((r ≡ Ok tt) × (t ≡ with_caches (put_into k x s.caches) s))

    pub writes_no : (e : ArrayRefusal) → block_checks g k (length x) ≡ Some e → Writes g k x before (Err e) before
    writes_no e h =
        subst (λ p. InReady Written p before (Err e) before) (sym ready)
        (subst (λ o. options.MatchOption (option_or o (cond (no_slot_for k c) (Some (NoSlot k)) None)) ((◌≡◌ {A = Plain} (Err e) (Ok tt)) × (before ≡ with_caches (put_into k x c) before)) (λ d. Declines {A = Unit {0}} d before (Err e) before)) (sym h) (refl, refl))
