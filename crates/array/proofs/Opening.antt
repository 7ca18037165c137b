-- The openings. Assumes nothing.
use Rattle.std.proofs.Common.{◌≡◌, ℕ, ◌<◌, cond, Some, None, Ok, Err, Option, sym, refl, ap, subst}
use Rattle.std.proofs.lemmas.Bool.{lt-ltb}
use Rattle.std.specs.Option.{option_or}
use Rattle.member_store.specs.Meaning as store
use Rattle.intent_log.specs.Meaning as intent
use Rattle.cache.specs.Contents.{Contents}
use Rattle.array_model.specs.Meaning.{Meaning, Arrange, Geometry, geometry_on, array, in_state}
use Rattle.array_model.specs.Checks.{limits_check, member_check, open_checks, open_short_checks}
use Rattle.array_model.specs.Work.{Declines}
use Rattle.array_model.specs.Calls.{Plain, Checked, InDown, begun, Opens, OpensShort}
use Rattle.array_model.specs.declared.state.State.{State}
use Rattle.array_model.specs.declared.state.State.TheVariants.{Down, Resync, Short}
use Rattle.array_model.specs.declared.refusal.ArrayRefusal.{ArrayRefusal}
use Rattle.array_model.specs.declared.refusal.ArrayRefusal.TheVariants.{Limits, NoMember}
use Rattle.array.specs.Sound.{Sized, verdict}
use Rattle.array.proofs.Verdicts.{passed, refused}

module _ (g : Geometry) (q : State) (c : Contents) (m : store.Meaning) (l : intent.Meaning) where
  abbrev before : Meaning
  before = array q c m l

  abbrev Opened : Meaning → Plain → Meaning → Type 0
  Opened s r t = Checked (open_checks g s) s r t ((r ≡ Ok tt) × (t ≡ in_state (Resync begun) s))

  pub opens : q ≡ Down → ◌≡◌ {A = Plain} (Ok tt) (verdict (open_checks g before)) → Opens g before (Ok tt) (array (Resync begun) c m l)
  opens e h =
      subst (λ x. InDown Opened x before (Ok tt) (array (Resync begun) c m l)) (sym e)
      (passed _ (λ x. Declines x before (Ok tt) (array (Resync begun) c m l)) (open_checks g before) h (refl, refl))

  pub opens_no : (e : ArrayRefusal) → q ≡ Down → ◌≡◌ {A = Plain} (Err e) (verdict (open_checks g before)) → Opens g before (Err e) before
  opens_no e d h =
      subst (λ x. InDown Opened x before (Err e) before) (sym d)
      (refused _ (λ x. Declines x before (Err e) before) (open_checks g before) e h (refl, refl))

  module _ (d : ℕ) where
    abbrev OpenedShort : Meaning → Plain → Meaning → Type 0
    OpenedShort s r t = Checked (open_short_checks g d s) s r t ((r ≡ Ok tt) × (t ≡ in_state (Short d) s))

    pub opens_short : q ≡ Down → ◌≡◌ {A = Plain} (Ok tt) (verdict (open_short_checks g d before)) → OpensShort g d before (Ok tt) (array (Short d) c m l)
    opens_short e h =
        subst (λ x. InDown OpenedShort x before (Ok tt) (array (Short d) c m l)) (sym e)
        (passed _ (λ x. Declines x before (Ok tt) (array (Short d) c m l)) (open_short_checks g d before) h (refl, refl))

    pub opens_short_no : (e : ArrayRefusal) → q ≡ Down → ◌≡◌ {A = Plain} (Err e) (verdict (open_short_checks g d before)) → OpensShort g d before (Err e) before
    opens_short_no e k h =
        subst (λ x. InDown OpenedShort x before (Err e) before) (sym k)
        (refused _ (λ x. Declines x before (Err e) before) (open_short_checks g d before) e h (refl, refl))

-- the checks of the openings, once those before have passed
pub within_limits : (arrange : Arrange) (m : store.Meaning) (o : Option ArrayRefusal) → Sized m → verdict o ≡ verdict (option_or (limits_check (geometry_on arrange m)) o)
within_limits arrange m o z = ap (λ b. verdict (option_or (cond b None (Some (Limits m.members m.blocks))) o)) (sym z)

pub has_member : (g : Geometry) (d : ℕ) (o : Option ArrayRefusal) → d < g.members → verdict o ≡ verdict (option_or (member_check g d) o)
has_member g d o h = ap (λ b. verdict (option_or (cond b None (Some (NoMember d))) o)) (sym (lt-ltb d g.members h))
