-- Formatting. Assumes nothing.
use Rattle.std.proofs.Common.{◌≡◌, true, cond, Some, None, Ok, Err, sym, refl, ap, ◌∙◌, subst}
use Rattle.std.specs.Option as options
use Rattle.geometry.specs.Counts.{members_of, blocks_of}
use Rattle.geometry.specs.declared.shape.Shape.{Shape}
use Rattle.member_store.specs.Meaning as store
use Rattle.intent_log.specs.Meaning as intent
use Rattle.cache.specs.Contents.{Contents}
use Rattle.array_model.specs.Meaning.{Meaning, Arrange, Geometry, geometry_on, array}
use Rattle.array_model.specs.Checks.{limits_check}
use Rattle.array_model.specs.Work.{Declines, AllAccepted, FirstRefused, Performs}
use Rattle.array_model.specs.Calls.{Plain, Checked, InDown, format_actions, Formats}
use Rattle.array_model.specs.declared.state.State.{State}
use Rattle.array_model.specs.declared.state.State.TheVariants.{Fallen, Down}
use Rattle.array_model.specs.declared.refusal.ArrayRefusal.{ArrayRefusal}
use Rattle.array_model.specs.declared.refusal.ArrayRefusal.TheVariants.{Limits}
use Rattle.array_work.specs.Outcomes.{sized, Works, state_told, state_after}
use Rattle.array_work.proofs.Fetching.{fell}
use Rattle.array.specs.Sound.{Sized, SoundIn}
use Rattle.array.proofs.Kept.{shape_geometry}

module _ (arrange : Arrange) (q : State) (c : Contents) (m : store.Meaning) (l : intent.Meaning) (down : q ≡ Down) where
  abbrev before : Meaning
  before = array q c m l

  abbrev here : Geometry
  here = geometry_on arrange m

  abbrev Formatted : Meaning → Plain → Meaning → Type 0
  Formatted s r t = Checked (limits_check here) s r t (Performs (format_actions here) tt Down s.caches s r t)

  in_down : (r : Plain) (t : Meaning) → Formatted before r t → Formats here before r t
  in_down r t h = subst (λ x. InDown Formatted x before r t) (sym down) h

  checked : (r : Plain) (t : Meaning) → Sized m → Performs (format_actions here) tt Down c before r t → Formatted before r t
  checked r t z h = subst (λ b. options.MatchOption (cond b None (Some (Limits m.members m.blocks))) (Performs (format_actions here) tt Down c before r t) (λ e. Declines e before r t)) (sym z) h

  module _ (a : Shape) (z : Sized m) (p : members_of a ≡ m.members) (n : blocks_of a ≡ m.blocks) (m' : store.Meaning) (l' : intent.Meaning) where
    abbrev Worked : Plain → Type 0
    Worked r = Works (format_actions (sized arrange a)) tt m l r m' l'

    fallen : (e : ArrayRefusal) → Worked (Err e) → state_told q e ≡ Fallen
    fallen e h = fell q (format_actions (sized arrange a)) m l e m' l' h

    pub formats : (r : Plain) → Worked r → Formats here before r (array (state_after q r) c m' l')
    formats (Ok u) h =
        in_down (Ok tt) (array q c m' l')
        (checked (Ok tt) (array q c m' l') z (refl, subst (λ g. AllAccepted (format_actions g) m l m' l') (shape_geometry arrange a m p n) h.1, ap (λ x. array x c m' l') down))
    formats (Err e) h =
        subst (λ x. Formats here before (Err e) (array x c m' l')) (sym (fallen e h))
        (in_down (Err e) (array Fallen c m' l')
        (checked (Err e) (array Fallen c m' l') z (subst (λ g. FirstRefused (format_actions g) m l e m' l') (shape_geometry arrange a m p n) h, refl)))

    -- the log has power after a format
    still_on : AllAccepted (format_actions (sized arrange a)) m l m' l' → l'.on ≡ true
    still_on h = ap (λ k. k.on) h.3.3.3.1 ∙ h.3.3.2.1.1.on

    pub formatted_sound : (sound : Type 0) → sound → (r : Plain) → Worked r → SoundIn (state_after q r) sound m' l'
    formatted_sound sound s (Ok u) h = subst (λ x. SoundIn x sound m' l') (sym down) (s, still_on h.1)
    formatted_sound sound s (Err e) h = subst (λ x. SoundIn x sound m' l') (sym (fallen e h)) tt
