-- A destage of the parts, as what the array's call does. Assumes nothing.
use Rattle.std.proofs.Common.{◌≡◌, ℕ, ◌<◌, Bool, true, false, cond, List, [], ◌∷◌, length, get_or, Some, None, Ok, Err, Option, Result, sym, refl, ap, ◌∙◌, subst, arith}
use Rattle.std.specs.Option as options
use Rattle.std.specs.Result as results
use Rattle.member_store.specs.Meaning as members
use Rattle.intent_log.specs.Meaning as intent
use Rattle.cache.specs.Contents.{Contents, exchanged}
use Rattle.cache.specs.Stripes.{HasStripe, Listed, by_position, stripe_freed}
use Rattle.stripe_work.specs.Work.{destage_calls}
use Rattle.array_model.specs.Meaning.{Meaning, Geometry, array, stripe}
use Rattle.array_model.specs.Work.{Action, devices, Performs, Declines}
use Rattle.array_model.specs.Checks.{all_named}
use Rattle.array_model.specs.Calls.{naming_actions, puts, ChangesCaches, MovesStripe}
use Rattle.array_model.specs.declared.answer.Destage.{Destage}
use Rattle.array_model.specs.declared.answer.Destage.TheVariants.{Moved, Changed, Idle}
use Rattle.array_model.specs.declared.state.State.TheVariants.{Ready}
use Rattle.array_model.specs.declared.refusal.ArrayRefusal.{ArrayRefusal}
use Rattle.array_model.specs.declared.refusal.ArrayRefusal.TheVariants.{LogSpent}
use Rattle.array_work.specs.Outcomes.{Works, Names, state_told, state_after}
use Rattle.array_work.specs.Draining.{After, Drained}
use Rattle.array_work.proofs.Fetching.{fell}

pub idles : (w : List ℕ) (s : Meaning) → length w ≡ 0 → ChangesCaches w s (Ok Idle) s
idles [] s h = (refl, refl)
idles (k ∷ ks) s h = absurd (omega arith)

module _ (c : Contents) (m : members.Meaning) (l : intent.Meaning) (m' : members.Meaning) (l' : intent.Meaning) where
  abbrev before : Meaning
  before = array Ready c m l

  abbrev Refusal? : Bool → Bool → Option ArrayRefusal
  Refusal? named spent = cond named None (cond spent (Some LogSpent) None)

  abbrev Named : Bool → Bool → List Action → ℕ → Result ℕ ArrayRefusal → Type 0
  Named named spent acts p r = options.MatchOption (Refusal? named spent) (Works acts p m l r m' l') (λ e. (r ≡ Err e) × (m' ≡ m) × (l' ≡ l))

  abbrev Changing : Bool → Bool → List Action → ℕ → Result Destage ArrayRefusal → Meaning → Type 0
  Changing named spent acts p r t = options.MatchOption (Refusal? named spent) (Performs acts (Changed p) Ready (exchanged c) before r t) (λ e. Declines e before r t)

  accepted : (named spent : Bool) (acts : List Action) (p q : ℕ) → Named named spent acts p (Ok q) → Changing named spent acts p (Ok (Changed q)) (array Ready (exchanged c) m' l')
  accepted true spent acts p q d = (ap Changed d.0, d.1, refl)
  accepted false false acts p q d = (ap Changed d.0, d.1, refl)
  accepted false true acts p q d = absurd (cc (d.0))

  refused : (named spent : Bool) (acts : List Action) (p : ℕ) (e : ArrayRefusal) → Named named spent acts p (Err e) → Changing named spent acts p (Err e) (array (state_told Ready e) c m' l')
  refused true spent acts p e d = (d, ap (λ x. array x c m' l') (fell Ready acts m l e m' l' d))
  refused false false acts p e d = (d, ap (λ x. array x c m' l') (fell Ready acts m l e m' l' d))
  refused false true acts p e d =
      let k : e ≡ LogSpent = cc (d.0) in
      (ap Err k, ap (λ x. array x c m' l') (ap (state_told Ready) k) ∙ ap (λ x. array Ready c x l') d.1 ∙ ap (λ x. array Ready c m x) d.2)

  pub changes : (w : List ℕ) (q : ℕ) → 0 < length w → Names w before (Ok q) m' l' → ChangesCaches w before (Ok (Changed q)) (array Ready (exchanged c) m' l')
  changes [] q h d = absurd (omega arith)
  changes (k ∷ ks) q h d = accepted (all_named before (k ∷ ks)) l.spent (naming_actions (k ∷ ks) before) (puts (k ∷ ks) before) q d

  pub declines : (w : List ℕ) (e : ArrayRefusal) → 0 < length w → Names w before (Err e) m' l' → ChangesCaches w before (Err e) (array (state_told Ready e) c m' l')
  declines [] e h d = absurd (omega arith)
  declines (k ∷ ks) e h d = refused (all_named before (k ∷ ks)) l.spent (naming_actions (k ∷ ks) before) (puts (k ∷ ks) before) e d

-- a stripe was moved, or its move was cut
module _ (g : Geometry) (c c' : Contents) (k : ℕ) (m : members.Meaning) (l : intent.Meaning) (m' : members.Meaning) where
  abbrev calls : List Action
  calls = devices (destage_calls (stripe g k) (by_position g.members g.blocks c.destaging k) m) ∷ []

  abbrev Left : Result Destage ArrayRefusal → Type 0
  Left r = results.MatchResult r (λ _. c' ≡ stripe_freed g.members g.blocks k c) (λ _. c' ≡ c)

  pub moves : (r : Result Destage ArrayRefusal) → Left r → Works calls (Moved k) m l r m' l → MovesStripe g k (array Ready c m l) r (array (state_after Ready r) c' m' l)
  moves (Ok a) h d = (d.0, d.1, ap (λ x. array Ready x m' l) h)
  moves (Err e) h d = (d, ap (λ x. array (state_told Ready e) x m' l) h ∙ ap (λ x. array x c m' l) (fell Ready calls m l e m' l d))

  pub moved_drains : (r : Result Destage ArrayRefusal) → Left r → Works calls (Moved k) m l r m' l → HasStripe g.members g.blocks c.destaging k → Drained g.members g.blocks c r c'
  moved_drains (Ok a) h d s = subst (λ b. After g.members g.blocks c b c') (sym d.0) (s, h)
  moved_drains (Err e) h d s = h

-- the first of a list of stripes
pub some_stripe : (m n : ℕ) (f : ℕ → Option (List ℕ)) (w : List ℕ) → Listed m n f w → 0 < length w → (s : ℕ) × HasStripe m n f s
some_stripe m n f w h l = (get_or w 0 0, h.cached 0 l)
