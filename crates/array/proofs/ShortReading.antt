-- Reads without one member, as what the array's call does. Assumes nothing.
use Rattle.std.proofs.Common.{◌≡◌, ℕ, Bool, true, false, cond, ◌&&◌, eqb, List, [], ◌∷◌, length, Some, None, Ok, Err, OnErr, sym, refl, ap, subst}
use Rattle.std.specs.Option as options
use Rattle.std.specs.Option.{option_or}
use Rattle.member_store.specs.Meaning as store
use Rattle.member_store.specs.Calls.{SameCounts}
use Rattle.intent_log.specs.Meaning as intent
use Rattle.cache.specs.Contents.{Contents}
use Rattle.stripe_work.specs.Work.{other_reads, reconstructed}
use Rattle.array_model.specs.Meaning.{Meaning, Geometry, array, named, stripe, home, holder, held}
use Rattle.array_model.specs.Checks.{block_checks, read_short_checks}
use Rattle.array_model.specs.Work.{devices, Declines}
use Rattle.array_model.specs.Calls.{Plain, Fetches, read_calls, InShort, ReadsWithout, ReadsShort}
use Rattle.array_model.specs.declared.state.State.{State}
use Rattle.array_model.specs.declared.state.State.TheVariants.{Fallen, Short}
use Rattle.array_model.specs.declared.refusal.ArrayRefusal.{ArrayRefusal}
use Rattle.array_model.specs.declared.refusal.ArrayRefusal.TheVariants.{StripeNamed}
use Rattle.array_work.specs.Outcomes.{state_told, state_after}
use Rattle.array.specs.Sound.{SoundIn}
use Rattle.array.proofs.Kept.{all_counts, short_still}

-- the checks, refused by those of a block call
module _ (g : Geometry) (d k n : ℕ) (s : Meaning) where
  pub short_no : (e : ArrayRefusal) → block_checks g k n ≡ Some e → read_short_checks g d k n s ≡ Some e
  short_no e h = ap (λ o. option_or o (cond (eqb (holder g k) d && named s (home g k)) (Some (StripeNamed (home g k))) None)) h

module _ (g : Geometry) (q : State) (c : Contents) (m : store.Meaning) (l : intent.Meaning) (d k : ℕ) (old new : List ℕ) where
  abbrev before : Meaning
  before = array q c m l

  abbrev ReadAs : ℕ → Meaning → Plain → Meaning → Type 0
  ReadAs i s r t = options.MatchOption (read_short_checks g i k (length old) s) (ReadsWithout g i k old new s r t) (λ e. Declines e s r t × (new ≡ old))

  pub reads_short_no : (e : ArrayRefusal) → q ≡ Short d → new ≡ old → read_short_checks g d k (length old) before ≡ Some e → ReadsShort g k old new before (Err e) before
  reads_short_no e short same h =
      subst (λ p. InShort ReadAs p before (Err e) before) (sym short)
      (subst (λ o. options.MatchOption o (ReadsWithout g d k old new before (Err e) before) (λ x. Declines {A = Unit {0}} x before (Err e) before × (new ≡ old))) (sym h) ((refl, refl), same))

  module _ (m' : store.Meaning) where
    abbrev Without : Bool → Plain → Meaning → Type 0
    Without b r t =
        cond b
        (Fetches (other_reads g.members (stripe g (home g k)).block d) (reconstructed g.members (stripe g (home g k)).block d m) old new before r t)
        (Fetches (read_calls g k) (held g m k) old new before r t)

    kept_by : (b : Bool) → Without b (Ok tt) (array q c m' l) → SameCounts m m'
    kept_by true w = all_counts (devices (other_reads g.members (stripe g (home g k)).block d) ∷ []) m l m' l w.0.1
    kept_by false w = all_counts (devices (read_calls g k) ∷ []) m l m' l w.0.1

    falls_by : (e : ArrayRefusal) (p : State) (b : Bool) → Without b (Err e) (array p c m' l) → p ≡ Fallen
    falls_by e p true w = ap (λ s. s.state) w.0.1
    falls_by e p false w = ap (λ s. s.state) w.0.1

    -- a read keeps the counts; refused, it leaves the array fallen
    pub without_sound : (sound : Type 0) (r : Plain) → q ≡ Short d → ReadsWithout g d k old new before r (array (state_after q r) c m' l) → SoundIn q sound m l → SoundIn (state_after q r) sound m' l
    without_sound sound (Ok u) short w h = short_still q d sound m m' l short (kept_by (eqb (holder g k) d) w) h
    without_sound sound (Err e) short w h = subst (λ x. SoundIn x sound m' l) (sym (falls_by e (state_told q e) (eqb (holder g k) d) w)) tt

-- a refused read leaves the buffer as it was
pub refused_keeps : (g : Geometry) (d k : ℕ) (old new : List ℕ) (s t : Meaning) (r : Plain) → ReadsWithout g d k old new s r t → OnErr r (new ≡ old)
refused_keeps g d k old new s t (Ok u) w = tt
refused_keeps g d k old new s t (Err e) w = go (eqb (holder g k) d) w
  where
    go : (b : Bool)
        → cond b (Fetches (other_reads g.members (stripe g (home g k)).block d) (reconstructed g.members (stripe g (home g k)).block d s.members) old new s (Err e) t) (Fetches (read_calls g k) (held g s.members k) old new s (Err e) t)
        → new ≡ old
    go true h = h.1
    go false h = h.1
