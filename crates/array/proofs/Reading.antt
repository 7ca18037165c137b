-- Reads of a block, as what the array's calls do. Assumes nothing.
use Rattle.std.proofs.Common.{◌≡◌, ℕ, ◌<◌, cond, eqb, List, [], ◌∷◌, length, Some, None, Ok, Err, OnErr, Option, sym, refl, ap, ◌∙◌, subst, arith}
use Rattle.std.proofs.lemmas.Bool.{lt-ltb, eq-eqb}
use Rattle.std.specs.Option as options
use Rattle.std.specs.Option.{option_or}
use Rattle.geometry.specs.Counts.{members_of, blocks_of}
use Rattle.geometry.specs.Places.{data_blocks}
use Rattle.geometry.specs.declared.shape.Shape.{Shape}
use Rattle.member_store.specs.Meaning as store
use Rattle.member_store.specs.Calls.{SameCounts}
use Rattle.intent_log.specs.Meaning as intent
use Rattle.cache.specs.Contents.{Contents, newest}
use Rattle.array_model.specs.Meaning.{Meaning, Arrange, Geometry, geometry_on, array, held}
use Rattle.array_model.specs.Checks.{block_checks}
use Rattle.array_model.specs.Work.{devices, Declines}
use Rattle.array_model.specs.Calls.{Plain, Fetches, read_calls, InReady, ReadsNewest, Reads}
use Rattle.array_model.specs.declared.state.State.{State}
use Rattle.array_model.specs.declared.state.State.TheVariants.{Fallen, Ready}
use Rattle.array_model.specs.declared.refusal.ArrayRefusal.{ArrayRefusal}
use Rattle.array_model.specs.declared.refusal.ArrayRefusal.TheVariants.{NoBlock, WrongLength}
use Rattle.array_model.proofs.Cases.{ok≢err}
use Rattle.array_work.specs.Outcomes.{sized, state_told, state_after}
use Rattle.array.specs.Sound.{SoundIn}
use Rattle.array.proofs.Kept.{shape_geometry, counts_same, all_counts, ready_still}

-- the checks of a block call pass
passes : (g : Geometry) (k n : ℕ) → k < data_blocks g.members g.blocks → n ≡ 512 → block_checks g k n ≡ None
passes g k n h e =
    ap (λ b. option_or (cond b None (Some (NoBlock k))) (cond (eqb n 512) None (Some (WrongLength n)))) (lt-ltb k (data_blocks g.members g.blocks) h)
    ∙ ap (λ b. cond b None (Some (WrongLength n))) (eq-eqb n 512 e)

module _ (g : Geometry) (q : State) (c : Contents) (m : store.Meaning) (l : intent.Meaning) (k : ℕ) (old new : List ℕ) where
  abbrev before : Meaning
  before = array q c m l

  abbrev ReadAs : Meaning → Plain → Meaning → Type 0
  ReadAs s r t = options.MatchOption (block_checks g k (length old)) (ReadsNewest g k old new s r t) (λ e. Declines e s r t × (new ≡ old))

  pub reads_no : (e : ArrayRefusal) → q ≡ Ready → new ≡ old → block_checks g k (length old) ≡ Some e → Reads g k old new before (Err e) before
  reads_no e ready same h =
      subst (λ p. InReady ReadAs p before (Err e) before) (sym ready)
      (subst (λ o. options.MatchOption o (ReadsNewest g k old new before (Err e) before) (λ d. Declines {A = Unit {0}} d before (Err e) before × (new ≡ old))) (sym h) ((refl, refl), same))

  pub reads : (r : Plain) (t : Meaning) → q ≡ Ready → block_checks g k (length old) ≡ None → ReadsNewest g k old new before r t → Reads g k old new before r t
  reads r t ready h d =
      subst (λ p. InReady ReadAs p before r t) (sym ready)
      (subst (λ o. options.MatchOption o (ReadsNewest g k old new before r t) (λ e. Declines e before r t × (new ≡ old))) (sym h) d)

  module _ (m' : store.Meaning) where
    abbrev Newest : Option (List ℕ) → Plain → Meaning → Type 0
    Newest o r t = options.MatchOption o (Fetches (read_calls g k) (held g m k) old new before r t) (λ x. (r ≡ Ok tt) × (new ≡ x) × (t ≡ before))

    never : {A : Type 0} (e : ArrayRefusal) → ◌≡◌ {A = Plain} (Err e) (Ok tt) → A
    never e h = let z : ◌≡◌ {A = ℕ} 0 1 = cc in absurd (omega arith)

    kept_by : (o : Option (List ℕ)) → Newest o (Ok tt) (array q c m' l) → SameCounts m m'
    kept_by None d = all_counts (devices (read_calls g k) ∷ []) m l m' l d.0.1
    kept_by (Some x) d = counts_same m m' (ap (λ s. s.members) d.2)

    falls_by : (e : ArrayRefusal) (p : State) (o : Option (List ℕ)) → Newest o (Err e) (array p c m' l) → p ≡ Fallen
    falls_by e p None d = ap (λ s. s.state) d.0.1
    falls_by e p (Some x) d = never e d.0

    -- a read keeps the counts; refused, it leaves the array fallen
    pub read_sound : (sound : Type 0) (r : Plain) → q ≡ Ready → ReadsNewest g k old new before r (array (state_after q r) c m' l) → SoundIn q sound m l → SoundIn (state_after q r) sound m' l
    read_sound sound (Ok u) ready d h = ready_still q sound m m' l ready (kept_by (newest k c) d) h
    read_sound sound (Err e) ready d h = subst (λ x. SoundIn x sound m' l) (sym (falls_by e (state_told q e) (newest k c) d)) tt

-- a read of a block that there is, in an array with the counts of the members
module _ (arrange : Arrange) (a : Shape) (q : State) (c : Contents) (m : store.Meaning) (l : intent.Meaning) (k : ℕ) (old new : List ℕ) (p : members_of a ≡ m.members) (n : blocks_of a ≡ m.blocks) (there : k < data_blocks (members_of a) (blocks_of a)) (whole : length old ≡ 512) where
  pub reads_by : (r : Plain) (t : Meaning) → q ≡ Ready → ReadsNewest (sized arrange a) k old new (array q c m l) r t → Reads (geometry_on arrange m) k old new (array q c m l) r t
  reads_by r t ready d =
      subst (λ g. Reads g k old new (array q c m l) r t) (shape_geometry arrange a m p n)
      (reads (sized arrange a) q c m l k old new r t ready (passes (sized arrange a) k (length old) there whole) d)

-- a refused read leaves the buffer as it was
pub refused_keeps : (g : Geometry) (k : ℕ) (old new : List ℕ) (s t : Meaning) (r : Plain) → ReadsNewest g k old new s r t → OnErr r (new ≡ old)
refused_keeps g k old new s t (Ok u) w = tt
refused_keeps g k old new s t (Err e) w = go (newest k s.caches) w
  where
    go : (o : Option (List ℕ)) → options.MatchOption o (Fetches (read_calls g k) (held g s.members k) old new s (Err e) t) (λ x. (◌≡◌ {A = Plain} (Err e) (Ok tt)) × (new ≡ x) × (t ≡ s)) → new ≡ old
    go None h = h.1
    go (Some x) h = absurd (ok≢err (sym h.0))
