-- Held stores over versions: what a replay keeps.
use Rattle.std.specs.Prelude.{◌≡◌, ℕ, Bool, true, false, cond, ◌⊎◌, List, [], ◌∷◌, ◌++◌, length, refl}
use Rattle.std.proofs.Common.{sym, ap, ◌∙◌, inl, inr, ⊎_elim}
use Rattle.std.proofs.lemmas.Bool.{true≢false, and_parts, and_from, eqb-true, eq-eqb, both_ways}
use Rattle.member_store.specs.Meaning.{last_or, In}
use Rattle.member_store.proofs.Versions.{last_push, in_cond, cond_in}
use Rattle.write_buffer.specs.Replay.{is_to, holds, replay}
use Rattle.write_buffer.specs.declared.held.HeldStore.{HeldStore}

pub is_to_true : (h : HeldStore) (m b : ℕ) → is_to h m b ≡ true → (m ≡ h.at.member) × (b ≡ h.at.block)
is_to_true h m b e =
    let p = and_parts _ _ e in
    (sym (eqb-true h.at.member m p.0), sym (eqb-true h.at.block b p.1))

pub is_to_from : (h : HeldStore) (m b : ℕ) → (m ≡ h.at.member) × (b ≡ h.at.block) → is_to h m b ≡ true
is_to_from h m b p = and_from _ _ (eq-eqb h.at.member m (sym p.0)) (eq-eqb h.at.block b (sym p.1))

pub is_to_false : (h : HeldStore) (m b : ℕ) → is_to h m b ≡ false → (m ≡ h.at.member) × (b ≡ h.at.block) → ⊥
is_to_false h m b e p = both_ways _ e (is_to_from h m b p)

module _ (m b : ℕ) where
  -- one held store over versions
  abbrev step : HeldStore → List (List ℕ) → List (List ℕ)
  step h vs = cond (is_to h m b) (vs ++ h.bytes ∷ []) vs

  step_last : (h : HeldStore) (vs ws : List (List ℕ)) → last_or [] vs ≡ last_or [] ws → last_or [] (step h vs) ≡ last_or [] (step h ws)
  step_last h vs ws e = elim (is_to h m b) as (λ q. last_or [] (cond q (vs ++ h.bytes ∷ []) vs) ≡ last_or [] (cond q (ws ++ h.bytes ∷ []) ws)) [ true ↦ last_push [] vs h.bytes ∙ sym (last_push [] ws h.bytes) | false ↦ e ]

  step_in : (h : HeldStore) (vs ws : List (List ℕ)) → ((v : List ℕ) → In v vs → In v ws) → (v : List ℕ) → In v (step h vs) → In v (step h ws)
  step_in h vs ws f v k = cond_in (is_to h m b) ws h.bytes v (⊎_elim (λ a. inl (f v a)) inr (in_cond (is_to h m b) vs h.bytes v k))

  pub replay_last : (hs : List HeldStore) (vs ws : List (List ℕ)) → last_or [] vs ≡ last_or [] ws → last_or [] (replay m b hs vs) ≡ last_or [] (replay m b hs ws)
  replay_last [] vs ws e = e
  replay_last (h ∷ hs) vs ws e = replay_last hs (step h vs) (step h ws) (step_last h vs ws e)

  pub replay_in : (hs : List HeldStore) (vs ws : List (List ℕ)) → ((v : List ℕ) → In v vs → In v ws) → (v : List ℕ) → In v (replay m b hs vs) → In v (replay m b hs ws)
  replay_in [] vs ws f = f
  replay_in (h ∷ hs) vs ws f = replay_in hs (step h vs) (step h ws) (step_in h vs ws f)

  -- what was there stays
  pub replay_grows : (hs : List HeldStore) (vs : List (List ℕ)) (v : List ℕ) → In v vs → In v (replay m b hs vs)
  replay_grows [] vs v k = k
  replay_grows (h ∷ hs) vs v k = replay_grows hs (step h vs) v (cond_in (is_to h m b) vs h.bytes v (inl k))

  step_stands : (h : HeldStore) (vs : List (List ℕ)) → In (last_or [] vs) vs → In (last_or [] (step h vs)) (step h vs)
  step_stands h vs k = elim (is_to h m b) as (λ q. In (last_or [] (cond q (vs ++ h.bytes ∷ []) vs)) (cond q (vs ++ h.bytes ∷ []) vs)) [ true ↦ cond_in true vs h.bytes _ (inr (refl, last_push [] vs h.bytes)) | false ↦ k ]

  pub replay_stands : (hs : List HeldStore) (vs : List (List ℕ)) → In (last_or [] vs) vs → In (last_or [] (replay m b hs vs)) (replay m b hs vs)
  replay_stands [] vs k = k
  replay_stands (h ∷ hs) vs k = replay_stands hs (step h vs) (step_stands h vs k)

  -- a store held last
  pub replay_push : (hs : List HeldStore) (h : HeldStore) (vs : List (List ℕ)) → replay m b (hs ++ h ∷ []) vs ≡ cond (is_to h m b) (replay m b hs vs ++ h.bytes ∷ []) (replay m b hs vs)
  replay_push [] h vs = refl
  replay_push (g ∷ hs) h vs = replay_push hs h (step g vs)

  -- every version is as long as it was
  pub replay_whole : (hs : List HeldStore) (vs : List (List ℕ)) → ((v : List ℕ) → In v vs → length v ≡ 512) → (v : List ℕ) → In v (replay m b hs vs) → length v ≡ 512
  replay_whole [] vs f = f
  replay_whole (h ∷ hs) vs f = replay_whole hs (step h vs) (λ v k. ⊎_elim (f v) (λ e. ap length e.1 ∙ h.whole) (in_cond (is_to h m b) vs h.bytes v k))

  -- a version under held stores is one of those before them, or one that they add
  pub replay_split : (hs : List HeldStore) (vs : List (List ℕ)) (v : List ℕ) → In v (replay m b hs vs) → In v vs ⊎ In v (replay m b hs [])
  replay_split [] vs v k = inl k
  replay_split (h ∷ hs) vs v k =
      ⊎_elim
      (λ j. ⊎_elim inl (λ e. inr (replay_grows hs (step h []) v (cond_in (is_to h m b) [] h.bytes v (inr e)))) (in_cond (is_to h m b) vs h.bytes v j))
      (λ j. inr (replay_in hs [] (step h []) (λ w e. absurd e) v j))
      (replay_split hs (step h vs) v k)

  -- versions that the held stores add anyway may be there before them
  pub replay_absorbs : (hs : List HeldStore) (vs ws : List (List ℕ)) → ((v : List ℕ) → In v vs → In v (replay m b hs ws)) → (v : List ℕ) → In v (replay m b hs vs) → In v (replay m b hs ws)
  replay_absorbs hs vs ws f v k = ⊎_elim (f v) (λ j. replay_in hs [] ws (λ w e. absurd e) v j) (replay_split hs vs v k)

  -- no held store is to this block
  pub replay_none : (hs : List HeldStore) (vs : List (List ℕ)) → holds hs m b ≡ false → replay m b hs vs ≡ vs
  replay_none [] vs e = refl
  replay_none (h ∷ hs) vs e = none_cond (is_to h m b) hs vs h.bytes e (replay_none hs vs) where
    none_cond : (q : Bool) (hs : List HeldStore) (vs : List (List ℕ)) (x : List ℕ) → cond q true (holds hs m b) ≡ false → (holds hs m b ≡ false → replay m b hs vs ≡ vs) → replay m b hs (cond q (vs ++ x ∷ []) vs) ≡ vs
    none_cond true hs vs x e f = absurd (true≢false e)
    none_cond false hs vs x e f = f e

  pub holds_push : (hs : List HeldStore) (h : HeldStore) → holds (hs ++ h ∷ []) m b ≡ cond (holds hs m b) true (is_to h m b)
  holds_push [] h = elim (is_to h m b) as (λ q. cond q true false ≡ q) [ true ↦ refl | false ↦ refl ]
  holds_push (g ∷ hs) h = elim (is_to g m b) as (λ q. cond q true (holds (hs ++ h ∷ []) m b) ≡ cond (cond q true (holds hs m b)) true (is_to h m b)) [ true ↦ refl | false ↦ holds_push hs h ]
