-- Lists of versions: the last one, and what is among them.
use Rattle.std.proofs.Common.{◌≡◌, Bool, true, false, cond, ◌⊎◌, List, [], ◌∷◌, ◌++◌, sym, refl, ◌∙◌, inl, inr, ⊎_elim}
use Rattle.std.proofs.lemmas.Bool.{false≢true}
use Rattle.member_store.specs.Meaning.{last_or, In}

module _ {X : Type 0} where
  pub last_push : (d : X) (vs : List X) (x : X) → last_or d (vs ++ x ∷ []) ≡ x
  last_push d [] x = refl
  last_push d (v ∷ vs) x = last_push v vs x

  pub in_push : (v : X) (vs : List X) (x : X) → In v (vs ++ x ∷ []) → In v vs ⊎ (v ≡ x)
  in_push v [] x (inl e) = inr e
  in_push v [] x (inr h) = elim h [ ]
  in_push v (w ∷ vs) x (inl e) = inl (inl e)
  in_push v (w ∷ vs) x (inr h) = ⊎_elim (λ k. inl (inr k)) inr (in_push v vs x h)

  pub in_front : (v : X) (vs : List X) (x : X) → In v vs → In v (vs ++ x ∷ [])
  in_front v [] x h = elim h [ ]
  in_front v (w ∷ vs) x (inl e) = inl e
  in_front v (w ∷ vs) x (inr h) = inr (in_front v vs x h)

  pub in_last : (v : X) (vs : List X) (x : X) → v ≡ x → In v (vs ++ x ∷ [])
  in_last v [] x e = inl e
  in_last v (w ∷ vs) x e = inr (in_last v vs x e)

  -- a version more, where q says so
  pub last_cond : (q : Bool) (d : X) (vs : List X) (x c : X) → (q ≡ true → c ≡ x) → (q ≡ false → c ≡ last_or d vs) → c ≡ last_or d (cond q (vs ++ x ∷ []) vs)
  last_cond true d vs x c f g = f refl ∙ sym (last_push d vs x)
  last_cond false d vs x c f g = g refl

  pub in_cond : (q : Bool) (vs : List X) (x v : X) → In v (cond q (vs ++ x ∷ []) vs) → In v vs ⊎ ((q ≡ true) × (v ≡ x))
  in_cond true vs x v h = ⊎_elim inl (λ e. inr (refl, e)) (in_push v vs x h)
  in_cond false vs x v h = inl h

  pub cond_in : (q : Bool) (vs : List X) (x v : X) → In v vs ⊎ ((q ≡ true) × (v ≡ x)) → In v (cond q (vs ++ x ∷ []) vs)
  cond_in true vs x v (inl h) = in_front v vs x h
  cond_in true vs x v (inr e) = in_last v vs x e.1
  cond_in false vs x v (inl h) = h
  cond_in false vs x v (inr e) = absurd (false≢true e.0)
