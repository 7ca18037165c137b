-- Lists of blocks but one, made row by row. Assumes nothing.
use Rattle.std.proofs.Common.{◌≡◌, ℕ, zero, suc, ◌+◌, ◌-◌, ◌<◌, ◌≤◌, List, [], ◌∷◌, ◌++◌, cond, length, take, set, sym, refl, ap, ◌∙◌, subst, ⊎_elim, arith}
use Rattle.std.proofs.lemmas.List.{take_more_set}
use Rattle.std.proofs.lemmas.List.FromFn.{length-map-range_with_len}
use Rattle.std.proofs.lemmas.Bool.{cases_lt, lt-ltb, le-ltb}
use Rattle.geometry.specs.Layouts.{restarted}
use Rattle.parity.specs.Xor.{without}
use Rattle.stripe_work.specs.Stripe.{listed}
use Rattle.stripe_work.proofs.Rows.{listed_more}

without_push : (d : ℕ) (xs : List (List ℕ)) (y : List ℕ) → (length xs ≡ d → ⊥) → without d (xs ++ y ∷ []) ≡ without d xs ++ y ∷ []
without_push zero [] y ne = absurd (ne refl)
without_push (suc d) [] y ne = refl
without_push zero (x ∷ xs) y ne = refl
without_push (suc d) (x ∷ xs) y ne = ap (λ l. x ∷ l) (without_push d xs y (λ e. ne (ap suc e)))

without_last : (d : ℕ) (xs : List (List ℕ)) (y : List ℕ) → length xs ≡ d → without d (xs ++ y ∷ []) ≡ without d xs
without_last zero [] y e = refl
without_last (suc d) [] y e = absurd (omega arith)
without_last zero (x ∷ xs) y e = absurd (omega arith)
without_last (suc d) (x ∷ xs) y e = ap (λ l. x ∷ l) (without_last d xs y (omega arith))

module _ (d : ℕ) where
  -- row r holds what the next member has, past the absent one
  abbrev pub next : ℕ → ℕ
  next r = restarted d r

  next_before : (r : ℕ) → r < d → next r ≡ r
  next_before r l = ap (λ q. cond q r (r + 1)) (lt-ltb r d l)

  next_after : (r : ℕ) → d ≤ r → next r ≡ r + 1
  next_after r l = ap (λ q. cond q r (r + 1)) (le-ltb r d l)

  pub next_other : (r : ℕ) → next r ≡ d → ⊥
  next_other r e = ⊎_elim (λ l. let k = next_before r l in omega arith) (λ l. let k = next_after r l in omega arith) (cases_lt r d)

  pub next_last : (m : ℕ) → d < m → next (m - 1) ≡ m
  next_last m h = let k = next_after (m - 1) (omega arith) in omega arith

  pub next_below : (m r : ℕ) → d < m → r < m - 1 → next r < m
  next_below m r h l = ⊎_elim (λ q. let k = next_before r q in omega arith) (λ q. let k = next_after r q in omega arith) (cases_lt r d)

  -- what holds past row r holds before row r + 1, and what holds before member 0 before row 0, where the absent one changes nothing
  pub next_row : (P : ℕ → Type 0) → (P d → P (d + 1)) → (r : ℕ) → P (next r + 1) → P (next (r + 1))
  next_row P skip r h =
      ⊎_elim
      (λ l. let k = next_before r l in
      ⊎_elim
      (λ q. let j = next_before (r + 1) q in subst P (omega arith) h)
      (λ q. let j = next_after (r + 1) q in let e : next r + 1 ≡ d = omega arith in let f : d + 1 ≡ next (r + 1) = omega arith in subst P f (skip (subst P e h)))
      (cases_lt (r + 1) d))
      (λ l. let k = next_after r l in let j = next_after (r + 1) (omega arith) in subst P (omega arith) h)
      (cases_lt r d)

  pub first_row : (P : ℕ → Type 0) → (P d → P (d + 1)) → P 0 → P (next 0)
  first_row P skip h =
      ⊎_elim
      (λ l. let k = next_before 0 l in subst P (sym k) h)
      (λ l. let k = next_after 0 l in let e : 0 ≡ d = omega arith in let f : d + 1 ≡ next 0 = omega arith in subst P f (skip (subst P e h)))
      (cases_lt 0 d)

module _ (f : ℕ → List ℕ) (d : ℕ) where
  abbrev rest : ℕ → List (List ℕ)
  rest n = without d (listed f n)

  -- one member more: the absent one, and another
  pub rest_absent : (t : ℕ) → t ≡ d → rest (t + 1) ≡ rest t
  rest_absent t e = ap (without d) (listed_more f t) ∙ without_last d (listed f t) (f t) (length-map-range_with_len f 0 t ∙ e)

  pub rest_more : (t : ℕ) → (t ≡ d → ⊥) → rest (t + 1) ≡ rest t ++ f t ∷ []
  rest_more t ne = ap (without d) (listed_more f t) ∙ without_push d (listed f t) (f t) (λ e. ne (sym (length-map-range_with_len f 0 t) ∙ e))

  -- one row more
  pub more_row : (rows : List (List ℕ)) (r : ℕ) (x : List ℕ) → r < length rows → take r rows ≡ rest (next d r) → x ≡ f (next d r) → take (r + 1) (set rows r x) ≡ rest (next d (r + 1))
  more_row rows r x l h e =
      next_row d (λ n. take (r + 1) (set rows r x) ≡ rest n) (λ q. q ∙ sym (rest_absent d refl)) r
      (take_more_set rows r x l ∙ ap (λ k. k ++ x ∷ []) h ∙ ap (λ y. rest (next d r) ++ y ∷ []) e ∙ sym (rest_more (next d r) (next_other d r)))
