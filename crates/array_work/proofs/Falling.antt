-- How much the caches have yet to move: it falls with every destage that is not idle. Assumes nothing.
use Rattle.std.proofs.Common.{◌≡◌, ℕ, zero, suc, ◌+◌, ◌-◌, ◌*◌, ◌<◌, ◌≤◌, Bool, true, false, cond, ltb, List, is_some, Some, None, Option, sym, refl, ap, ◌∙◌, subst, ⊎_elim, mul-le-mul, arith}
use native.Mathlib.Decide.{ℕ_discrete}
use Rattle.std.proofs.lemmas.Bool.{cases_Bool, false≢true, ltb-true, lt-ltb, eq-eqb}
use Rattle.std.specs.Option.{option_map}
use Rattle.geometry.specs.Places.{data_blocks, stripe_of, position_of}
use Rattle.geometry.specs.declared.place.Location.{Location}
use Rattle.cache.specs.Contents.{Blocks, Contents, one_if, exchanged}
use Rattle.cache.specs.Stripes.{HasStripe, in_stripe, is_number, count_below, stripe_freed}
use Rattle.array_model.specs.declared.answer.Destage.TheVariants.{Moved, Changed}
use Rattle.array_work.specs.Draining.{After}

-- counts

one_most : (b : Bool) → one_if b ≤ 1
one_most true = omega arith
one_most false = omega arith

one_less : (b d : Bool) → (b ≡ true → d ≡ true) → one_if b ≤ one_if d
one_less false d h = omega arith
one_less true d h = subst (λ t. one_if true ≤ one_if t) (sym (h refl)) (omega arith)

pub count_most : (n : ℕ) (t : ℕ → Bool) → count_below n t ≤ n
count_most zero t = omega arith
count_most (suc n) t = let a = count_most n t in let b = one_most (t n) in omega arith

module _ (t u : ℕ → Bool) (sub : (k : ℕ) → t k ≡ true → u k ≡ true) where
  count_less : (n : ℕ) → count_below n t ≤ count_below n u
  count_less zero = omega arith
  count_less (suc n) = let a = count_less n in let b = one_less (t n) (u n) (sub n) in omega arith

  pub count_falls : (n k : ℕ) → k < n → t k ≡ false → u k ≡ true → count_below n t < count_below n u
  count_falls zero k h p q = absurd (omega arith)
  count_falls (suc n) k h p q = at (λ l. count_falls n k l p q) (ℕ_discrete k n)
    where
      at : (k < n → count_below n t < count_below n u) → Dec (k ≡ n) → count_below (suc n) t < count_below (suc n) u
      at f (yes e) =
          let a : one_if (t n) ≡ 0 = ap (λ (i : ℕ). one_if (t i)) (sym e) ∙ ap one_if p in
          let b : one_if (u n) ≡ 1 = ap (λ (i : ℕ). one_if (u i)) (sym e) ∙ ap one_if q in
          let d = count_less n in omega arith
      at f (no e) = let a = f (omega arith) in let b = one_less (t n) (u n) (sub n) in omega arith

count_none : (n : ℕ) (t : ℕ → Bool) → ((k : ℕ) → k < n → t k ≡ false) → count_below n t ≡ 0
count_none zero t h = refl
count_none (suc n) t h = let a = count_none n t (λ k l. h k (omega arith)) in let b : one_if (t n) ≡ 0 = ap one_if (h n (omega arith)) in omega arith

count_some : (n : ℕ) (t : ℕ → Bool) (k : ℕ) → k < n → t k ≡ true → 0 < count_below n t
count_some n t k h p = let a = count_falls (λ _. false) t (λ i e. absurd (false≢true e)) n k h refl p in omega arith

-- blocks of the array

module _ (m n : ℕ) where
  abbrev all_blocks : ℕ
  all_blocks = data_blocks m n

  abbrev Placed : Bool → ℕ → Option ℕ
  Placed b k = option_map (λ (l : Location). l.stripe) (cond b (Some (record { stripe = stripe_of m k; position = position_of m k })) None)

  in_array : (b : Bool) (k s : ℕ) → Placed b k ≡ Some s → b ≡ true
  in_array true k s h = refl
  in_array false k s h = cc

  below : (f : Blocks) (s : ℕ) (h : HasStripe m n f s) → h.0 < all_blocks
  below f s h = ltb-true h.0 all_blocks (in_array (ltb h.0 all_blocks) h.0 s h.2)

  abbrev held : Blocks → ℕ → Bool
  held f k = is_some (f k)

  -- what is buffered has to change places and to be moved, what is being destaged only to be moved
  abbrev pub left_in : Contents → ℕ
  left_in c = 2 * count_below all_blocks (held c.buffering) + count_below all_blocks (held c.destaging)

  pub left_most : (c : Contents) → left_in c ≤ 3 * all_blocks
  left_most c = let a = count_most all_blocks (held c.buffering) in let b = count_most all_blocks (held c.destaging) in omega arith

  still : (b : Bool) (o : Option (List ℕ)) → is_some (cond b None o) ≡ true → is_some o ≡ true
  still true o h = absurd (false≢true h)
  still false o h = h

  gone : (o : Option (List ℕ)) (b : Bool) → b ≡ true → is_some (cond b None o) ≡ false
  gone o b h = ap (λ t. is_some (cond t None o)) h

  moved_falls : (c : Contents) (s : ℕ) → HasStripe m n c.destaging s → left_in (stripe_freed m n s c) < left_in c
  moved_falls c s h =
      let inside : in_stripe m n s h.0 ≡ true = ap (is_number s) h.2 ∙ eq-eqb s s refl in
      let a = count_falls (held (stripe_freed m n s c).destaging) (held c.destaging) (λ k. still (in_stripe m n s k) (c.destaging k)) all_blocks h.0 (below c.destaging s h) (gone (c.destaging h.0) (in_stripe m n s h.0) inside) h.1 in
      omega arith

  none_held : (f : Blocks) → ((s : ℕ) → HasStripe m n f s → ⊥) → count_below all_blocks (held f) ≡ 0
  none_held f h = count_none all_blocks (held f) (λ k l. ⊎_elim (λ p. absurd (h (stripe_of m k) (k, p, ap (λ b. Placed b k) (lt-ltb k all_blocks l)))) (λ p. p) (cases_Bool (held f k)))

  changed_falls : (c : Contents) (s : ℕ) → ((i : ℕ) → HasStripe m n c.destaging i → ⊥) → HasStripe m n c.buffering s → left_in (exchanged c) < left_in c
  changed_falls c s e h =
      let a = none_held c.destaging e in
      let b = count_some all_blocks (held c.buffering) h.0 (below c.buffering s h) h.1 in
      omega arith

  -- by a move, by a change
  pub falls_moved : (c c' : Contents) (k : ℕ) → After m n c (Moved k) c' → left_in c' < left_in c
  falls_moved c c' k h = subst (λ x. left_in x < left_in c) (sym h.1) (moved_falls c k h.0)

  pub falls_changed : (c c' : Contents) (p : ℕ) → After m n c (Changed p) c' → left_in c' < left_in c
  falls_changed c c' p h = subst (λ x. left_in x < left_in c) (sym h.1.2) (changed_falls c h.1.1.0 h.0 h.1.1.1)

  pub few_left : (c : Contents) → m ≤ 8 → n ≤ 16777216 → left_in c ≤ 352321536
  few_left c p q =
      let a = left_most c in
      let b : m - 1 ≤ 7 = omega arith in
      let d : (m - 1) * n ≤ 7 * 16777216 = mul-le-mul b q in
      omega arith
