-- A slot written over by a block that goes into the buffering cache. Assumes nothing.
use Rattle.std.proofs.Common.{◌≡◌, ℕ, zero, suc, ◌+◌, ◌<◌, true, false, cond, not, ◌&&◌, eqb, ◌⊎◌, List, [], ◌∷◌, length, get_or, take, drop, set, is_some, Some, None, Option, sym, refl, ap, ◌∙◌, inl, inr, arith}
use native.Mathlib.Decide.{ℕ_discrete}
use Rattle.std.specs.List.{position, count_by}
use Rattle.std.specs.Option.{is_none, option_or, MatchOption}
use Rattle.std.proofs.lemmas.List.Quantifiers.{position-Some}
use Rattle.std.proofs.lemmas.Bool.{false≢true, and_parts, and_left, and_right, eqb-true, eq-eqb, ne_eqb}
use Rattle.cache.specs.declared.slot.Cache.{Cache}
use Rattle.cache.specs.declared.slot.Cache.TheVariants.{Buffering, Destaging}
use Rattle.cache.specs.Contents.{put_into, no_slot_for, one_if}
use Rattle.cache.specs.Slots.{Slot, same, holds, blocks, each_once, contents_of}
use Rattle.cache.proofs.Lookups.{held, blocks_step, nowhere, found, none_passes}
use Rattle.cache.proofs.Once.{Once, once_rest, once_from, once_back, count_step, same_contents}
use Rattle.cache.proofs.Places.{none≢some}

buffering_alone : (o : Cache) → same o Buffering ≡ true → same o Destaging ≡ false
buffering_alone Buffering h = refl
buffering_alone Destaging h = absurd (false≢true h)

-- a slot passed over, and one that both lists begin with
passed : (o : Cache) (k : ℕ) (y : Slot) (ys : List Slot) → holds o k y ≡ false → blocks o (y ∷ ys) k ≡ blocks o ys k
passed o k y ys h = blocks_step o k y ys ∙ ap (λ q. cond q (held y) (blocks o ys k)) h

ahead : (o : Cache) (k : ℕ) (y : Slot) (ys zs : List Slot) → blocks o ys k ≡ blocks o zs k → blocks o (y ∷ ys) k ≡ blocks o (y ∷ zs) k
ahead o k y ys zs e = blocks_step o k y ys ∙ ap (λ z. cond (holds o k y) (held y) z) e ∙ sym (blocks_step o k y zs)

taken : (o : Cache) (k : ℕ) (y : Slot) → holds o k y ≡ true → is_none y ≡ false
taken o k None h = absurd (false≢true h)
taken o k (Some e) h = refl

one_free : (y : Slot) → is_none y ≡ true → ◌≡◌ {A = ℕ} (cond (is_none y) 1 0) 1
one_free None h = refl
one_free (Some e) h = absurd (false≢true h)

none_taken : (y : Slot) → is_none y ≡ false → ◌≡◌ {A = ℕ} (cond (is_none y) 1 0) 0
none_taken None h = absurd (false≢true (sym h))
none_taken (Some e) h = refl

module _ (b : ℕ) (x : List ℕ) where
  abbrev pub filled : Slot
  filled = Some (record { cache = Buffering; block = b; bytes = x })

  -- the slot may take block b: it has it, or is free
  abbrev pub Takes : Slot → Type 0
  Takes y = (holds Buffering b y ≡ true) ⊎ (is_none y ≡ true)

  not_other : (y : Slot) (k : ℕ) → Takes y → (k ≡ b → ⊥) → holds Buffering k y ≡ false
  not_other None k t ne = refl
  not_other (Some e) k (inl h) ne = and_right (same e.cache Buffering) (eqb e.block k) (ne_eqb e.block k (λ p. ne (sym p ∙ eqb-true e.block b (and_parts (same e.cache Buffering) (eqb e.block b) h).1)))
  not_other (Some e) k (inr h) ne = absurd (false≢true h)

  not_destaging : (y : Slot) (k : ℕ) → Takes y → holds Destaging k y ≡ false
  not_destaging None k t = refl
  not_destaging (Some e) k (inl h) = and_left (same e.cache Destaging) (eqb e.block k) (buffering_alone e.cache (and_parts (same e.cache Buffering) (eqb e.block b) h).0)
  not_destaging (Some e) k (inr h) = absurd (false≢true h)

  at_head : (y : Slot) (ys : List Slot) (k : ℕ) → Takes y → Dec (k ≡ b) → blocks Buffering (filled ∷ ys) k ≡ cond (eqb k b) (Some x) (blocks Buffering (y ∷ ys) k)
  at_head y ys k t (yes e) = ap (λ q. cond q (Some x) (blocks Buffering ys k)) (eq-eqb b k (sym e)) ∙ sym (ap (λ q. cond q (Some x) (blocks Buffering (y ∷ ys) k)) (eq-eqb k b e))
  at_head y ys k t (no e) = ap (λ q. cond q (Some x) (blocks Buffering ys k)) (ne_eqb b k (λ p. e (sym p))) ∙ sym (ap (λ q. cond q (Some x) (blocks Buffering (y ∷ ys) k)) (ne_eqb k b e) ∙ passed Buffering k y ys (not_other y k t e))

  after_head : (y : Slot) (k : ℕ) (l l' : Option (List ℕ)) → holds Buffering b y ≡ false → Dec (k ≡ b) → l' ≡ cond (eqb k b) (Some x) l → cond (holds Buffering k y) (held y) l' ≡ cond (eqb k b) (Some x) (cond (holds Buffering k y) (held y) l)
  after_head y k l l' h (yes e) p = ap (λ q. cond q (held y) l') (ap (λ (i : ℕ). holds Buffering i y) e ∙ h) ∙ p ∙ ap (λ q. cond q (Some x) l) (eq-eqb k b e) ∙ sym (ap (λ q. cond q (Some x) (cond (holds Buffering k y) (held y) l)) (eq-eqb k b e))
  after_head y k l l' h (no e) p = ap (λ z. cond (holds Buffering k y) (held y) z) (p ∙ ap (λ q. cond q (Some x) l) (ne_eqb k b e)) ∙ sym (ap (λ q. cond q (Some x) (cond (holds Buffering k y) (held y) l)) (ne_eqb k b e))

  head_none : (y : Slot) (ys : List Slot) → blocks Buffering (y ∷ ys) b ≡ None → (holds Buffering b y ≡ false) × (blocks Buffering ys b ≡ None)
  head_none None ys n = (refl, n)
  head_none (Some e) ys m = elim (holds Buffering b (Some e)) as (λ q. cond q (Some e.bytes) (blocks Buffering ys b) ≡ None → (q ≡ false) × (blocks Buffering ys b ≡ None)) [ true ↦ λ n. cc | false ↦ λ n. (refl, n) ] m

  put_blocks : (xs : List Slot) (i : ℕ) (d : Slot) (k : ℕ) → i < length xs → blocks Buffering (take i xs) b ≡ None → Takes (get_or xs i d) → blocks Buffering (set xs i filled) k ≡ cond (eqb k b) (Some x) (blocks Buffering xs k)
  put_blocks [] i d k l n t = absurd (omega arith)
  put_blocks (y ∷ ys) zero d k l n t = at_head y ys k t (ℕ_discrete k b)
  put_blocks (y ∷ ys) (suc i) d k l n t =
      let h = head_none y (take i ys) n in
      blocks_step Buffering k y (set ys i filled) ∙ after_head y k (blocks Buffering ys k) (blocks Buffering (set ys i filled) k) h.0 (ℕ_discrete k b) (put_blocks ys i d k (omega arith) h.1 t)
      ∙ ap (λ z. cond (eqb k b) (Some x) z) (sym (blocks_step Buffering k y ys))

  put_beside : (xs : List Slot) (i : ℕ) (d : Slot) (k : ℕ) → Takes (get_or xs i d) → blocks Destaging (set xs i filled) k ≡ blocks Destaging xs k
  put_beside [] i d k t = refl
  put_beside (y ∷ ys) zero d k t = sym (passed Destaging k y ys (not_destaging y k t))
  put_beside (y ∷ ys) (suc i) d k t = ahead Destaging k y (set ys i filled) ys (put_beside ys i d k t)

  -- the free slots
  put_free : (xs : List Slot) (i : ℕ) (d : Slot) → i < length xs → is_none (get_or xs i d) ≡ true → count_by is_none (set xs i filled) + 1 ≡ count_by is_none xs
  put_free [] i d l h = absurd (omega arith)
  put_free (y ∷ ys) zero d l h = let e = one_free y h in omega (arith, count_step)
  put_free (y ∷ ys) (suc i) d l h = let ih = put_free ys i d (omega arith) h in omega (arith, count_step)

  put_over : (xs : List Slot) (i : ℕ) (d : Slot) → holds Buffering b (get_or xs i d) ≡ true → count_by is_none (set xs i filled) ≡ count_by is_none xs
  put_over [] i d h = refl
  put_over (y ∷ ys) zero d h = let e = none_taken y (taken Buffering b y h) in omega (arith, count_step)
  put_over (y ∷ ys) (suc i) d h = let ih = put_over ys i d h in omega (arith, count_step)

  -- each block once: block b stands neither before the slot nor after it
  not_b : (c : Cache) (j : ℕ) → same c Buffering ≡ true → (same c Buffering && eqb j b) ≡ false → eqb j b ≡ false
  not_b c j s h = sym (ap (λ q. q && eqb j b) s) ∙ h

  put_once : (xs : List Slot) (i : ℕ) (d : Slot) → i < length xs → blocks Buffering (take i xs) b ≡ None → Takes (get_or xs i d) → blocks Buffering (drop (suc i) xs) b ≡ None → Once Buffering xs → Once Buffering (set xs i filled)
  put_once [] i d l n t m u = absurd (omega arith)
  put_once (y ∷ ys) zero d l n t m u = (λ _. m, once_rest Buffering y ys u)
  put_once (None ∷ ys) (suc i) d l n t m u = put_once ys i d (omega arith) n t m u
  put_once (Some e ∷ ys) (suc i) d l n t m u =
      let h = head_none (Some e) (take i ys) n in
      (λ s. put_blocks ys i d e.block (omega arith) h.1 t ∙ ap (λ q. cond q (Some x) (blocks Buffering ys e.block)) (not_b e.cache e.block s h.0) ∙ u.0 s, put_once ys i d (omega arith) h.1 t m u.1)

  put_once_beside : (xs : List Slot) (i : ℕ) (d : Slot) → Takes (get_or xs i d) → Once Destaging xs → Once Destaging (set xs i filled)
  put_once_beside [] i d t u = tt
  put_once_beside (y ∷ ys) zero d t u = (λ s. absurd (false≢true s), once_rest Destaging y ys u)
  put_once_beside (None ∷ ys) (suc i) d t u = put_once_beside ys i d t u
  put_once_beside (Some e ∷ ys) (suc i) d t u = (λ s. put_beside ys i d e.block t ∙ u.0 s, put_once_beside ys i d t u.1)

  -- where the slot has block b, no later slot has it
  after_found : (xs : List Slot) (i : ℕ) (d : Slot) → i < length xs → holds Buffering b (get_or xs i d) ≡ true → Once Buffering xs → blocks Buffering (drop (suc i) xs) b ≡ None
  after_found [] i d l h u = absurd (omega arith)
  after_found (None ∷ ys) zero d l h u = absurd (false≢true h)
  after_found (Some e ∷ ys) zero d l h u =
      let p = and_parts (same e.cache Buffering) (eqb e.block b) h in
      sym (ap (blocks Buffering ys) (eqb-true e.block b p.1)) ∙ u.0 p.0
  after_found (y ∷ ys) (suc i) d l h u = after_found ys i d (omega arith) h (once_rest Buffering y ys u)

  -- none in all, so none in the first ones and none in the last ones
  before_none : (xs : List Slot) (i : ℕ) → blocks Buffering xs b ≡ None → blocks Buffering (take i xs) b ≡ None
  before_none xs zero n = refl
  before_none [] (suc i) n = refl
  before_none (y ∷ ys) (suc i) n = let h = head_none y ys n in passed Buffering b y (take i ys) h.0 ∙ before_none ys i h.1

  after_none : (xs : List Slot) (i : ℕ) → blocks Buffering xs b ≡ None → blocks Buffering (drop i xs) b ≡ None
  after_none xs zero n = n
  after_none [] (suc i) n = refl
  after_none (y ∷ ys) (suc i) n = after_none ys i (head_none y ys n).1

none_free : (xs : List Slot) → ((i : ℕ) (d : Slot) → i < length xs → is_none (get_or xs i d) ≡ false) → count_by is_none xs ≡ 0
none_free [] h = refl
none_free (y ∷ ys) h = let a = none_taken y (h 0 None (omega arith)) in let b = none_free ys (λ i d l. h (suc i) d (omega arith)) in omega (arith, count_step)

-- what a put leaves
pub record Left (xs : List Slot) (b : ℕ) (x : List ℕ) (ys : List Slot) : Type 0 where
  pub means : contents_of ys ≡ put_into b x (contents_of xs)
  pub fits : no_slot_for b (contents_of xs) ≡ false
  pub buffered : each_once Buffering ys ≡ true
  pub destaged : each_once Destaging ys ≡ true

module _ (b : ℕ) (x : List ℕ) (xs : List Slot) where
  -- the slot that a put takes: that of a buffered copy, else the first free one
  abbrev pub chosen : Option ℕ
  chosen = option_or (position (holds Buffering b) xs) (position is_none xs)

  over : (i : ℕ) → each_once Buffering xs ≡ true → each_once Destaging xs ≡ true → position (holds Buffering b) xs ≡ Some i → Left xs b x (set xs i (filled b x))
  over i u v p =
      let f = found Buffering b xs i p in
      let h = f.has (filled b x) in
      let l = f.within in
      let o = put_over b x xs i (filled b x) h in
      let s : is_some (blocks Buffering xs b) ≡ true = shown (get_or xs i (filled b x)) h (f.bytes (filled b x)) in
      record {
        means = same_contents (λ k. put_blocks b x xs i (filled b x) k l f.first (inl h)) (λ k. put_beside b x xs i (filled b x) k (inl h)) (let z : one_if (not (is_some (blocks Buffering xs b))) ≡ 0 = ap (λ q. one_if (not q)) s in omega arith);
        fits = ap (λ q. not q && eqb (count_by is_none xs) 0) s;
        buffered = once_back Buffering (set xs i (filled b x)) (put_once b x xs i (filled b x) l f.first (inl h) (after_found b x xs i (filled b x) l h (once_from Buffering xs u)) (once_from Buffering xs u));
        destaged = once_back Destaging (set xs i (filled b x)) (put_once_beside b x xs i (filled b x) (inl h) (once_from Destaging xs v));
      }
    where
      shown : (y : Slot) → holds Buffering b y ≡ true → blocks Buffering xs b ≡ held y → is_some (blocks Buffering xs b) ≡ true
      shown None h e = absurd (false≢true h)
      shown (Some y) h e = ap is_some e

  new : (i : ℕ) → each_once Buffering xs ≡ true → each_once Destaging xs ≡ true → position (holds Buffering b) xs ≡ None → position is_none xs ≡ Some i → Left xs b x (set xs i (filled b x))
  new i u v p q =
      let n = nowhere Buffering b xs p in
      let r = position-Some is_none xs i (filled b x) q in
      let l = r.0 in
      let h = r.1 in
      let s : is_some (blocks Buffering xs b) ≡ false = ap is_some n in
      let o = put_free b x xs i (filled b x) l h in
      let m = before_none b x xs i n in
      record {
        means = same_contents (λ k. put_blocks b x xs i (filled b x) k l m (inr h)) (λ k. put_beside b x xs i (filled b x) k (inr h)) (let z : one_if (not (is_some (blocks Buffering xs b))) ≡ 1 = ap (λ t. one_if (not t)) s in omega arith);
        fits = and_right (not (is_some (blocks Buffering xs b))) (eqb (count_by is_none xs) 0) (ne_eqb (count_by is_none xs) 0 (λ e. omega arith));
        buffered = once_back Buffering (set xs i (filled b x)) (put_once b x xs i (filled b x) l m (inr h) (after_none b x xs (suc i) n) (once_from Buffering xs u));
        destaged = once_back Destaging (set xs i (filled b x)) (put_once_beside b x xs i (filled b x) (inr h) (once_from Destaging xs v));
      }

  pub put_leaves : (i : ℕ) → each_once Buffering xs ≡ true → each_once Destaging xs ≡ true → chosen ≡ Some i → Left xs b x (set xs i (filled b x))
  put_leaves i u v = go (position (holds Buffering b) xs) refl
    where
      go : (r : Option ℕ) → position (holds Buffering b) xs ≡ r → option_or r (position is_none xs) ≡ Some i → Left xs b x (set xs i (filled b x))
      go None p e = new i u v p e
      go (Some j) p e = over i u v (p ∙ e)

  pub chosen_within : (i : ℕ) → chosen ≡ Some i → i < length xs
  chosen_within i = go (position (holds Buffering b) xs) refl
    where
      go : (r : Option ℕ) → position (holds Buffering b) xs ≡ r → option_or r (position is_none xs) ≡ Some i → i < length xs
      go None p e = (position-Some is_none xs i None e).0
      go (Some j) p e = (position-Some (holds Buffering b) xs i None (p ∙ e)).0

  pub put_refused : chosen ≡ None → no_slot_for b (contents_of xs) ≡ true
  put_refused = go (position (holds Buffering b) xs) refl
    where
      go : (r : Option ℕ) → position (holds Buffering b) xs ≡ r → option_or r (position is_none xs) ≡ None → no_slot_for b (contents_of xs) ≡ true
      go (Some j) p e = absurd (none≢some (sym e))
      go None p e =
          ap (λ l. not (is_some l) && eqb (count_by is_none xs) 0) (nowhere Buffering b xs p) ∙ eq-eqb (count_by is_none xs) 0 (none_free xs (none_passes is_none xs e))

-- `or_else` gives the first that there is
pub or_else_is : (r q s : Option ℕ) → MatchOption r (s ≡ q) (λ i. s ≡ Some i) → s ≡ option_or r q
or_else_is None q s e = e
or_else_is (Some i) q s e = e
