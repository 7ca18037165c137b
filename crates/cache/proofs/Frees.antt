-- The caches after a stripe of the destaging cache was freed. Assumes nothing.
use Rattle.std.proofs.Common.{◌≡◌, ℕ, zero, suc, ◌+◌, ◌-◌, ◌<◌, ◌≤◌, Bool, true, false, cond, ◌&&◌, eqb, List, [], ◌∷◌, map, length, is_some, Some, None, Option, sym, refl, ap, ◌∙◌, subst, arith}
use native.Mathlib.Decide.{ℕ_discrete}
use lib.ListN.{length-map}
use Rattle.std.proofs.lemmas.Bool.{eqb-true, eq-eqb, ne_eqb, both_ways}
use Rattle.std.specs.Option.{option_map}
use Rattle.geometry.specs.Places.{located, numbered}
use Rattle.geometry.specs.declared.place.Location.{Location}
use Rattle.std.specs.List.{count_by}
use Rattle.std.specs.Option.{is_none}
use Rattle.cache.specs.declared.slot.Cache.{Cache}
use Rattle.cache.specs.declared.slot.Cache.TheVariants.{Buffering, Destaging}
use Rattle.cache.specs.declared.slot.CachedBlock.{CachedBlock}
use Rattle.cache.specs.Contents.{Blocks, no_blocks, one_if}
use Rattle.cache.specs.Stripes.{is_number, in_stripe, HasStripe, looked_up, by_position, count_below, held_count, stripe_freed}
use Rattle.cache.specs.Slots.{Slot, same, blocks, each_once, contents_of, slot_freed}
use Rattle.cache.proofs.Once.{Once, once_from, once_back, count_step, same_contents}
use Rattle.cache.proofs.Places.{cond_none, number_from_place, place_from_number, some_injective}

-- one block more or less in a count of positions
same_count : (w : ℕ) (p q : ℕ → Bool) → ((i : ℕ) → i < w → q i ≡ p i) → count_below w q ≡ count_below w p
same_count zero p q h = refl
same_count (suc w) p q h =
    let a : one_if (q w) ≡ one_if (p w) = ap one_if (h w (omega arith)) in
    let b = same_count w p q (λ i l. h i (omega arith)) in
    omega arith

one_more : (w j : ℕ) (p q : ℕ → Bool) → j < w → p j ≡ false → q j ≡ true → ((i : ℕ) → (i ≡ j → ⊥) → q i ≡ p i) → count_below w q ≡ 1 + count_below w p
one_more zero j p q l a b h = absurd (omega arith)
one_more (suc w) j p q l a b h = go (ℕ_discrete j w) (λ k. one_more w j p q k a b h)
  where
    go : Dec (j ≡ w) → (j < w → count_below w q ≡ 1 + count_below w p) → count_below (suc w) q ≡ 1 + count_below (suc w) p
    go (yes e) ih =
        let c : one_if (q w) ≡ 1 = ap one_if (ap q (sym e) ∙ b) in
        let d : one_if (p w) ≡ 0 = ap one_if (ap p (sym e) ∙ a) in
        let s = same_count w p q (λ i k. h i (λ z. omega arith)) in
        omega arith
    go (no e) ih =
        let c : one_if (q w) ≡ one_if (p w) = ap one_if (h w (λ z. e (sym z))) in
        let s = ih (omega arith) in
        omega arith

-- one that passes
some_counted : (w j : ℕ) (p : ℕ → Bool) → j < w → p j ≡ true → 0 < count_below w p
some_counted zero j p l a = absurd (omega arith)
some_counted (suc w) j p l a = go (ℕ_discrete j w) (λ k. some_counted w j p k a)
  where
    go : Dec (j ≡ w) → (j < w → 0 < count_below w p) → 0 < count_below (suc w) p
    go (yes e) ih = let c : one_if (p w) ≡ 1 = ap one_if (ap p (sym e) ∙ a) in omega arith
    go (no e) ih = let s = ih (omega arith) in omega arith

-- a test of the blocks
module _ (t : ℕ → Bool) where
  -- how many slots it frees
  abbrev pub freed_count : List Slot → ℕ
  freed_count [] = 0
  freed_count (None ∷ es) = freed_count es
  freed_count (Some e ∷ es) = one_if (same e.cache Destaging && t e.block) + freed_count es

  -- the first slot, freed or not
  head_freed : (o : Cache) (w : Bool) (e : CachedBlock) (zs : List Slot) (k : ℕ) → blocks o (cond w None (Some e) ∷ zs) k ≡ cond w (blocks o zs k) (cond (same e.cache o && eqb e.block k) (Some e.bytes) (blocks o zs k))
  head_freed o true e zs k = refl
  head_freed o false e zs k = refl

  once_freed : (o : Cache) (w : Bool) (e : CachedBlock) (zs : List Slot) → (same e.cache o ≡ true → blocks o zs e.block ≡ None) → Once o zs → Once o (cond w None (Some e) ∷ zs)
  once_freed o true e zs a b = b
  once_freed o false e zs a b = (a, b)

  module _ (x : List ℕ) (l : Option (List ℕ)) where
    abbrev Either : Bool → Bool → Bool → Bool → Type 0
    Either q p w z = cond (q && p) (cond w None l) (cond (q && z) (Some x) (cond w None l)) ≡ cond w None (cond (q && z) (Some x) l)

    both : (q p z : Bool) → Either q p p z
    both false p z = refl
    both true true z = refl
    both true false z = refl

    off : (q p w : Bool) → Either q p w false
    off false p w = refl
    off true true w = refl
    off true false w = refl

    freed_at : (k b : ℕ) (q : Bool) → Dec (b ≡ k) → Either q (t b) (t k) (eqb b k)
    freed_at k b q (yes e) = subst (λ w. Either q (t b) w (eqb b k)) (ap t e) (both q (t b) (eqb b k))
    freed_at k b q (no e) = subst (λ z. Either q (t b) (t k) z) (sym (ne_eqb b k e)) (off q (t b) (t k))

    beside_at : (c : Cache) (p z : Bool) → cond (same c Destaging && p) l (cond (same c Buffering && z) (Some x) l) ≡ cond (same c Buffering && z) (Some x) l
    beside_at Buffering p z = refl
    beside_at Destaging true z = refl
    beside_at Destaging false z = refl

  freed_blocks : (k : ℕ) (xs : List Slot) → blocks Destaging (map (slot_freed t) xs) k ≡ cond (t k) None (blocks Destaging xs k)
  freed_blocks k [] = sym (cond_none (t k))
  freed_blocks k (None ∷ xs) = freed_blocks k xs
  freed_blocks k (Some e ∷ xs) =
      head_freed Destaging (same e.cache Destaging && t e.block) e (map (slot_freed t) xs) k
      ∙ ap (λ z. cond (same e.cache Destaging && t e.block) z (cond (same e.cache Destaging && eqb e.block k) (Some e.bytes) z)) (freed_blocks k xs)
      ∙ freed_at e.bytes (blocks Destaging xs k) k e.block (same e.cache Destaging) (ℕ_discrete e.block k)

  freed_beside : (k : ℕ) (xs : List Slot) → blocks Buffering (map (slot_freed t) xs) k ≡ blocks Buffering xs k
  freed_beside k [] = refl
  freed_beside k (None ∷ xs) = freed_beside k xs
  freed_beside k (Some e ∷ xs) =
      head_freed Buffering (same e.cache Destaging && t e.block) e (map (slot_freed t) xs) k
      ∙ ap (λ z. cond (same e.cache Destaging && t e.block) z (cond (same e.cache Buffering && eqb e.block k) (Some e.bytes) z)) (freed_beside k xs)
      ∙ beside_at e.bytes (blocks Buffering xs k) e.cache (t e.block) (eqb e.block k)

  freed_once : (xs : List Slot) → Once Destaging xs → Once Destaging (map (slot_freed t) xs)
  freed_once [] u = tt
  freed_once (None ∷ xs) u = freed_once xs u
  freed_once (Some e ∷ xs) u = once_freed Destaging (same e.cache Destaging && t e.block) e (map (slot_freed t) xs) (λ s. freed_blocks e.block xs ∙ ap (λ z. cond (t e.block) None z) (u.0 s) ∙ cond_none (t e.block)) (freed_once xs u.1)

  freed_once_beside : (xs : List Slot) → Once Buffering xs → Once Buffering (map (slot_freed t) xs)
  freed_once_beside [] u = tt
  freed_once_beside (None ∷ xs) u = freed_once_beside xs u
  freed_once_beside (Some e ∷ xs) u = once_freed Buffering (same e.cache Destaging && t e.block) e (map (slot_freed t) xs) (λ s. freed_beside e.block xs ∙ u.0 s) (freed_once_beside xs u.1)

  free_if : (w : Bool) (e : CachedBlock) → cond (is_none (cond w None (Some e))) 1 0 ≡ one_if w
  free_if true e = refl
  free_if false e = refl

  freed_free : (xs : List Slot) → count_by is_none (map (slot_freed t) xs) ≡ count_by is_none xs + freed_count xs
  freed_free [] = refl
  freed_free (None ∷ xs) = let b = freed_free xs in omega (arith, count_step)
  freed_free (Some e ∷ xs) = let a = free_if (same e.cache Destaging && t e.block) e in let b = freed_free xs in omega (arith, count_step)

-- the slots that a stripe has are as many as its positions that are held
module _ (m n : ℕ) (h : 3 ≤ m) (s : ℕ) where
  abbrev place : ℕ → Location
  place j = record { stripe = s; position = j }

  at_place : (b i : ℕ) → numbered m n (place i) ≡ Some b → in_stripe m n s b ≡ true
  at_place b i e = ap (λ o. is_number s (option_map (λ (l : Location). l.stripe) o)) (place_from_number m n h b (place i) e).0 ∙ eq-eqb s s refl

  its_place : (b : ℕ) → in_stripe m n s b ≡ true → (j : ℕ) × (located m n b ≡ Some (place j))
  its_place b = go (located m n b) refl
    where
      go : (o : Option Location) → located m n b ≡ o → is_number s (option_map (λ (l : Location). l.stripe) o) ≡ true → (j : ℕ) × (located m n b ≡ Some (place j))
      go None p e = absurd (both_ways false refl e)
      go (Some l) p e = (l.position, p ∙ ap (λ (i : ℕ). Some (record { stripe = i; position = l.position })) (eqb-true l.stripe s e))

  -- a stripe that has a block in the cache holds one at a position, so freeing it frees a slot
  pub held_some : (f : Blocks) → HasStripe m n f s → 0 < held_count m n f s
  held_some f z =
      let k = z.0 in
      let p = its_place k (ap (is_number s) z.2 ∙ eq-eqb s s refl) in
      let e = (number_from_place m n h k (place p.0) p.1).0 in
      some_counted (m - 1) p.0 (λ j. is_some (by_position m n f s j)) (place_from_number m n h k (place p.0) e).1 (ap (λ o. is_some (looked_up f o)) e ∙ z.1)

  -- f and the same with block b
  module _ (f : Blocks) (b : ℕ) (x : List ℕ) (none : f b ≡ None) where
    abbrev added : Blocks
    added k = cond (eqb b k) (Some x) (f k)

    elsewhere : (i : ℕ) (o : Option ℕ) → numbered m n (place i) ≡ o → (numbered m n (place i) ≡ Some b → ⊥) → is_some (looked_up added o) ≡ is_some (looked_up f o)
    elsewhere i None p ne = refl
    elsewhere i (Some k) p ne = ap (λ q. is_some (cond q (Some x) (f k))) (ne_eqb b k (λ e. ne (p ∙ ap Some (sym e))))

    count_outside : in_stripe m n s b ≡ false → held_count m n added s ≡ held_count m n f s
    count_outside z = same_count (m - 1) (λ j. is_some (by_position m n f s j)) (λ j. is_some (by_position m n added s j)) (λ i l. elsewhere i (numbered m n (place i)) refl (λ e. both_ways (in_stripe m n s b) z (at_place b i e)))

    count_inside : in_stripe m n s b ≡ true → held_count m n added s ≡ 1 + held_count m n f s
    count_inside z =
        let p = its_place b z in
        let e = (number_from_place m n h b (place p.0) p.1).0 in
        one_more (m - 1) p.0 (λ j. is_some (by_position m n f s j)) (λ j. is_some (by_position m n added s j)) (place_from_number m n h b (place p.0) e).1
        (ap (λ o. is_some (looked_up f o)) e ∙ ap is_some none)
        (ap (λ o. is_some (looked_up added o)) e ∙ ap (λ q. is_some (cond q (Some x) (f b))) (eq-eqb b b refl))
        (λ i ne. elsewhere i (numbered m n (place i)) refl (λ r. ne (ap (λ (l : Location). l.position) (some_injective (sym (place_from_number m n h b (place i) r).0 ∙ p.1)))))

    count_added : held_count m n added s ≡ one_if (in_stripe m n s b) + held_count m n f s
    count_added = go (in_stripe m n s b) refl
      where
        go : (q : Bool) → in_stripe m n s b ≡ q → held_count m n added s ≡ one_if q + held_count m n f s
        go true z = count_inside z
        go false z = let a = count_outside z in omega arith

  nothing_held : (w : ℕ) → count_below w (λ j. is_some (by_position m n no_blocks s j)) ≡ 0
  nothing_held zero = refl
  nothing_held (suc w) = let a : one_if (is_some (by_position m n no_blocks s w)) ≡ 0 = ap one_if (none_there (numbered m n (place w))) in let b = nothing_held w in omega arith
    where
      none_there : (o : Option ℕ) → is_some (looked_up no_blocks o) ≡ false
      none_there None = refl
      none_there (Some k) = refl

  pub freed_held : (xs : List Slot) → Once Destaging xs → freed_count (in_stripe m n s) xs ≡ held_count m n (blocks Destaging xs) s
  freed_held [] u = sym (nothing_held (m - 1))
  freed_held (None ∷ xs) u = freed_held xs u
  freed_held (Some e ∷ xs) u =
      let ih = freed_held xs u.1 in
      elim (same e.cache Destaging) as (λ q. (q ≡ true → blocks Destaging xs e.block ≡ None) → one_if (q && in_stripe m n s e.block) + freed_count (in_stripe m n s) xs ≡ held_count m n (λ k. cond (q && eqb e.block k) (Some e.bytes) (blocks Destaging xs k)) s) [
        | true ↦ λ z. let a = count_added (blocks Destaging xs) e.block e.bytes (z refl) in omega arith
        | false ↦ λ z. omega arith
      ] u.0

  pub freed_contents : (xs ys : List Slot) → ys ≡ map (slot_freed (in_stripe m n s)) xs → each_once Destaging xs ≡ true → contents_of ys ≡ stripe_freed m n s (contents_of xs)
  freed_contents xs ys e u =
      let t = in_stripe m n s in
      ap contents_of e ∙ same_contents (λ k. freed_beside t k xs) (λ k. freed_blocks t k xs) (let a = freed_free t xs in let b = freed_held xs (once_from Destaging xs u) in omega arith)

-- what the invariant asks
pub freed_length : (t : ℕ → Bool) (xs ys : List Slot) → ys ≡ map (slot_freed t) xs → length xs ≡ 32 → length ys ≡ 32
freed_length t xs ys e w = ap length e ∙ length-map xs (slot_freed t) ∙ w

pub freed_buffering : (t : ℕ → Bool) (xs ys : List Slot) → ys ≡ map (slot_freed t) xs → each_once Buffering xs ≡ true → each_once Buffering ys ≡ true
freed_buffering t xs ys e u = ap (each_once Buffering) e ∙ once_back Buffering (map (slot_freed t) xs) (freed_once_beside t xs (once_from Buffering xs u))

pub freed_destaging : (t : ℕ → Bool) (xs ys : List Slot) → ys ≡ map (slot_freed t) xs → each_once Destaging xs ≡ true → each_once Destaging ys ≡ true
freed_destaging t xs ys e u = ap (each_once Destaging) e ∙ once_back Destaging (map (slot_freed t) xs) (freed_once t xs (once_from Destaging xs u))
