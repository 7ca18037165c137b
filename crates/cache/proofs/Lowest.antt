-- The stripes of a cache, found slot by slot. Assumes nothing.
use Rattle.std.proofs.Common.{min, ◌≡◌, ℕ, ◌+◌, ◌<◌, ◌≤◌, Bool, true, false, cond, ◌&&◌, eqb, leb, ◌⊎◌, List, [], ◌∷◌, length, get_or, take, set, is_some, Some, None, Option, sym, refl, ap, ◌∙◌, subst, inl, inr, ⊎_elim, arith, get_or-set_other, get_or-set_same}
use native.Mathlib.Decide.{ℕ_discrete}
use Rattle.std.proofs.lemmas.List.{get_or-take, length-take-le}
use Rattle.std.proofs.lemmas.Bool.{false≢true, and_parts, and_from, eqb-true, eq-eqb, le-leb, lt-leb, leb-true, cases_Bool, cases_lt}
use Rattle.std.specs.Option.{option_map}
use Rattle.std.specs.List.{filter, filter_map, cons_option, fold, reduce}
use Rattle.geometry.specs.Places.{located}
use Rattle.geometry.specs.declared.place.Location.{Location}
use Rattle.cache.specs.declared.slot.Cache.{Cache}
use Rattle.cache.specs.declared.slot.CachedBlock.{CachedBlock}
use Rattle.cache.specs.Contents.{Blocks, one_if}
use Rattle.cache.specs.Stripes.{stripe_of_block, HasStripe, Lowest, Listed}
use Rattle.cache.specs.Slots.{Slot, same, blocks}
use Rattle.cache.specs.Searches.{slot_stripe, LowestFrom, lower}
use Rattle.cache.proofs.Places.{number_from_place, none≢some, some_injective}

-- a number of a list, and the least of them
abbrev pub Among : List ℕ → ℕ → Type 0
Among [] s = ⊥
Among (y ∷ ys) s = (y ≡ s) ⊎ Among ys s

record Least (a : ℕ) (ys : List ℕ) (t : ℕ) : Type 0 where
  pub first : t ≤ a
  pub others : (s : ℕ) → Among ys s → t ≤ s
  pub one : (t ≡ a) ⊎ Among ys t

least : (a : ℕ) (ys : List ℕ) → Least a ys (fold min a ys)
least a [] = record { first = omega arith; others = λ s z. elim z [ ]; one = inl refl }
least a (y ∷ ys) =
    let r = least (min a y) ys in
    record {
      first = let f = r.first in omega arith;
      others = λ s z. ⊎_elim (λ e. let f = r.first in omega arith) (λ w. r.others s w) z;
      one = ⊎_elim (λ e. ⊎_elim (λ l. inl (let f : min a y ≡ a = omega arith in e ∙ f)) (λ l. inr (inl (let f : min a y ≡ y = omega arith in sym (e ∙ f)))) (cases_lt a y)) (λ w. inr (inr w)) r.one;
    }

-- the least of the numbers from n on of which P holds
lowest_of : (P : ℕ → Type 0) (n : ℕ) (ys : List ℕ) → ((s : ℕ) → Among ys s → (n ≤ s) × P s) → ((s : ℕ) → P s → n ≤ s → Among ys s) → LowestFrom P n (reduce min ys)
lowest_of P n [] from to = λ s z. ⊎_elim (λ l. l) (λ l. elim (to s z l) [ ]) (cases_lt s n)
lowest_of P n (y ∷ ys) from to =
    let r = least y ys in
    let one = ⊎_elim (λ (e : fold min y ys ≡ y). subst (λ (i : ℕ). (n ≤ i) × P i) (sym e) (from y (inl refl))) (λ w. from (fold min y ys) (inr w)) r.one in
    (one.0, one.1, λ s z l. ⊎_elim (λ e. let f = r.first in omega arith) (λ w. r.others s w) (to s z l))

-- the lower of each number and those before it is the least of all
lower_some : (a : ℕ) (ys : List ℕ) → fold (λ t s. Some (lower t s)) (Some a) ys ≡ Some (fold min a ys)
lower_some a [] = refl
lower_some a (y ∷ ys) = lower_some (min a y) ys

pub lower_all : (ys : List ℕ) → fold (λ t s. Some (lower t s)) None ys ≡ reduce min ys
lower_all [] = refl
lower_all (y ∷ ys) = lower_some y ys

-- a slot has number s
module _ {A : Type 0} (g : A → Option ℕ) where
  abbrev pub Any : List A → ℕ → Type 0
  Any [] s = ⊥
  Any (e ∷ es) s = (g e ≡ Some s) ⊎ Any es s

  -- the numbers from n on
  abbrev pub numbers_from : ℕ → List A → List ℕ
  numbers_from n xs = filter (λ s. leb n s) (filter_map g xs)

  module _ (n : ℕ) (x : A) (xs : List A) (s : ℕ) where
    more_any : (Among (numbers_from n xs) s → (n ≤ s) × Any xs s) → (o : Option ℕ) → g x ≡ o → Among (filter (λ (i : ℕ). leb n i) (cons_option o (filter_map g xs))) s → (n ≤ s) × Any (x ∷ xs) s
    more_any ih None p = λ z. let r = ih z in (r.0, inr r.1)
    more_any ih (Some u) p = go (leb n u) refl
      where
        go : (q : Bool) → leb n u ≡ q → Among (cond q (u ∷ numbers_from n xs) (numbers_from n xs)) s → (n ≤ s) × Any (x ∷ xs) s
        go true h (inl e) = let l = leb-true n u h in (omega arith, inl (p ∙ ap Some e))
        go true h (inr z) = let r = ih z in (r.0, inr r.1)
        go false h z = let r = ih z in (r.0, inr r.1)

    more_among : Among (numbers_from n xs) s → (o : Option ℕ) → Among (filter (λ (i : ℕ). leb n i) (cons_option o (filter_map g xs))) s
    more_among z None = z
    more_among z (Some u) = go (leb n u)
      where
        go : (q : Bool) → Among (cond q (u ∷ numbers_from n xs) (numbers_from n xs)) s
        go true = inr z
        go false = z

  among_any : (n : ℕ) (xs : List A) (s : ℕ) → Among (numbers_from n xs) s → (n ≤ s) × Any xs s
  among_any n [] s z = elim z [ ]
  among_any n (x ∷ xs) s z = more_any n x xs s (among_any n xs s) (g x) refl z

  any_among : (n : ℕ) (xs : List A) (s : ℕ) → Any xs s → n ≤ s → Among (numbers_from n xs) s
  any_among n [] s z l = elim z [ ]
  any_among n (x ∷ xs) s (inl e) l =
      subst (λ o. Among (filter (λ (i : ℕ). leb n i) (cons_option o (filter_map g xs))) s) (sym e)
      (subst (λ q. Among (cond q (s ∷ numbers_from n xs) (numbers_from n xs)) s) (sym (le-leb n s l)) (inl refl))
  any_among n (x ∷ xs) s (inr z) l = more_among n x xs s (any_among n xs s z l) (g x)

  lowest_any : (n : ℕ) (xs : List A) → LowestFrom (Any xs) n (reduce min (numbers_from n xs))
  lowest_any n xs = lowest_of (Any xs) n (numbers_from n xs) (among_any n xs) (any_among n xs)

  -- how many slots have a number from n on
  abbrev pub reaches : ℕ → Option ℕ → Bool
  reaches n None = false
  reaches n (Some s) = leb n s

  abbrev pub above : ℕ → List A → ℕ
  above n [] = 0
  above n (e ∷ es) = one_if (reaches n (g e)) + above n es

  one_at_most : (q : Bool) → one_if q ≤ 1
  one_at_most true = omega arith
  one_at_most false = omega arith

  pub above_length : (n : ℕ) (es : List A) → above n es ≤ length es
  above_length n [] = omega arith
  above_length n (e ∷ es) = let a = one_at_most (reaches n (g e)) in let b = above_length n es in omega arith

  head_less : (n m : ℕ) (o : Option ℕ) → n ≤ m → one_if (reaches m o) ≤ one_if (reaches n o)
  head_less n m None h = omega arith
  head_less n m (Some s) h = ⊎_elim (λ q. let e : leb n s ≡ true = le-leb n s (let z = leb-true m s q in omega arith) in let a : one_if (leb n s) ≡ 1 = ap one_if e in let b : one_if (leb m s) ≡ 1 = ap one_if q in omega arith) (λ q. let b : one_if (leb m s) ≡ 0 = ap one_if q in omega arith) (cases_Bool (leb m s))

  above_less : (n m : ℕ) (es : List A) → n ≤ m → above m es ≤ above n es
  above_less n m [] h = omega arith
  above_less n m (e ∷ es) h = let a = head_less n m (g e) h in let b = above_less n m es h in omega arith

  -- the slot of t counts no more from t + 1 on
  above_falls : (n t : ℕ) (es : List A) → n ≤ t → Any es t → above (t + 1) es + 1 ≤ above n es
  above_falls n t [] h c = elim c [ ]
  above_falls n t (x ∷ es) h (inl c) =
      let a : one_if (reaches n (g x)) ≡ 1 = ap (λ o. one_if (reaches n o)) c ∙ ap one_if (le-leb n t h) in
      let b : one_if (reaches (t + 1) (g x)) ≡ 0 = ap (λ o. one_if (reaches (t + 1) o)) c ∙ ap one_if (lt-leb (t + 1) t (omega arith)) in
      let z = above_less n (t + 1) es (omega arith) in
      omega arith
  above_falls n t (x ∷ es) h (inr c) = let a = head_less n (t + 1) (g x) (omega arith) in let b = above_falls n t es h c in omega arith

-- a stripe of the cache is that of a slot
module _ (m n : ℕ) (o : Cache) where
  slot_of_stripe : (e : CachedBlock) (s : ℕ) → slot_stripe m n o (Some e) ≡ Some s → (same e.cache o ≡ true) × (stripe_of_block m n e.block ≡ Some s)
  slot_of_stripe e s = elim (same e.cache o) as (λ q. cond q (stripe_of_block m n e.block) None ≡ Some s → (q ≡ true) × (stripe_of_block m n e.block ≡ Some s)) [ true ↦ λ h. (refl, h) | false ↦ λ h. absurd (none≢some h) ]

  has_from_any : (xs : List Slot) (s : ℕ) → Any (slot_stripe m n o) xs s → HasStripe m n (blocks o xs) s
  has_from_any [] s h = elim h [ ]
  has_from_any (None ∷ xs) s (inl h) = absurd (none≢some h)
  has_from_any (None ∷ xs) s (inr h) = has_from_any xs s h
  has_from_any (Some e ∷ xs) s (inl h) =
      let p = slot_of_stripe e s h in
      (e.block, ap (λ q. is_some (cond q (Some e.bytes) (blocks o xs e.block))) (and_from (same e.cache o) (eqb e.block e.block) p.0 (eq-eqb e.block e.block refl)), p.1)
  has_from_any (Some e ∷ xs) s (inr h) =
      let z = has_from_any xs s h in
      (z.0, elim (same e.cache o && eqb e.block z.0) as (λ q. is_some (cond q (Some e.bytes) (blocks o xs z.0)) ≡ true) [ true ↦ refl | false ↦ z.1 ], z.2)

  any_from_has : (xs : List Slot) (s : ℕ) → HasStripe m n (blocks o xs) s → Any (slot_stripe m n o) xs s
  any_from_has [] s h = absurd (false≢true h.1)
  any_from_has (None ∷ xs) s h = inr (any_from_has xs s h)
  any_from_has (Some e ∷ xs) s h =
      ⊎_elim
      (λ q. let p = and_parts (same e.cache o) (eqb e.block h.0) q in inl (ap (λ z. cond z (stripe_of_block m n e.block) None) p.0 ∙ ap (stripe_of_block m n) (eqb-true e.block h.0 p.1) ∙ h.2))
      (λ q. inr (any_from_has xs s (h.0, sym (ap (λ z. is_some (cond z (Some e.bytes) (blocks o xs h.0))) q) ∙ h.1, h.2)))
      (cases_Bool (same e.cache o && eqb e.block h.0))

  lowest_same : (xs : List Slot) (f : ℕ) (r : Option ℕ) → LowestFrom (Any (slot_stripe m n o) xs) f r → LowestFrom (HasStripe m n (blocks o xs)) f r
  lowest_same xs f None c = λ s z. c s (any_from_has xs s z)
  lowest_same xs f (Some t) c = (c.0, has_from_any xs t c.1, λ s z l. c.2 s (any_from_has xs s z) l)

  pub lowest_stripe : (xs : List Slot) (f : ℕ) (r : Option ℕ) → r ≡ reduce min (numbers_from (slot_stripe m n o) f xs) → LowestFrom (HasStripe m n (blocks o xs)) f r
  lowest_stripe xs f r e = lowest_same xs f r (subst (LowestFrom (Any (slot_stripe m n o) xs) f) (sym e) (lowest_any (slot_stripe m n o) f xs))

-- after its lowest stripe from a number on, fewer slots have one
pub stripes_fall : (m n : ℕ) (o : Cache) (xs : List Slot) (from t : ℕ) → LowestFrom (HasStripe m n (blocks o xs)) from (Some t) → above (slot_stripe m n o) (t + 1) xs + 1 ≤ above (slot_stripe m n o) from xs
stripes_fall m n o xs from t h = above_falls (slot_stripe m n o) from t xs h.0 (any_from_has m n o xs t h.1)

-- no stripe of the cache lies outside the array
pub stripe_small : (m n : ℕ) → 3 ≤ m → (f : Blocks) (s : ℕ) → HasStripe m n f s → s < n
stripe_small m n h f s z = go (located m n z.0) refl z.2
  where
    go : (o : Option Location) → located m n z.0 ≡ o → option_map (λ (l : Location). l.stripe) o ≡ Some s → s < n
    go None p e = absurd (none≢some e)
    go (Some l) p e = let a = (number_from_place m n h z.0 l p).1 in let b : l.stripe ≡ s = some_injective e in omega arith

pub lowest_from_zero : (m n : ℕ) (f : Blocks) (r : Option ℕ) → LowestFrom (HasStripe m n f) 0 r → Lowest m n f r
lowest_from_zero m n f None c = λ s z. let a = c s z in omega arith
lowest_from_zero m n f (Some t) c = (c.1, λ s z. c.2 s z (omega arith))

-- the first n of ys are the numbers below f of which P holds, rising
pub record Listing (P : ℕ → Type 0) (f n : ℕ) (ys : List ℕ) : Type 0 where
  pub rising : (i j : ℕ) → i < j → j < n → get_or ys i 0 < get_or ys j 0
  pub below : (i : ℕ) → i < n → get_or ys i 0 < f
  pub cached : (i : ℕ) → i < n → P (get_or ys i 0)
  pub all : (s : ℕ) → P s → s < f → (i : ℕ) × (i < n) × (get_or ys i 0 ≡ s)

pub listing_none : (P : ℕ → Type 0) (ys : List ℕ) → Listing P 0 0 ys
listing_none P ys = record {
  rising = λ i j a b. absurd (omega arith);
  below = λ i a. absurd (omega arith);
  cached = λ i a. absurd (omega arith);
  all = λ s z a. absurd (omega arith);
}

module _ (P : ℕ → Type 0) (f n : ℕ) (ys : List ℕ) (c : Listing P f n ys) where
  pub listing_more : (t : ℕ) → n < length ys → LowestFrom P f (Some t) → Listing P (t + 1) (n + 1) (set ys n t)
  listing_more t l h = record {
    rising = λ i j a b. rise i j a b (ℕ_discrete j n);
    below = λ i a. under i a (ℕ_discrete i n);
    cached = λ i a. from i a (ℕ_discrete i n);
    all = λ s z a. whole s z (cases_lt s f) a;
  }
    where
      new : get_or (set ys n t) n 0 ≡ t
      new = get_or-set_same ys n t 0 l

      old : (i : ℕ) → (i ≡ n → ⊥) → get_or (set ys n t) i 0 ≡ get_or ys i 0
      old i p = get_or-set_other ys n i t 0 p

      rise : (i j : ℕ) → i < j → j < n + 1 → Dec (j ≡ n) → get_or (set ys n t) i 0 < get_or (set ys n t) j 0
      rise i j a b (yes p) =
          let x : get_or (set ys n t) j 0 ≡ t = ap (λ (q : ℕ). get_or (set ys n t) q 0) p ∙ new in
          let y = old i (λ q. omega arith) in
          let z = c.below i (omega arith) in
          let u = h.0 in
          omega arith
      rise i j a b (no p) = let x = old i (λ q. omega arith) in let y = old j p in let z = c.rising i j a (omega arith) in omega arith

      under : (i : ℕ) → i < n + 1 → Dec (i ≡ n) → get_or (set ys n t) i 0 < t + 1
      under i a (yes p) = let x : get_or (set ys n t) i 0 ≡ t = ap (λ (q : ℕ). get_or (set ys n t) q 0) p ∙ new in omega arith
      under i a (no p) = let x = old i p in let z = c.below i (omega arith) in let u = h.0 in omega arith

      from : (i : ℕ) → i < n + 1 → Dec (i ≡ n) → P (get_or (set ys n t) i 0)
      from i a (yes p) = subst P (sym (ap (λ (q : ℕ). get_or (set ys n t) q 0) p ∙ new)) h.1
      from i a (no p) = subst P (sym (old i p)) (c.cached i (omega arith))

      whole : (s : ℕ) → P s → (s < f) ⊎ (f ≤ s) → s < t + 1 → (i : ℕ) × (i < n + 1) × (get_or (set ys n t) i 0 ≡ s)
      whole s z (inl b) a = let u = c.all s z b in let v : u.0 < n = u.1 in (u.0, omega arith, old u.0 (λ q. omega arith) ∙ u.2)
      whole s z (inr b) a = let u = h.2 s z b in (n, omega arith, new ∙ (let e : t ≡ s = omega arith in e))

pub listing_all : (m n : ℕ) (f : Blocks) (from count : ℕ) (ys : List ℕ) → length ys ≡ 32 → count ≤ 32 → Listing (HasStripe m n f) from count ys → LowestFrom (HasStripe m n f) from None → Listed m n f (take count ys)
listing_all m n f from count ys e l c h =
    let w = length-take-le count ys (omega arith) in
    record {
      few = omega arith;
      rising = λ i j a b. let u : j < count = omega arith in let v : i < count = omega arith in let x = get_or-take count ys i 0 v in let y = get_or-take count ys j 0 u in let z = c.rising i j a u in omega arith;
      cached = λ i a. let v : i < count = omega arith in subst (HasStripe m n f) (sym (get_or-take count ys i 0 v)) (c.cached i v);
      all = λ s z. let u = c.all s z (h s z) in let v : u.0 < count = u.1 in (u.0, omega arith, get_or-take count ys u.0 0 v ∙ u.2);
    }
