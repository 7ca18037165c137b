-- A block and its place in the array determine each other. Assumes nothing.
use Rattle.std.proofs.Common.{◌≡◌, ℕ, ◌-◌, ◌<◌, ◌≤◌, Bool, true, false, cond, ltb, Some, None, Option, unwrap_or, sym, refl, ap, ◌∙◌, subst, arith}
use Rattle.std.proofs.lemmas.Bool.{ltb-true}
use Rattle.geometry.specs.Places.{located, numbered, stripe_of, position_of, block_number, data_blocks}
use Rattle.geometry.specs.declared.place.Location.{Location}
use Rattle.geometry.proofs.Numbers.{stripe_below, locates, numbers}

pub none≢some : {A : Type 0} {x : A} → ◌≡◌ {A = Option A} None (Some x) → ⊥
none≢some p = let z : ◌≡◌ {A = ℕ} 0 1 = cc in omega arith

pub cond_none : {A : Type 0} (q : Bool) → ◌≡◌ {A = Option A} (cond q None None) None
cond_none true = refl
cond_none false = refl

pub some_injective : {A : Type 0} {x y : A} → Some x ≡ Some y → x ≡ y
some_injective {x = x} p = ap (λ o. unwrap_or o x) p

module _ (m n : ℕ) (h : 3 ≤ m) where
  pub number_from_place : (k : ℕ) (l : Location) → located m n k ≡ Some l → (numbered m n l ≡ Some k) × (l.stripe < n)
  number_from_place k l = go (ltb k (data_blocks m n)) refl
    where
      go : (q : Bool) → ltb k (data_blocks m n) ≡ q → cond q (Some (record { stripe = stripe_of m k; position = position_of m k })) None ≡ Some l → (numbered m n l ≡ Some k) × (l.stripe < n)
      go false p e = absurd (none≢some e)
      go true p e =
          let b = ltb-true k (data_blocks m n) p in
          let a : ◌≡◌ {A = Location} (record { stripe = stripe_of m k; position = position_of m k }) l = some_injective e in
          (ap (numbered m n) (sym a) ∙ (locates m n h k (m - 1) refl b).1, subst (λ (z : Location). z.stripe < n) a (stripe_below m n h k b))

  pub place_from_number : (k : ℕ) (l : Location) → numbered m n l ≡ Some k → (located m n k ≡ Some l) × (l.position < m - 1)
  place_from_number k l = go (ltb l.stripe n) refl
    where
      inner : (q : Bool) → ltb l.stripe n ≡ true → ltb l.position (m - 1) ≡ q → cond q (Some (block_number m l.stripe l.position)) None ≡ Some k → (located m n k ≡ Some l) × (l.position < m - 1)
      inner false s p e = absurd (none≢some e)
      inner true s p e =
          let a = ltb-true l.stripe n s in
          let b = ltb-true l.position (m - 1) p in
          (ap (located m n) (sym (some_injective e)) ∙ (numbers m n h l (m - 1) refl a b).1, b)

      go : (q : Bool) → ltb l.stripe n ≡ q → cond q (cond (ltb l.position (m - 1)) (Some (block_number m l.stripe l.position)) None) None ≡ Some k → (located m n k ≡ Some l) × (l.position < m - 1)
      go false s e = absurd (none≢some e)
      go true s e = inner (ltb l.position (m - 1)) s refl e
