-- Blocks by number and by stripe and position, in a cache and in a list of stripes. Assumes nothing.
use Rattle.std.proofs.Common.{◌≡◌, ℕ, zero, suc, ◌-◌, ◌<◌, ◌≤◌, Bool, true, false, cond, ltb, List, [], ◌∷◌, length, get_or, is_some, Some, None, Option, sym, refl, ap, ◌∙◌, subst, inl, inr, arith}
use Rattle.std.proofs.lemmas.Option.{none-some, same_Some}
use Rattle.std.proofs.lemmas.Bool.{true≢false, ltb-true, lt-ltb, eq-eqb, ne_eqb, and_parts}
use Rattle.std.proofs.lemmas.Nat.{div-mul-add, mod-mul-add, div-add-mod'}
use Rattle.std.specs.Option.{option_map}
use Rattle.geometry.specs.Layouts.{Lawful}
use Rattle.geometry.specs.Places.{block_number}
use Rattle.geometry.specs.declared.place.Location.{Location}
use Rattle.geometry.proofs.Numbers.{number_below, stripe_below, position_below}
use Rattle.member_store.specs.Meaning as store
use Rattle.cache.specs.Contents.{Blocks, Contents}
use Rattle.cache.specs.Stripes.{stripe_of_block, in_stripe, is_number, HasStripe, Lowest, Listed, by_position, looked_up, stripe_freed}
use Rattle.array_model.specs.Meaning.{Meaning, named, Geometry, stripe_count, block_count, home, position}
use Rattle.array_model.specs.Checks.{all_named}

-- what a layout within the limits gives
pub record Facts (g : Geometry) : Type 0 where
  pub low : 3 ≤ g.members
  pub lawful : (s : ℕ) → Lawful g.members (g.arrange g.members s)

abbrev pub width : Geometry → ℕ
width g = g.members - 1

abbrev pub number : Geometry → ℕ → ℕ → ℕ
number g s j = block_number g.members s j

module _ (g : Geometry) (f : Facts g) where
  pub num_home : (s j : ℕ) → j < width g → home g (number g s j) ≡ s
  num_home s j l = div-mul-add s (width g) j l

  pub num_position : (s j : ℕ) → j < width g → position g (number g s j) ≡ j
  num_position s j l = mod-mul-add s (width g) j l

  pub num_back : (k : ℕ) → number g (home g k) (position g k) ≡ k
  num_back k = div-add-mod' k (width g)

  pub num_below : (s j : ℕ) → s < stripe_count g → j < width g → number g s j < block_count g
  num_below s j l k = number_below g.members g.blocks f.low s j l k

  pub home_below : (k : ℕ) → k < block_count g → home g k < stripe_count g
  home_below k l = stripe_below g.members g.blocks f.low k l

  pub position_below' : (k : ℕ) → position g k < width g
  position_below' k = position_below g.members g.blocks f.low k

  -- the stripe of a block of the array
  pub stripe_at_number : (s j : ℕ) → s < stripe_count g → j < width g → stripe_of_block g.members g.blocks (number g s j) ≡ Some s
  stripe_at_number s j l k =
      ap (λ (b : Bool). option_map (λ (p : Location). p.stripe) (cond b (Some (record { stripe = home g (number g s j); position = position g (number g s j) })) None))
      (lt-ltb (number g s j) (block_count g) (num_below s j l k))
      ∙ ap Some (num_home s j k)

  -- the place of a block with a stripe
  pub in_array : (k s : ℕ) → stripe_of_block g.members g.blocks k ≡ Some s → (k < block_count g) × (home g k ≡ s)
  in_array k s = go (ltb k (block_count g)) refl
    where
      go : (q : Bool) → ltb k (block_count g) ≡ q
          → option_map (λ (p : Location). p.stripe) (cond q (Some (record { stripe = home g k; position = position g k })) None) ≡ Some s → (k < block_count g) × (home g k ≡ s)
      go false e h = absurd (none-some s h)
      go true e h = (ltb-true k (block_count g) e, same_Some (home g k) s h)

  -- a cache by stripe and position
  pub by_number : (c : Blocks) (s j : ℕ) → s < stripe_count g → j < width g → by_position g.members g.blocks c s j ≡ c (number g s j)
  by_number c s j l k =
      ap (λ (b : Bool). looked_up c (cond b (cond (ltb j (width g)) (Some (number g s j)) None) None)) (lt-ltb s (stripe_count g) l)
      ∙ ap (λ (b : Bool). looked_up c (cond b (Some (number g s j)) None)) (lt-ltb j (width g) k)

  -- a block of the freed stripe is gone, the others are as they were
  pub freed_same : (s : ℕ) (c : Contents) (j : ℕ) → s < stripe_count g → j < width g → (stripe_freed g.members g.blocks s c).destaging (number g s j) ≡ None
  freed_same s c j l k =
      ap (λ (b : Bool). cond b None (c.destaging (number g s j))) (ap (is_number s) (stripe_at_number s j l k) ∙ eq-eqb s s refl)

  pub freed_other : (s : ℕ) (c : Contents) (t j : ℕ) → t < stripe_count g → j < width g → (t ≡ s → ⊥) → (stripe_freed g.members g.blocks s c).destaging (number g t j) ≡ c.destaging (number g t j)
  freed_other s c t j l k ne =
      ap (λ (b : Bool). cond b None (c.destaging (number g t j))) (ap (is_number s) (stripe_at_number t j l k) ∙ ne_eqb t s ne)

  pub freed_was : (s : ℕ) (c : Contents) (k : ℕ) (x : List ℕ) → (stripe_freed g.members g.blocks s c).destaging k ≡ Some x → c.destaging k ≡ Some x
  freed_was s c k x = go (in_stripe g.members g.blocks s k)
    where
      go : (q : Bool) → cond q None (c.destaging k) ≡ Some x → c.destaging k ≡ Some x
      go true e = absurd (none-some x e)
      go false e = e

  has_stripe : (c : Blocks) (s j : ℕ) (x : List ℕ) → s < stripe_count g → j < width g → c (number g s j) ≡ Some x → HasStripe g.members g.blocks c s
  has_stripe c s j x l k e = (number g s j, ap is_some e, stripe_at_number s j l k)

  option_none : (o : Option (List ℕ)) → ((x : List ℕ) → o ≡ Some x → ⊥) → o ≡ None
  option_none None h = refl
  option_none (Some x) h = absurd (h x refl)

  -- a cache with no stripe has no block of the array
  pub lowest_none : (c : Blocks) → Lowest g.members g.blocks c None → (s j : ℕ) → s < stripe_count g → j < width g → c (number g s j) ≡ None
  lowest_none c h s j l k = option_none (c (number g s j)) (λ x e. h s (has_stripe c s j x l k e))

  option_some : (o : Option (List ℕ)) → is_some o ≡ true → (x : List ℕ) × (o ≡ Some x)
  option_some None h = absurd (true≢false (sym h))
  option_some (Some x) h = (x, refl)

  -- the lowest stripe is one of the array, and the cache has a block of it
  pub lowest_some : (c : Blocks) (s : ℕ) → Lowest g.members g.blocks c (Some s) → (s < stripe_count g) × ((j : ℕ) × (j < width g) × ((x : List ℕ) × (c (number g s j) ≡ Some x)))
  lowest_some c s h =
      let k = h.0.0 in
      let p = in_array k s h.0.2 in
      let x = option_some (c k) h.0.1 in (
        subst (λ (n : ℕ). n < stripe_count g) p.1 (home_below k p.0),
        (position g k, position_below' k, (x.0, ap c (ap (λ (n : ℕ). number g n (position g k)) (sym p.1) ∙ num_back k) ∙ x.1)),
      )

  -- membership in a list, by index
  in_get_or : (w : List ℕ) (i : ℕ) → i < length w → store.In (get_or w i 0) w
  in_get_or [] i h = absurd (omega arith)
  in_get_or (x ∷ w) zero h = inl refl
  in_get_or (x ∷ w) (suc i) h = inr (in_get_or w i (omega arith))

  -- the list has the stripes of the cache's blocks
  pub listed_in : (c : Blocks) (w : List ℕ) → Listed g.members g.blocks c w → (s j : ℕ) (x : List ℕ) → s < stripe_count g → j < width g → c (number g s j) ≡ Some x → store.In s w
  listed_in c w h s j x l k e =
      let p = h.all s (has_stripe c s j x l k e) in
      subst (λ (n : ℕ). store.In n w) p.2 (in_get_or w p.0 p.1)

  -- a list with no stripe: the cache has no block of the array
  pub listed_none : (c : Blocks) → Listed g.members g.blocks c [] → (s j : ℕ) → s < stripe_count g → j < width g → c (number g s j) ≡ None
  listed_none c h s j l k = option_none (c (number g s j)) (λ x e. listed_in c [] h s j x l k e)

pub all_named_in : (s : Meaning) (w : List ℕ) → all_named s w ≡ true → (k : ℕ) → store.In k w → named s k ≡ true
all_named_in s [] h k i = absurd i
all_named_in s (n ∷ w) h k (inl e) = ap (named s) e ∙ (and_parts (named s n) (all_named s w) h).0
all_named_in s (n ∷ w) h k (inr i) = all_named_in s w (and_parts (named s n) (all_named s w) h).1 k i
