-- A block looked for slot by slot. Assumes nothing.
use Rattle.std.proofs.Common.{◌≡◌, ℕ, ◌<◌, Bool, true, false, cond, ltb, List, ◌∷◌, length, get_or, take, Some, None, Option, sym, refl, ap, ◌∙◌, arith}
use Rattle.std.specs.List.{position, position_or_len}
use Rattle.std.proofs.lemmas.List.{get_or-take, length-take-le}
use Rattle.std.proofs.lemmas.List.Sums.{fails_before_first}
use Rattle.std.proofs.lemmas.List.Quantifiers.{position-Some}
use Rattle.std.proofs.lemmas.List.Recursion.{found_at, found_nowhere}
use Rattle.std.proofs.lemmas.Bool.{ltb-false}
use Rattle.cache.specs.declared.slot.Cache.{Cache}
use Rattle.cache.specs.Slots.{Slot, holds, blocks}
use Rattle.cache.proofs.Places.{none≢some}

-- the bytes in a slot
abbrev pub held : Slot → Option (List ℕ)
held None = None
held (Some e) = Some e.bytes

pub blocks_step : (o : Cache) (k : ℕ) (y : Slot) (ys : List Slot) → blocks o (y ∷ ys) k ≡ cond (holds o k y) (held y) (blocks o ys k)
blocks_step o k None ys = refl
blocks_step o k (Some e) ys = refl

-- no element passes
pub none_passes : {X : Type 0} (p : X → Bool) (xs : List X) → position p xs ≡ None → (i : ℕ) (d : X) → i < length xs → p (get_or xs i d) ≡ false
none_passes {X} p xs h i d l = go (ltb (position_or_len p xs) (length xs)) refl h
  where
    go : (q : Bool) → ltb (position_or_len p xs) (length xs) ≡ q → ◌≡◌ {A = Option ℕ} (cond q (Some (position_or_len p xs)) None) None → p (get_or xs i d) ≡ false
    go true e z = absurd (none≢some (sym z))
    go false e z = fails_before_first p xs i d (let b = ltb-false (position_or_len p xs) (length xs) e in omega arith)

module _ (o : Cache) (k : ℕ) (xs : List Slot) where
  pub nowhere : position (holds o k) xs ≡ None → blocks o xs k ≡ None
  nowhere h = found_nowhere (λ ys. blocks o ys k) (holds o k) held None refl (blocks_step o k) xs None (λ i l. none_passes (holds o k) xs h i None l)

  -- a slot in which the block is found
  pub record Found (i : ℕ) : Type 0 where
    pub within : i < length xs
    pub has : (d : Slot) → holds o k (get_or xs i d) ≡ true
    pub first : blocks o (take i xs) k ≡ None
    pub bytes : (d : Slot) → blocks o xs k ≡ held (get_or xs i d)

  pub found : (i : ℕ) → position (holds o k) xs ≡ Some i → Found i
  found i h =
      let p = position-Some (holds o k) xs i None h in
      record {
        within = p.0;
        has = λ d. (position-Some (holds o k) xs i d h).1;
        first = found_nowhere (λ ys. blocks o ys k) (holds o k) held None refl (blocks_step o k) (take i xs) None (λ j l. let w : length (take i xs) ≡ i = length-take-le i xs (omega arith) in let a : j < i = omega arith in ap (holds o k) (get_or-take i xs j None a) ∙ p.2 j a);
        bytes = λ d. let q = position-Some (holds o k) xs i d h in found_at (λ ys. blocks o ys k) (holds o k) held None refl (blocks_step o k) xs i d q.0 q.2 q.1;
      }
