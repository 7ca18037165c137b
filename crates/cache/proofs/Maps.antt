-- Every slot changed in its place, as a loop does it. Assumes nothing.
use Rattle.std.proofs.Common.{◌≡◌, ℕ, ◌+◌, ◌<◌, Bool, true, false, cond, ◌&&◌, List, ◌++◌, map, length, get_or, take, drop, set, Some, None, sym, refl, ap, ◌∙◌, arith, length-append, length-drop}
use lib.ListN.{length-map}
use Rattle.std.proofs.lemmas.List.{get_or_default, length-take-le}
use Rattle.std.proofs.lemmas.List.Edits.{map_over_more}
use Rattle.cache.specs.declared.slot.Cache.TheVariants.{Destaging}
use Rattle.cache.specs.Stripes.{is_number, in_stripe, stripe_of_block}
use Rattle.cache.specs.Slots.{Slot, same, slot_freed}
use Rattle.cache.specs.Searches.{slot_stripe}

pub map_turn : {A : Type 0} (f : A → A) (xs ys : List A) (i : ℕ) (x d : A) → i < length xs → ys ≡ map f (take i xs) ++ drop i xs → get_or ys i d ≡ x → set ys i (f x) ≡ map f (take (i + 1) xs) ++ drop (i + 1) xs
map_turn f xs ys i x d l e h =
    let a = ap length e in
    let b = length-append (map f (take i xs)) (drop i xs) in
    let c = length-map (take i xs) f in
    let g = length-take-le i xs (omega arith) in
    let k = length-drop i xs in
    map_over_more f xs ys i x l e (sym (get_or_default ys i x d (omega arith) ∙ h))

-- a slot freed exactly where its block is of the stripe
pub freed_if : (m n s : ℕ) (x : Slot) → slot_freed (in_stripe m n s) x ≡ cond (is_number s (slot_stripe m n Destaging x)) None x
freed_if m n s None = refl
freed_if m n s (Some e) = go (same e.cache Destaging)
  where
    go : (q : Bool) → ◌≡◌ {A = Slot} (cond (q && in_stripe m n s e.block) None (Some e)) (cond (is_number s (cond q (stripe_of_block m n e.block) None)) None (Some e))
    go true = refl
    go false = refl
