-- The caches after they changed places. Assumes nothing.
use Rattle.std.proofs.Common.{◌≡◌, ℕ, true, cond, ◌&&◌, eqb, List, [], ◌∷◌, map, length, Some, None, sym, refl, ap, ◌∙◌, arith}
use lib.ListN.{length-map}
use Rattle.std.specs.List.{count_by}
use Rattle.std.specs.Option.{is_none}
use Rattle.cache.specs.declared.slot.Cache.{Cache}
use Rattle.cache.specs.declared.slot.Cache.TheVariants.{Buffering, Destaging}
use Rattle.cache.specs.Contents.{exchanged}
use Rattle.cache.specs.Slots.{Slot, same, blocks, each_once, contents_of, other_cache, slot_exchanged}
use Rattle.cache.proofs.Once.{Once, once_from, once_back, count_step, same_contents}

same_other : (o p : Cache) → same (other_cache o) (other_cache p) ≡ same o p
same_other Buffering Buffering = refl
same_other Buffering Destaging = refl
same_other Destaging Buffering = refl
same_other Destaging Destaging = refl

module _ (o : Cache) where
  exchanged_blocks : (k : ℕ) (xs : List Slot) → blocks (other_cache o) (map slot_exchanged xs) k ≡ blocks o xs k
  exchanged_blocks k [] = refl
  exchanged_blocks k (None ∷ xs) = exchanged_blocks k xs
  exchanged_blocks k (Some e ∷ xs) = ap (λ z. cond (same (other_cache e.cache) (other_cache o) && eqb e.block k) (Some e.bytes) z) (exchanged_blocks k xs) ∙ ap (λ q. cond (q && eqb e.block k) (Some e.bytes) (blocks o xs k)) (same_other e.cache o)

  exchanged_once : (xs : List Slot) → Once o xs → Once (other_cache o) (map slot_exchanged xs)
  exchanged_once [] u = tt
  exchanged_once (None ∷ xs) u = exchanged_once xs u
  exchanged_once (Some e ∷ xs) u = (λ s. exchanged_blocks e.block xs ∙ u.0 (sym (same_other e.cache o) ∙ s), exchanged_once xs u.1)

  pub exchanged_each_once : (xs ys : List Slot) → ys ≡ map slot_exchanged xs → each_once o xs ≡ true → each_once (other_cache o) ys ≡ true
  exchanged_each_once xs ys e u = ap (each_once (other_cache o)) e ∙ once_back (other_cache o) (map slot_exchanged xs) (exchanged_once xs (once_from o xs u))

exchanged_free : (xs : List Slot) → count_by is_none (map slot_exchanged xs) ≡ count_by is_none xs
exchanged_free [] = refl
exchanged_free (None ∷ xs) = let b = exchanged_free xs in omega (arith, count_step)
exchanged_free (Some e ∷ xs) = let b = exchanged_free xs in omega (arith, count_step)

pub exchanged_length : (xs ys : List Slot) → ys ≡ map slot_exchanged xs → length xs ≡ 32 → length ys ≡ 32
exchanged_length xs ys e w = ap length e ∙ length-map xs slot_exchanged ∙ w

pub exchanged_contents : (xs ys : List Slot) → ys ≡ map slot_exchanged xs → contents_of ys ≡ exchanged (contents_of xs)
exchanged_contents xs ys e = ap contents_of e ∙ same_contents (λ k. exchanged_blocks Destaging k xs) (λ k. exchanged_blocks Buffering k xs) (exchanged_free xs)
