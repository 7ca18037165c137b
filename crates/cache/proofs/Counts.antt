-- How many slots a cache has, and the blocks in them. Assumes nothing.
use Rattle.std.proofs.Common.{◌≡◌, ℕ, ◌+◌, Bool, true, false, cond, not, ◌&&◌, ◌||◌, eqb, List, [], ◌∷◌, length, is_some, Some, None, MatchBool, sym, refl, ap, ◌∙◌, arith}
use mathlib.Core.Path.{fun_ext}
use Rattle.std.specs.List.{count_by, list_any}
use Rattle.std.specs.Option.{is_none}
use Rattle.std.proofs.lemmas.Bool.{and_from, eq-eqb, false≢true}
use Rattle.cache.specs.declared.slot.Cache.{Cache}
use Rattle.cache.specs.declared.slot.Cache.TheVariants.{Buffering, Destaging}
use Rattle.cache.specs.Contents.{no_blocks}
use Rattle.cache.specs.Slots.{Slot, same, belongs, blocks, each_once, contents_of, blocks_in}
use Rattle.cache.specs.Sharing.{member, distinct, Numbers, Shared}
use Rattle.cache.proofs.Once.{Once, once_from, count_step}

module _ (o : Cache) where
  none_belongs : (xs : List Slot) → list_any (belongs o) xs ≡ false → (k : ℕ) → blocks o xs k ≡ None
  none_belongs [] z k = refl
  none_belongs (None ∷ xs) z k = none_belongs xs z k
  none_belongs (Some e ∷ xs) z k = elim (same e.cache o) as (λ q. (q || list_any (belongs o) xs) ≡ false → cond (q && eqb e.block k) (Some e.bytes) (blocks o xs k) ≡ None) [ true ↦ λ h. absurd (false≢true (sym h)) | false ↦ λ h. none_belongs xs h k ] z

  some_belongs : (xs : List Slot) → list_any (belongs o) xs ≡ true → (k : ℕ) × (is_some (blocks o xs k) ≡ true)
  some_belongs [] z = absurd (false≢true z)
  some_belongs (None ∷ xs) z = some_belongs xs z
  some_belongs (Some e ∷ xs) z = elim (same e.cache o) as (λ q. (q || list_any (belongs o) xs) ≡ true → (k : ℕ) × (is_some (cond (q && eqb e.block k) (Some e.bytes) (blocks o xs k)) ≡ true)) [ true ↦ λ h. (e.block, ap (λ p. is_some (cond p (Some e.bytes) (blocks o xs e.block))) (eq-eqb e.block e.block refl)) | false ↦ λ h. some_belongs xs h ] z

  -- the numbers of its blocks
  abbrev pub owned : List Slot → List ℕ
  owned [] = []
  owned (None ∷ es) = owned es
  owned (Some e ∷ es) = cond (same e.cache o) (e.block ∷ owned es) (owned es)

  owned_blocks : (xs : List Slot) (k : ℕ) → is_some (blocks o xs k) ≡ member k (owned xs)
  owned_blocks [] k = refl
  owned_blocks (None ∷ xs) k = owned_blocks xs k
  owned_blocks (Some e ∷ xs) k = elim (same e.cache o) as (λ q. is_some (cond (q && eqb e.block k) (Some e.bytes) (blocks o xs k)) ≡ member k (cond q (e.block ∷ owned xs) (owned xs))) [ true ↦ elim (eqb e.block k) as (λ p. is_some (cond p (Some e.bytes) (blocks o xs k)) ≡ (p || member k (owned xs))) [ true ↦ refl | false ↦ owned_blocks xs k ] | false ↦ owned_blocks xs k ]

  owned_once : (xs : List Slot) → Once o xs → distinct (owned xs) ≡ true
  owned_once [] u = refl
  owned_once (None ∷ xs) u = owned_once xs u
  owned_once (Some e ∷ xs) u = elim (same e.cache o) as (λ q. (q ≡ true → blocks o xs e.block ≡ None) → distinct (cond q (e.block ∷ owned xs) (owned xs)) ≡ true) [ true ↦ λ h. and_from (not (member e.block (owned xs))) (distinct (owned xs)) (ap not (sym (owned_blocks xs e.block) ∙ ap is_some (h refl))) (owned_once xs u.1) | false ↦ λ h. owned_once xs u.1 ] u.0

  pub numbers : (xs : List Slot) → each_once o xs ≡ true → Numbers (blocks o xs) (owned xs)
  numbers xs u = record { once = owned_once xs (once_from o xs u); cached = owned_blocks xs }

pub is_empty : (o : Cache) (xs : List Slot) (q : Bool) → q ≡ list_any (belongs o) xs → MatchBool (not q) (blocks_in o (contents_of xs) ≡ no_blocks) ((k : ℕ) × (is_some (blocks_in o (contents_of xs) k) ≡ true))
is_empty Buffering xs true e = some_belongs Buffering xs (sym e)
is_empty Buffering xs false e = fun_ext (none_belongs Buffering xs (sym e))
is_empty Destaging xs true e = some_belongs Destaging xs (sym e)
is_empty Destaging xs false e = fun_ext (none_belongs Destaging xs (sym e))

-- each slot is free or has a block of one cache
one_cache : (c : Cache) (k : ℕ) (bs ds : List ℕ) → length (cond (same c Buffering) (k ∷ bs) bs) + length (cond (same c Destaging) (k ∷ ds) ds) ≡ 1 + length bs + length ds
one_cache Buffering k bs ds = omega arith
one_cache Destaging k bs ds = omega arith

counts_in_all : (xs : List Slot) → count_by is_none xs + length (owned Buffering xs) + length (owned Destaging xs) ≡ length xs
counts_in_all [] = refl
counts_in_all (None ∷ xs) = let b = counts_in_all xs in omega (arith, count_step)
counts_in_all (Some e ∷ xs) = let a = one_cache e.cache e.block (owned Buffering xs) (owned Destaging xs) in let b = counts_in_all xs in omega (arith, count_step)

pub shared : (xs : List Slot) → length xs ≡ 32 → each_once Buffering xs ≡ true → each_once Destaging xs ≡ true → Shared (contents_of xs)
shared xs w u v = record {
  buffered = owned Buffering xs;
  destaged = owned Destaging xs;
  buffering = numbers Buffering xs u;
  destaging = numbers Destaging xs v;
  total = let c = counts_in_all xs in omega arith;
}
