-- A part of a parity is the parity of the parts. Assumes nothing.
use Rattle.std.proofs.Common.{◌≡◌, ℕ, zero, suc, ◌+◌, ◌-◌, ◌<◌, ◌≤◌, List, [], ◌∷◌, ◌++◌, length, get_or, take, drop, replicate, sym, refl, ap, ◌∙◌, arith, take-add}
use lib.Bits.{bit_xor}
use lib.Lanes.{zip2, fold_l, chunk, put_chunk}
use Rattle.std.proofs.lemmas.List.{at_drop_more, drop-replicate, take-replicate}
use Rattle.std.proofs.lemmas.Simd.{take_more_put_chunk}
use Rattle.parity.specs.Xor.{xored, parity_of}

module _ (f : ℕ → ℕ → ℕ) where
  zip2_nil : (xs : List ℕ) → zip2 f xs [] ≡ []
  zip2_nil [] = refl
  zip2_nil (x ∷ xs) = refl

  take_zip2 : (n : ℕ) (xs ys : List ℕ) → take n (zip2 f xs ys) ≡ zip2 f (take n xs) (take n ys)
  take_zip2 zero xs ys = refl
  take_zip2 (suc n) [] ys = refl
  take_zip2 (suc n) (x ∷ xs) [] = refl
  take_zip2 (suc n) (x ∷ xs) (y ∷ ys) = ap (λ t. f x y ∷ t) (take_zip2 n xs ys)

  drop_zip2 : (n : ℕ) (xs ys : List ℕ) → drop n (zip2 f xs ys) ≡ zip2 f (drop n xs) (drop n ys)
  drop_zip2 zero xs ys = refl
  drop_zip2 (suc n) [] ys = refl
  drop_zip2 (suc n) (x ∷ xs) [] = sym (zip2_nil (drop n xs))
  drop_zip2 (suc n) (x ∷ xs) (y ∷ ys) = drop_zip2 n xs ys

  chunk_zip2 : (i n : ℕ) (xs ys : List ℕ) → chunk i n (zip2 f xs ys) ≡ zip2 f (chunk i n xs) (chunk i n ys)
  chunk_zip2 i n xs ys = ap (take n) (drop_zip2 i xs ys) ∙ take_zip2 n (drop i xs) (drop i ys)

  chunk_fold : (i n : ℕ) (z : List ℕ) (blocks : List (List ℕ)) → chunk i n (fold_l (zip2 f) z blocks) ≡ fold_l (λ a block. zip2 f a (chunk i n block)) (chunk i n z) blocks
  chunk_fold i n z [] = refl
  chunk_fold i n z (block ∷ blocks) =
      chunk_fold i n (zip2 f z block) blocks ∙ ap (λ t. fold_l (λ a r. zip2 f a (chunk i n r)) t blocks) (chunk_zip2 i n z block)

  length_zip2_le : (xs ys : List ℕ) → length (zip2 f xs ys) ≤ length xs
  length_zip2_le [] ys = omega arith
  length_zip2_le (x ∷ xs) [] = omega arith
  length_zip2_le (x ∷ xs) (y ∷ ys) = omega (arith, length_zip2_le xs ys)

  length_fold : (z : List ℕ) (blocks : List (List ℕ)) → length (fold_l (zip2 f) z blocks) ≤ length z
  length_fold z [] = omega arith
  length_fold z (block ∷ blocks) = omega (arith, length_fold (zip2 f z block) blocks, length_zip2_le z block)

-- the step of a fold over a list that a loop goes through
pub fold_more : {A B : Type 0} (g : A → B → A) (a : A) (xs : List B) (i : ℕ) (d : B) → i < length xs → fold_l g a (drop i xs) ≡ fold_l g (g a (get_or xs i d)) (drop (i + 1) xs)
fold_more g a xs i d h = at_drop_more (fold_l g a) xs i d h

pub length_parity : (blocks : List (List ℕ)) → length (parity_of blocks) ≤ 512
length_parity blocks = length_fold bit_xor (replicate 512 0) blocks

pub chunk_parity : (i : ℕ) (blocks : List (List ℕ)) (z : List ℕ) → chunk i 64 (replicate 512 0) ≡ z → chunk i 64 (parity_of blocks) ≡ fold_l (λ a block. xored a (chunk i 64 block)) z blocks
chunk_parity i blocks z e = chunk_fold bit_xor i 64 (replicate 512 0) blocks ∙ rw e

-- a column of zeros
zeros : (i : ℕ) → i + 64 ≤ 512 → chunk {A = ℕ} i 64 (replicate 512 0) ≡ replicate 64 0
zeros i h =
    let n : ℕ = 512 - i in
    let k : 64 ≤ n = omega arith in
    ap (take 64) (drop-replicate {X = ℕ} i 512 0) ∙ take-replicate {X = ℕ} 64 n 0 k

-- the front of the parity, one column more
pub parity_more : (i m : ℕ) (out col : List ℕ) (blocks : List (List ℕ)) → length out ≡ 512 → length col ≡ 64 → i + 64 ≤ 512 → m ≡ i + 64 → take i out ≡ take i (parity_of blocks) → col ≡ fold_l (λ a block. xored a (chunk i 64 block)) (replicate 64 0) blocks → take m (put_chunk i out col) ≡ take m (parity_of blocks)
parity_more i m out col blocks l k h e inv is =
    take_more_put_chunk i out col m (omega arith) (omega arith)
    ∙ ap (λ t. t ++ col) inv
    ∙ ap (λ t. take i (parity_of blocks) ++ t) (is ∙ sym (chunk_parity i blocks (replicate 64 0) (zeros i h)))
    ∙ sym (take-add i 64 (parity_of blocks))
    ∙ ap (λ (j : ℕ). take j (parity_of blocks)) (sym e)
