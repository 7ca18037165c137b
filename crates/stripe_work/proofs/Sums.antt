-- Exclusive ors of numbers by index: in another order they are the same. Assumes nothing.
use Rattle.std.proofs.Common.{◌≡◌, ℕ, zero, suc, ◌<◌, Bool, true, false, cond, eqb, sym, refl, ap, ◌∙◌, ⊎_elim, arith}
use native.Mathlib.Decide.{ℕ_discrete}
use lib.Bits.{bit_xor, xor_assoc, xor_comm, xor_zero_l, xor_zero_r}
use Rattle.std.proofs.lemmas.Bool.{cases_eq, eq-eqb, ne_eqb}

-- the exclusive or of f 0 to f (n - 1)
abbrev pub sum : (ℕ → ℕ) → ℕ → ℕ
sum f zero = 0
sum f (suc n) = bit_xor (sum f n) (f n)

pub sum_same : (f g : ℕ → ℕ) (n : ℕ) → ((j : ℕ) → j < n → f j ≡ g j) → sum f n ≡ sum g n
sum_same f g zero h = refl
sum_same f g (suc n) h = ap (λ (x : ℕ). bit_xor x (f n)) (sum_same f g n (λ j l. h j (omega arith))) ∙ ap (bit_xor (sum g n)) (h n (omega arith))

sum_zero : (f : ℕ → ℕ) (n : ℕ) → ((j : ℕ) → j < n → f j ≡ 0) → sum f n ≡ 0
sum_zero f zero h = refl
sum_zero f (suc n) h = ap (λ (x : ℕ). bit_xor x (f n)) (sum_zero f n (λ j l. h j (omega arith))) ∙ xor_zero_l (f n) ∙ h n (omega arith)

-- four in another order
xor_swap : (a b c d : ℕ) → bit_xor (bit_xor a b) (bit_xor c d) ≡ bit_xor (bit_xor a c) (bit_xor b d)
xor_swap a b c d =
    xor_assoc a b (bit_xor c d) ∙ ap (bit_xor a) (sym (xor_assoc b c d) ∙ ap (λ (x : ℕ). bit_xor x d) (xor_comm b c) ∙ xor_assoc c b d) ∙ sym (xor_assoc a c (bit_xor b d))

sum_both : (f g : ℕ → ℕ) (n : ℕ) → sum (λ j. bit_xor (f j) (g j)) n ≡ bit_xor (sum f n) (sum g n)
sum_both f g zero = sym (xor_zero_l 0)
sum_both f g (suc n) = ap (λ (x : ℕ). bit_xor x (bit_xor (f n) (g n))) (sum_both f g n) ∙ xor_swap (sum f n) (sum g n) (f n) (g n)

exchange : (h : ℕ → ℕ → ℕ) (m n : ℕ) → sum (λ i. sum (h i) n) m ≡ sum (λ j. sum (λ i. h i j) m) n
exchange h zero n = sym (sum_zero (λ j. 0) n (λ j l. refl))
exchange h (suc m) n = ap (λ (x : ℕ). bit_xor x (sum (h m) n)) (exchange h m n) ∙ sym (sum_both (λ j. sum (λ i. h i j) m) (h m) n)

-- where all are zero but one
hit : (f : ℕ → ℕ) (n k : ℕ) → k < n → ((j : ℕ) → j < n → (j ≡ k → ⊥) → f j ≡ 0) → sum f n ≡ f k
hit f zero k l h = absurd (omega arith)
hit f (suc n) k l h = step (ℕ_discrete k n) (λ z. hit f n k z (λ j i ne. h j (omega arith) ne))
  where
    step : Dec (k ≡ n) → (k < n → sum f n ≡ f k) → sum f (suc n) ≡ f k
    step (yes e) r = ap (λ (x : ℕ). bit_xor x (f n)) (sum_zero f n (λ j i. h j (omega arith) (λ q. omega arith))) ∙ xor_zero_l (f n) ∙ ap f (sym e)
    step (no e) r = ap (λ (x : ℕ). bit_xor x (f n)) (r (omega arith)) ∙ ap (bit_xor (f k)) (h n (omega arith) (λ q. e (sym q))) ∙ xor_zero_r (f k)

module _ (g : ℕ → ℕ) (m p : ℕ) where
  -- all but that of p
  abbrev pub but : ℕ → ℕ
  but t = cond (eqb t p) 0 (g t)

  one_split : (t : ℕ) (q : Bool) → g t ≡ bit_xor (cond q 0 (g t)) (cond q (g t) 0)
  one_split t true = sym (xor_zero_l (g t))
  one_split t false = sym (xor_zero_r (g t))

  pub sum_splits : p < m → sum g m ≡ bit_xor (sum but m) (g p)
  sum_splits l =
      sum_same g (λ t. bit_xor (but t) (cond (eqb t p) (g t) 0)) m (λ t h. one_split t (eqb t p))
      ∙ sum_both but (λ t. cond (eqb t p) (g t) 0) m
      ∙ ap (bit_xor (sum but m)) (hit (λ t. cond (eqb t p) (g t) 0) m p l (λ t h ne. ap (λ q. cond q (g t) 0) (ne_eqb t p ne)) ∙ ap (λ q. cond q (g p) 0) (eq-eqb p p refl))

  -- by position, with the member of a position and the position on a member
  module _ (n : ℕ) (member position : ℕ → ℕ)
      (member_below : (j : ℕ) → j < n → member j < m)
      (apart : (j : ℕ) → j < n → member j ≡ p → ⊥)
      (back : (j : ℕ) → j < n → position (member j) ≡ j)
      (position_below : (t : ℕ) → t < m → (t ≡ p → ⊥) → position t < n)
      (out : (t : ℕ) → t < m → (t ≡ p → ⊥) → member (position t) ≡ t) where
    abbrev at : ℕ → ℕ → ℕ
    at j t = cond (eqb t (member j)) (g t) 0

    row : (j : ℕ) → j < n → sum (at j) m ≡ g (member j)
    row j l =
        hit (at j) m (member j) (member_below j l) (λ t h ne. ap (λ q. cond q (g t) 0) (ne_eqb t (member j) ne))
        ∙ ap (λ q. cond q (g (member j)) 0) (eq-eqb (member j) (member j) refl)

    column : (t : ℕ) → t < m → sum (λ j. at j t) n ≡ but t
    column t l =
        ⊎_elim
        (λ e.
        sum_zero (λ j. at j t) n (λ j i. ap (λ q. cond q (g t) 0) (ne_eqb t (member j) (λ z. apart j i (sym z ∙ e))))
        ∙ sym (ap (λ q. cond q 0 (g t)) (eq-eqb t p e)))
        (λ ne.
        hit (λ j. at j t) n (position t) (position_below t l ne) (λ j i far. ap (λ q. cond q (g t) 0) (ne_eqb t (member j) (λ z. far (sym (back j i) ∙ ap position (sym z)))))
        ∙ ap (λ q. cond q (g t) 0) (eq-eqb t (member (position t)) (sym (out t l ne)))
        ∙ sym (ap (λ q. cond q 0 (g t)) (ne_eqb t p ne)))
        (cases_eq t p)

    pub sum_by_position : sum (λ j. g (member j)) n ≡ sum but m
    sum_by_position =
        sum_same (λ j. g (member j)) (λ j. sum (at j) m) n (λ j l. sym (row j l))
        ∙ exchange at n m
        ∙ sum_same (λ t. sum (λ j. at j t) n) but m column
