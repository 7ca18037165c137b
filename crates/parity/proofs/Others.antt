-- Any block of a stripe with right parity is the exclusive or of the others. Assumes nothing.
use Rattle.std.proofs.Common.{◌≡◌, ℕ, zero, suc, ◌<◌, List, [], ◌∷◌, length, get_or, replicate, sym, refl, ap, ◌∙◌, le_of_suc-le-suc, not-suc-le-zero, arith}
use lib.Bits.{bit_xor, xor_assoc, xor_comm, xor_self, xor_zero_l, xor_zero_r}
use lib.Lanes.{fold_l}
use Rattle.std.proofs.lemmas.List.{length-replicate, get_or-replicate}
use Rattle.parity.specs.Xor.{xored, zeros, parity_of, Whole, without, OthersGive, byte_sum}
use Rattle.parity.specs.Laws.{Laws}

length_xored : (xs ys : List ℕ) → length xs ≡ length ys → length (xored xs ys) ≡ length ys
length_xored [] ys e = e
length_xored (x ∷ xs) [] e = refl
length_xored (x ∷ xs) (y ∷ ys) e = ap suc (length_xored xs ys (omega arith))

xored_swap : (xs ys zs : List ℕ) → xored (xored xs ys) zs ≡ xored (xored xs zs) ys
xored_swap [] ys zs = refl
xored_swap (x ∷ xs) [] [] = refl
xored_swap (x ∷ xs) [] (z ∷ zs) = refl
xored_swap (x ∷ xs) (y ∷ ys) [] = refl
xored_swap (x ∷ xs) (y ∷ ys) (z ∷ zs) =
    ap (λ (b : ℕ). b ∷ xored (xored xs ys) zs) (xor_assoc x y z ∙ ap (bit_xor x) (xor_comm y z) ∙ sym (xor_assoc x z y)) ∙ ap (λ l. bit_xor (bit_xor x z) y ∷ l) (xored_swap xs ys zs)

xored_back : (xs ys : List ℕ) → length xs ≡ length ys → xored xs (xored xs ys) ≡ ys
xored_back [] [] e = refl
xored_back [] (y ∷ ys) e = absurd (omega arith)
xored_back (x ∷ xs) [] e = absurd (omega arith)
xored_back (x ∷ xs) (y ∷ ys) e =
    ap (λ (b : ℕ). b ∷ xored xs (xored xs ys)) (sym (xor_assoc x x y) ∙ ap (λ (b : ℕ). bit_xor b y) (xor_self x)) ∙ ap (λ l. y ∷ l) (xored_back xs ys (omega arith))

xored_self : (xs : List ℕ) → xored xs xs ≡ replicate (length xs) 0
xored_self [] = refl
xored_self (x ∷ xs) = ap (λ (b : ℕ). b ∷ xored xs xs) (xor_self x) ∙ ap (λ l. 0 ∷ l) (xored_self xs)

-- with zeros nothing changes
xored_zeros : (xs : List ℕ) (n : ℕ) → length xs ≡ n → xored xs (replicate n 0) ≡ xs
xored_zeros [] zero e = refl
xored_zeros [] (suc n) e = refl
xored_zeros (x ∷ xs) zero e = absurd (omega arith)
xored_zeros (x ∷ xs) (suc n) e = ap (λ (b : ℕ). b ∷ xored xs (replicate n 0)) (xor_zero_r x) ∙ ap (λ l. x ∷ l) (xored_zeros xs n (omega arith))

fold_swap : (z b : List ℕ) (blocks : List (List ℕ)) → fold_l xored (xored z b) blocks ≡ xored (fold_l xored z blocks) b
fold_swap z b [] = refl
fold_swap z b (d ∷ blocks) = ap (λ t. fold_l xored t blocks) (xored_swap z b d) ∙ fold_swap (xored z d) b blocks

-- all blocks are the others and the one
fold_splits : (z : List ℕ) (blocks : List (List ℕ)) (i : ℕ) → i < length blocks → fold_l xored z blocks ≡ xored (fold_l xored z (without i blocks)) (get_or blocks i [])
fold_splits z [] i h = absurd (not-suc-le-zero h)
fold_splits z (b ∷ blocks) zero h = fold_swap z b blocks
fold_splits z (b ∷ blocks) (suc i) h = fold_splits (xored z b) blocks i (le_of_suc-le-suc h)

fold_length : (z : List ℕ) (blocks : List (List ℕ)) → length z ≡ 512 → Whole blocks → length (fold_l xored z blocks) ≡ 512
fold_length z [] e w = e
fold_length z (b ∷ blocks) e w = fold_length (xored z b) blocks (length_xored z b (e ∙ sym w.0) ∙ w.0) w.1

without_whole : (i : ℕ) (blocks : List (List ℕ)) → Whole blocks → Whole (without i blocks)
without_whole i [] w = w
without_whole zero (b ∷ blocks) w = w.1
without_whole (suc i) (b ∷ blocks) w = (w.0, without_whole i blocks w.1)

pub parity_length : (blocks : List (List ℕ)) → Whole blocks → length (parity_of blocks) ≡ 512
parity_length blocks w = fold_length zeros blocks (length-replicate {A = ℕ} 512 0) w

at_length : (blocks : List (List ℕ)) (i : ℕ) → Whole blocks → i < length blocks → length (get_or blocks i []) ≡ 512
at_length [] i w h = absurd (not-suc-le-zero h)
at_length (b ∷ blocks) zero w h = w.0
at_length (b ∷ blocks) (suc i) w h = at_length blocks i w.1 (le_of_suc-le-suc h)

-- where one block is the exclusive or of the others, that of all is zeros
all_zeros : (blocks : List (List ℕ)) (p : ℕ) → Whole blocks → p < length blocks → OthersGive blocks p → parity_of blocks ≡ zeros
all_zeros blocks p w h e =
    fold_splits zeros blocks p h ∙ ap (λ x. xored x (get_or blocks p [])) (sym e) ∙ xored_self (get_or blocks p []) ∙ ap (λ (n : ℕ). replicate n 0) (at_length blocks p w h)

pub any_block : (blocks : List (List ℕ)) (p i : ℕ) → Whole blocks → p < length blocks → OthersGive blocks p → i < length blocks → OthersGive blocks i
any_block blocks p i w h e k =
    let rest = parity_of (without i blocks) in
    let one = get_or blocks i [] in
    let len : length rest ≡ 512 = parity_length (without i blocks) (without_whole i blocks w) in
    sym (xored_back rest one (len ∙ sym (at_length blocks i w k))) ∙ ap (xored rest) (sym (fold_splits zeros blocks i k) ∙ all_zeros blocks p w h e) ∙ xored_zeros rest 512 len

zero_fold : (n : ℕ) → parity_of (replicate n zeros) ≡ zeros
zero_fold zero = refl
zero_fold (suc n) = ap (λ x. fold_l xored x (replicate n zeros)) (xored_zeros zeros 512 (length-replicate {A = ℕ} 512 0)) ∙ zero_fold n

xored_at : (xs ys : List ℕ) (i : ℕ) → length xs ≡ length ys → get_or (xored xs ys) i 0 ≡ bit_xor (get_or xs i 0) (get_or ys i 0)
xored_at [] [] i e = refl
xored_at [] (y ∷ ys) i e = absurd (omega arith)
xored_at (x ∷ xs) [] i e = absurd (omega arith)
xored_at (x ∷ xs) (y ∷ ys) zero e = refl
xored_at (x ∷ xs) (y ∷ ys) (suc i) e = xored_at xs ys i (omega arith)

fold_at : (z : List ℕ) (blocks : List (List ℕ)) (i : ℕ) → length z ≡ 512 → Whole blocks → get_or (fold_l xored z blocks) i 0 ≡ bit_xor (get_or z i 0) (byte_sum blocks i)
fold_at z [] i e w = sym (xor_zero_r (get_or z i 0))
fold_at z (b ∷ blocks) i e w =
    fold_at (xored z b) blocks i (length_xored z b (e ∙ sym w.0) ∙ w.0) w.1
    ∙ ap (λ (n : ℕ). bit_xor n (byte_sum blocks i)) (xored_at z b i (e ∙ sym w.0))
    ∙ xor_assoc (get_or z i 0) (get_or b i 0) (byte_sum blocks i)

pub laws : Laws
laws = record {
  zero_parity = zero_fold;
  each_byte = λ blocks i w h.
      fold_at zeros blocks i (length-replicate {A = ℕ} 512 0) w
      ∙ ap (λ (n : ℕ). bit_xor n (byte_sum blocks i)) (get_or-replicate {A = ℕ} 512 i 0 0 h)
      ∙ xor_zero_l (byte_sum blocks i);
  any_block = any_block;
}
