-- Reading group by group.
use Rattle.std.proofs.Common.{◌≡◌, ℕ, zero, suc, ◌+◌, ◌-◌, ◌*◌, ◌%◌, ◌^◌, ◌<◌, ◌≤◌, true, false, cond, ◌&&◌, eqb, ltb, List, [], ◌∷◌, length, get_or, drop, Ok, Err, Result, sym, refl, ap, ◌∙◌, ⊎_elim, mul_assoc, mul_comm, mul-le-mul_left, one-mul, zero-add, mul-one, mul-add, arith}
use lib.Bits.{bit_and, bit_or, and_mask, or_shifted_r}
use Rattle.std.proofs.lemmas.List.{drop_more, at_drop_all}
use Rattle.std.proofs.lemmas.Bool.Decides.{nat_tests}
use Rattle.std.proofs.lemmas.Nat.{pow-add, shl_whole}
use Rattle.std.proofs.lemmas.Bool.{lt-ltb, le-ltb, ne_eqb, eq-eqb, cond-true, cond-false, and_right, cases_eq}
use Rattle.leb128.specs.declared.decoded.Decoded.{Decoded}
use Rattle.leb128.specs.declared.decoded.DecodeError.{DecodeError}
use Rattle.leb128.specs.declared.decoded.DecodeError.TheVariants.{LongerForm, Overflow, EndOfBytes}
use Rattle.leb128.specs.Decoding.{number, before, ungrouped, limited, decoding}

-- what is read of all the bytes, from what is read after the first i groups, which hold n
abbrev pub lifted : ℕ → ℕ → Result Decoded DecodeError → Result Decoded DecodeError
lifted i n (Err e) = Err e
lifted i n (Ok x) = cond (ltb 0 i && eqb x.value 0) (Err LongerForm) (Ok (number (n + 2 ^ (7 * i) * x.value) (i + x.taken)))

pub lifted_none : (o : Result Decoded DecodeError) → o ≡ lifted 0 0 o
lifted_none (Err e) = refl
lifted_none (Ok x) = rw (one-mul x.value, zero-add x.value, zero-add x.taken)

weight : (i m : ℕ) → 2 ^ (7 * (i + 1)) * m ≡ 2 ^ (7 * i) * (128 * m)
weight i m = let e : 7 * (i + 1) ≡ 7 * i + 7 = omega arith in rw (e, pow-add 2 (7 * i) 7, mul_assoc (2 ^ (7 * i)) 128 m)

pub lifted_more : (i n b : ℕ) (o : Result Decoded DecodeError) → lifted i n (before b o) ≡ lifted (i + 1) (n + 2 ^ (7 * i) * (b - 128)) o
lifted_more i n b (Err e) = refl
lifted_more i n b (Ok x) =
    ⊎_elim
    (λ z. let t : ltb 0 (i + 1) ≡ true = lt-ltb 0 (i + 1) (omega arith) in
    let u : eqb x.value 0 ≡ true = eq-eqb x.value 0 z in
    rw (u, t))
    (λ z. let u : eqb x.value 0 ≡ false = ne_eqb x.value 0 z in
    let v : eqb (b - 128 + 128 * x.value) 0 ≡ false = ne_eqb (b - 128 + 128 * x.value) 0 (λ e. z (omega arith)) in
    let a : (ltb 0 i && false) ≡ false = and_right (ltb 0 i) false refl in
    let a' : (ltb 0 (i + 1) && false) ≡ false = and_right (ltb 0 (i + 1)) false refl in
    let p : n + 2 ^ (7 * i) * (b - 128 + 128 * x.value) ≡ (n + 2 ^ (7 * i) * (b - 128)) + 2 ^ (7 * (i + 1)) * x.value =
    omega (arith, mul-add (2 ^ (7 * i)) (b - 128) (128 * x.value), weight i x.value) in
    let q : i + (x.taken + 1) ≡ (i + 1) + x.taken = omega arith in
    rw (u, v, a, a', p, q))
    (cases_eq x.value 0)

pub ungrouped_nil : (f : ℕ) → 0 < f → ungrouped f [] ≡ Err EndOfBytes
unfolding ungrouped
ungrouped_nil zero h = absurd (omega arith)
ungrouped_nil (suc f) h = refl

pub ungrouped_zero : (bs : List ℕ) → ungrouped 0 bs ≡ Err Overflow
unfolding ungrouped
ungrouped_zero bs = refl

pub ungrouped_last : (f b : ℕ) (bs : List ℕ) → b < 128 → ungrouped (suc f) (b ∷ bs) ≡ Ok (number b 1)
unfolding ungrouped
ungrouped_last f b bs h = cond-true (ltb b 128) _ _ (lt-ltb b 128 h)

pub ungrouped_more : (f b : ℕ) (bs : List ℕ) → 128 ≤ b → ungrouped (suc f) (b ∷ bs) ≡ before b (ungrouped f bs)
unfolding ungrouped
ungrouped_more f b bs h = cond-false (ltb b 128) _ _ (le-ltb b 128 h)

-- a group that is put in at its place
pub or_group : (n g s : ℕ) → n < 2 ^ s → g < 128 → s ≤ 57 → bit_or n ((g * 2 ^ s) % 2 ^ 64) ≡ n + 2 ^ s * g
or_group n g s h k l = rw (shl_whole g 7 s 64 k (omega arith)) (or_shifted_r g s n h ∙ omega (arith, mul_comm (2 ^ s) g))

pub placed : (n b i s : ℕ) → s ≡ 7 * i → i < 5 → n < 2 ^ (7 * i) → bit_or n ((bit_and b 127 * 2 ^ s) % 2 ^ 64) ≡ n + 2 ^ (7 * i) * (b % 128)
placed n b i s e l h = rw (e, and_mask b 7) (or_group n (b % 128) (7 * i) h (omega arith) (omega arith))

pub placed_lt : (n g i : ℕ) → n < 2 ^ (7 * i) → g < 128 → n + 2 ^ (7 * i) * g < 2 ^ (7 * (i + 1))
placed_lt n g i h k =
    let le : g ≤ 127 = omega arith in
    omega (arith, weight i 1, mul-one (2 ^ (7 * (i + 1))), mul-le-mul_left (2 ^ (7 * i)) le)

-- the byte at i, and what follows it
head : (bs : List ℕ) (i : ℕ) → i < 5 → i < length bs → ungrouped (5 - i) (drop i bs) ≡ ungrouped (suc (4 - i)) (get_or bs i 0 ∷ drop (i + 1) bs)
head bs i l h = let e : 5 - i ≡ suc (4 - i) = omega arith in rw (e, drop_more bs i 0 h)

pub turn_more : (bs : List ℕ) (i n : ℕ) → i < 5 → i < length bs → 128 ≤ get_or bs i 0 → get_or bs i 0 < 256 → ungrouped 5 bs ≡ lifted i n (ungrouped (5 - i) (drop i bs)) → ungrouped 5 bs ≡ lifted (i + 1) (n + 2 ^ (7 * i) * (get_or bs i 0 % 128)) (ungrouped (5 - (i + 1)) (drop (i + 1) bs))
turn_more bs i n l h t u inv =
    let e : 5 - (i + 1) ≡ 4 - i = omega arith in
    let g : get_or bs i 0 % 128 ≡ get_or bs i 0 - 128 = omega arith in
    inv ∙ ap (lifted i n) (head bs i l h ∙ ungrouped_more (4 - i) (get_or bs i 0) (drop (i + 1) bs) t)
    ∙ lifted_more i n (get_or bs i 0) (ungrouped (4 - i) (drop (i + 1) bs))
    ∙ rw (e, g)

pub turn_last : (bs : List ℕ) (i n : ℕ) → i < 5 → i < length bs → get_or bs i 0 < 128 → ungrouped 5 bs ≡ lifted i n (ungrouped (5 - i) (drop i bs)) → decoding bs ≡ limited (cond (ltb 0 i && eqb (get_or bs i 0 % 128) 0) (Err LongerForm) (Ok (number (n + 2 ^ (7 * i) * (get_or bs i 0 % 128)) (i + 1))))
turn_last bs i n l h t inv =
    let g : get_or bs i 0 % 128 ≡ get_or bs i 0 = omega arith in
    ap limited (inv ∙ ap (lifted i n) (head bs i l h ∙ ungrouped_last (4 - i) (get_or bs i 0) (drop (i + 1) bs) t)) ∙ rw g

-- what comes of the last group
pub kept : (i g n : ℕ) → n < 4294967296 → (0 < i → g ≡ 0 → ⊥) → Ok (number n (i + 1)) ≡ limited (cond (ltb 0 i && eqb g 0) (Err LongerForm) (Ok (number n (i + 1))))
kept i g n h k = grind (arith, nat_tests)

pub too_large : (i g n : ℕ) → 4294967296 ≤ n → (0 < i → g ≡ 0 → ⊥) → Err Overflow ≡ limited (cond (ltb 0 i && eqb g 0) (Err LongerForm) (Ok (number n (i + 1))))
too_large i g n h k = grind (arith, nat_tests)

pub too_long : (i g n : ℕ) → 0 < i → g ≡ 0 → Err LongerForm ≡ limited (cond (ltb 0 i && eqb g 0) (Err LongerForm) (Ok (number n (i + 1))))
too_long i g n h k = grind (arith, nat_tests)

-- a fifth group with more to follow
pub sixth : (bs : List ℕ) (i n : ℕ) → i ≡ 4 → i < length bs → 128 ≤ get_or bs i 0 → get_or bs i 0 < 256 → ungrouped 5 bs ≡ lifted i n (ungrouped (5 - i) (drop i bs)) → Err Overflow ≡ decoding bs
sixth bs i n e h t u inv =
    let z : 5 - (i + 1) ≡ 0 = omega arith in
    sym (ap limited (turn_more bs i n (omega arith) h t u inv ∙ ap (λ k. lifted (i + 1) (n + 2 ^ (7 * i) * (get_or bs i 0 % 128)) (ungrouped k (drop (i + 1) bs))) z ∙ ap (lifted (i + 1) (n + 2 ^ (7 * i) * (get_or bs i 0 % 128))) (ungrouped_zero (drop (i + 1) bs))))

-- no byte left
pub ended : (bs : List ℕ) (i n : ℕ) → i ≤ 4 → length bs ≤ i → ungrouped 5 bs ≡ lifted i n (ungrouped (5 - i) (drop i bs)) → Err EndOfBytes ≡ decoding bs
ended bs i n l h inv =
    sym (ap limited (inv ∙ ap (lifted i n) (at_drop_all (ungrouped (5 - i)) bs i h ∙ ungrouped_nil (5 - i) (omega arith))))
