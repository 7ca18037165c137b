-- Groups of seven bits: their lengths, their bits, and a turn of the encoder.
use Rattle.std.proofs.Common.{◌≡◌, ℕ, zero, suc, ◌+◌, ◌*◌, ◌/◌, ◌%◌, ◌^◌, ◌<◌, ◌≤◌, cond, ltb, List, [], ◌∷◌, length, take, drop, set, sym, refl, ap, ◌∙◌, mod-eq_of_lt, pow-suc, add-one, arith, take_at}
use lib.Bits.{bit_and, bit_or, and_mask, or_shifted_r, and_high}
use lib.Seq.{sets, sets-eq}
use Rattle.std.proofs.lemmas.Nat.{div_below}
use Rattle.std.proofs.lemmas.Bool.{lt-ltb, le-ltb, cond-true, cond-false, cond_both}
use Rattle.leb128.specs.Encoding.{groups, encoding}

-- ---- groups

pub groups_short : (f n : ℕ) → n < 128 → groups f n ≡ n ∷ []
unfolding groups
groups_short zero n h = refl
groups_short (suc f) n h = cond-true (ltb n 128) _ _ (lt-ltb n 128 h)

pub groups_long : (f n : ℕ) → 128 ≤ n → groups (suc f) n ≡ (n % 128 + 128) ∷ groups f (n / 128)
unfolding groups
groups_long f n h = cond-false (ltb n 128) _ _ (le-ltb n 128 h)

-- one group more than enough changes nothing
pub groups_more : (f n : ℕ) → n < 128 ^ suc f → groups f n ≡ groups (suc f) n
unfolding groups
groups_more zero n h = sym (groups_short 1 n h)
groups_more (suc f) n h =
    ap (λ t. cond (ltb n 128) (n ∷ []) ((n % 128 + 128) ∷ t))
    (groups_more f (n / 128) (div_below n 128 (128 ^ suc f) (omega arith) (rw pow-suc at h)))

pub encoding_long : (n : ℕ) → 128 ≤ n → n < 4294967296 → encoding n ≡ (n % 128 + 128) ∷ encoding (n / 128)
encoding_long n h k = groups_long 3 n h ∙ ap (λ t. (n % 128 + 128) ∷ t) (groups_more 3 (n / 128) (omega arith))

pub length_groups : (f n : ℕ) → length (groups f n) ≤ f + 1
unfolding groups
length_groups zero n = omega arith
length_groups (suc f) n =
    cond_both (ltb n 128) (n ∷ []) ((n % 128 + 128) ∷ groups f (n / 128)) (λ t. length t ≤ suc f + 1) (λ _. omega arith) (λ _. omega (arith, length_groups f (n / 128)))

-- ---- bits

pub high_byte : (n : ℕ) → bit_or (bit_and n 127) 128 ≡ n % 128 + 128
high_byte n = rw (and_mask n 7) (or_shifted_r 1 7 (n % 128) (omega arith) ∙ omega arith)

pub top_bit : (b : ℕ) → bit_and b 128 ≡ (b / 128 % 2) * 128
top_bit b = and_high b 1 7

pub low_byte : (b : ℕ) → b < 256 → bit_and b 128 ≡ 0 → b < 128
low_byte b h z =
    let q : b / 128 < 2 = omega arith in
    omega (arith, top_bit b, mod-eq_of_lt q)

pub length_positive : (f n : ℕ) → 0 < length (groups f n)
unfolding groups
length_positive zero n = omega arith
length_positive (suc f) n = cond_both (ltb n 128) (n ∷ []) ((n % 128 + 128) ∷ groups f (n / 128)) (λ t. 0 < length t) (λ _. omega arith) (λ _. omega arith)

-- ---- a turn of the encoder

pub put_more : (buf : List ℕ) (i n : ℕ) → 128 ≤ n → n < 4294967296 → sets (set buf i (bit_or (bit_and n 127) 128)) (i + 1) (encoding (n / 128)) ≡ sets buf i (encoding n)
put_more buf i n h k = rw (encoding_long n h k, high_byte n, add-one)

pub put_last : (buf : List ℕ) (i n : ℕ) → n < 128 → set buf i n ≡ sets buf i (encoding n)
put_last buf i n h = rw (groups_short 4 n h)

-- what is written from the start on is what stands there
pub front_is : (buf bs : List ℕ) (n : ℕ) → n ≡ length bs → length bs ≤ length buf → take n (sets buf 0 bs) ≡ bs
front_is buf bs n e h =
    let k : 0 + length bs ≤ length buf = omega arith in
    ap (take n) (sets-eq bs buf 0 k) ∙ take_at bs (drop (0 + length bs) buf) n (sym e)

-- the last group is put, and all of them stand
pub all_put : (start buf : List ℕ) (i n rest : ℕ) → length start ≡ 5 → rest < 128 → i + length (encoding rest) ≡ length (encoding n) → sets buf i (encoding rest) ≡ sets start 0 (encoding n) → take (i + 1) (set buf i rest) ≡ encoding n
all_put start buf i n rest w h e s =
    let one : length (encoding rest) ≡ 1 = ap length (groups_short 4 rest h) in
    ap (take (i + 1)) (put_last buf i rest h ∙ s) ∙ front_is start (encoding n) (i + 1) (omega arith) (omega (arith, length_groups 4 n))
