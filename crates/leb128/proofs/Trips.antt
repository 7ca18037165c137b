-- The round trip, both ways.
use Rattle.std.proofs.Common.{◌≡◌, ℕ, zero, suc, ◌+◌, ◌-◌, ◌*◌, ◌/◌, ◌%◌, ◌^◌, ◌<◌, ◌≤◌, true, eqb, ltb, List, [], ◌∷◌, ◌++◌, length, get_or, take, Ok, Err, Result, sym, refl, ap, ◌∙◌, subst, ⊎_elim, pow-suc, add-one, arith}
use Rattle.std.proofs.lemmas.Nat.{div_below}
use Rattle.std.proofs.lemmas.Bool.{lt-ltb, ne_eqb, cond-true, cond-false, cases_lt, cases_eq, eq-eqb}
use Rattle.std.proofs.lemmas.Bool.Decides.{nat_tests}
use Rattle.leb128.specs.declared.decoded.Decoded.{Decoded}
use Rattle.leb128.specs.declared.decoded.DecodeError.{DecodeError}
use Rattle.leb128.specs.declared.decoded.DecodeError.TheVariants.{LongerForm}
use Rattle.leb128.specs.Encoding.{groups, encoding}
use Rattle.leb128.specs.Decoding.{number, before, ungrouped, limited, decoding}
use Rattle.leb128.specs.RoundTrip.{ReadBack, TakenWere}
use Rattle.leb128.proofs.Groups.{groups_short, groups_long}
use Rattle.leb128.proofs.Reading.{ungrouped_last, ungrouped_more}

-- what stands before a group with more to follow
before_ok : (b m k : ℕ) → 0 < m → before b (Ok (number m k)) ≡ Ok (number ((b - 128) + 128 * m) (k + 1))
before_ok b m k h = cond-false (eqb m 0) _ _ (ne_eqb m 0 (λ e. omega arith))

there_by : (f n : ℕ) (rest : List ℕ) → n < 128 ^ suc f → ungrouped (suc f) (groups f n ++ rest) ≡ Ok (number n (length (groups f n)))
there_by zero n rest h = rw (groups_short zero n h) (ungrouped_last zero n rest h)
there_by (suc f) n rest h =
    ⊎_elim
    (λ l. rw (groups_short (suc f) n l) (ungrouped_last (suc f) n rest l))
    (λ l.
    let b : ℕ = n % 128 + 128 in
    let h' : n < 128 ^ suc f * 128 = rw (pow-suc 128 (suc f)) at h in
    let below : n / 128 < 128 ^ suc f = div_below n 128 (128 ^ suc f) (omega arith) h' in
    let ge : 128 ≤ b = omega arith in
    let pos : 0 < n / 128 = omega arith in
    let v : (b - 128) + 128 * (n / 128) ≡ n = omega arith in
    rw (groups_long f n l)
    (ungrouped_more (suc f) b (groups f (n / 128) ++ rest) ge
    ∙ ap (before b) (there_by f (n / 128) rest below)
    ∙ before_ok b (n / 128) (length (groups f (n / 128))) pos
    ∙ rw (v, add-one)))
    (cases_lt n 128)

pub there : (n : ℕ) → n < 4294967296 → ReadBack n (encoding n)
there n h rest = ap limited (there_by 4 n rest (omega arith)) ∙ cond-true (ltb n 4294967296) _ _ (lt-ltb n 4294967296 h)

-- the first k of these are bytes
abbrev pub Bytes : List ℕ → ℕ → Type 0
Bytes bs k = (i : ℕ) → i < k → get_or bs i 0 < 256

-- a group with more to follow, where what follows comes back
after : (f b : ℕ) (bs : List ℕ) (x : Decoded) (o : Result Decoded DecodeError) → 128 ≤ b → Bytes (b ∷ bs) x.taken → before b o ≡ Ok x → ((y : Decoded) → o ≡ Ok y → Bytes bs y.taken → take y.taken bs ≡ groups f y.value) → take x.taken (b ∷ bs) ≡ groups (suc f) x.value
after f b bs x (Err r) h w e ih = cc
after f b bs x (Ok y) h w e ih =
    ⊎_elim
    (λ z. let t : eqb y.value 0 ≡ true = eq-eqb y.value 0 z in
    let n : before b (Ok y) ≡ Err LongerForm = cond-true (eqb y.value 0) (Err LongerForm) (Ok (number ((b - 128) + 128 * y.value) (y.taken + 1))) t in
    cc)
    (λ z.
    let pos : 0 < y.value = omega arith in
    let v : ℕ = (b - 128) + 128 * y.value in
    let p : number v (y.taken + 1) ≡ x = cc (before_ok b y.value y.taken pos) in
    let P : Decoded → Type 0 = λ d. Bytes (b ∷ bs) d.taken → take d.taken (b ∷ bs) ≡ groups (suc f) d.value in
    subst P p
    (λ w'.
    let l : b < 256 = w' 0 (omega arith) in
    let big : 128 ≤ v = omega arith in
    let low : v % 128 + 128 ≡ b = omega arith in
    let high : v / 128 ≡ y.value = omega arith in
    let w'' : Bytes bs y.taken = λ i k. w' (suc i) (let q : i < y.taken = k in omega arith) in
    rw (groups_long f v big, low, high, add-one) (ap (λ t. b ∷ t) (ih y refl w''))) w)
    (cases_eq y.value 0)

back_by : (f : ℕ) (bs : List ℕ) (x : Decoded) → Bytes bs x.taken → ungrouped (suc f) bs ≡ Ok x → take x.taken bs ≡ groups f x.value
unfolding ungrouped
back_by f [] x w e = cc
back_by zero (b ∷ bs) x w e =
    ⊎_elim
    (λ l. let p : number b 1 ≡ x = cc (ungrouped_last zero b bs l) in
    let P : Decoded → Type 0 = λ y. take y.taken (b ∷ bs) ≡ groups zero y.value in
    subst P p (sym (groups_short zero b l)))
    (λ l. cc (ungrouped_more zero b bs l))
    (cases_lt b 128)
back_by (suc f) (b ∷ bs) x w e =
    ⊎_elim
    (λ l. let p : number b 1 ≡ x = cc (ungrouped_last (suc f) b bs l) in
    let P : Decoded → Type 0 = λ y. take y.taken (b ∷ bs) ≡ groups (suc f) y.value in
    subst P p (sym (groups_short (suc f) b l)))
    (λ l. after f b bs x (ungrouped (suc f) bs) l w (sym (ungrouped_more (suc f) b bs l) ∙ e) (λ y q v. back_by f bs y v q))
    (cases_lt b 128)

back_limited : (o : Result Decoded DecodeError) (x : Decoded) → limited o ≡ Ok x → (x.value < 4294967296) × (o ≡ Ok x)
back_limited (Err r) x e = (let z : ◌≡◌ {A = ℕ} 0 1 = cc in omega arith, cc)
back_limited (Ok y) x e = grind (arith, nat_tests)

pub back : (bs : List ℕ) (d : Decoded) → Bytes bs d.taken → decoding bs ≡ Ok d → TakenWere bs d
back bs d w e = back_by 4 bs d w (back_limited (ungrouped 5 bs) d e).1

pub below_limit : (bs : List ℕ) (d : Decoded) → decoding bs ≡ Ok d → d.value < 4294967296
below_limit bs d e = (back_limited (ungrouped 5 bs) d e).0
