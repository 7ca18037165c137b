-- A record that is written is read back, and a block that is read is the one that is written of its record.
use Rattle.std.proofs.Common.{◌≡◌, ℕ, zero, suc, ◌+◌, ◌-◌, ◌<◌, ◌≤◌, true, ◌&&◌, eqb, ltb, leb, List, [], ◌∷◌, ◌++◌, length, take, drop, set, replicate, Some, Ok, sym, refl, ap, ◌∙◌, subst, arith, length-append}
use Rattle.std.specs.List.{flat_map}
use Rattle.std.proofs.lemmas.List.{drop-drop, drop_at, append_assoc, take-append-drop, take_more_set, length-replicate}
use Rattle.std.proofs.lemmas.Bool.{and_parts, and_from, leb-true, ltb-true, lt-ltb, le-leb, eqb-true, cond-true}
use Rattle.leb128.specs.declared.decoded.Decoded.{Decoded}
use Rattle.leb128.specs.Encoding.{encoding}
use Rattle.leb128.specs.Decoding.{decoding, number}
use Rattle.leb128.proofs.Trips.{there}
use Rattle.stripe_set.specs.Rising.{rising}
use Rattle.zero_bytes.specs.Zeros.{zeros}
use Rattle.record.specs.Limits.{allowed}
use Rattle.record.specs.Form.{opening, distances, body, block}
use Rattle.record.specs.Reading.{opens, above, prepended, then_stripes, stripes_from, recorded}
use Rattle.record.specs.Spelling.{Spelt, SpeltAll}
use Rattle.record.proofs.Steps.{all_read}

-- past a number
past : (bs : List ℕ) (at x : ℕ) (rest : List ℕ) → drop at bs ≡ encoding x ++ rest → drop (at + length (encoding x)) bs ≡ rest
past bs at x rest e = sym (drop-drop (length (encoding x)) at bs) ∙ ap (drop (length (encoding x))) e ∙ drop_at (encoding x) rest (length (encoding x)) refl

here : (bs : List ℕ) (at x : ℕ) (rest : List ℕ) → x < 4294967296 → drop at bs ≡ encoding x ++ rest → decoding (drop at bs) ≡ Ok (number x (length (encoding x)))
here bs at x rest l e = ap decoding e ∙ there x l rest

near : (least from at s k : ℕ) → from + least ≤ s → s < 4294967296 → above least from at (Ok (number (s - from) k)) ≡ Some (s, at + k)
near least from at s k h l =
    let e : from + (s - from) ≡ s = omega arith in
    cond-true (leb least (s - from) && ltb (from + (s - from)) 4294967296) _ _ (and_from _ _ (le-leb least (s - from) (omega arith)) (lt-ltb (from + (s - from)) 4294967296 (omega arith))) ∙ rw e

-- the stripes come back, and their end
stripes_back : (ss : List ℕ) (least from low : ℕ) (bs : List ℕ) (at : ℕ) (rest : List ℕ) → low ≡ from + least → rising low ss ≡ true → drop at bs ≡ flat_map encoding (distances from ss) ++ rest → (end : ℕ) × ((stripes_from (length ss) least from bs at ≡ Some (ss, end)) × (drop end bs ≡ rest))
unfolding stripes_from
stripes_back [] least from low bs at rest z r e = (at, (refl, e))
stripes_back (s ∷ ss) least from low bs at rest z r e =
    let p = and_parts _ _ r in
    let q = and_parts _ _ p.1 in
    let lo : low ≤ s = leb-true low s p.0 in
    let hi : s < 4294967296 = ltb-true s 4294967296 q.0 in
    let x : ℕ = s - from in
    let more : List ℕ = flat_map encoding (distances s ss) ++ rest in
    let f : drop at bs ≡ encoding x ++ more = e ∙ append_assoc (encoding x) (flat_map encoding (distances s ss)) rest in
    let d : above least from at (decoding (drop at bs)) ≡ Some (s, at + length (encoding x)) = ap (above least from at) (here bs at x more (omega arith) f) ∙ near least from at s (length (encoding x)) (omega arith) hi in
    let i = stripes_back ss 1 s (s + 1) bs (at + length (encoding x)) rest refl q.1 (past bs at x more f) in
    (i.0, (ap (λ o. then_stripes o (λ t end. stripes_from (length ss) 1 t bs end)) d ∙ ap (prepended s) i.1.0, i.1.1))

zeros_zero : (n : ℕ) → zeros (replicate n 0) ≡ true
zeros_zero zero = refl
zeros_zero (suc n) = zeros_zero n

module _ (v : ℕ) (ss : List ℕ) (ok : allowed v (length ss) ≡ true) (small : v < 4294967296) (up : rising 0 ss ≡ true) where
  abbrev whole : List ℕ
  whole = block (record { version = v; stripes = ss })

  abbrev count : ℕ
  count = length ss

  abbrev pad : List ℕ
  pad = replicate (512 - length (body v ss)) 0

  abbrev tail : List ℕ
  tail = flat_map encoding (distances 0 ss) ++ pad

  at_version : drop 4 whole ≡ encoding v ++ (encoding count ++ tail)
  unfolding body
  at_version = append_assoc (encoding v) (encoding count ++ flat_map encoding (distances 0 ss)) (replicate (512 - length (body v ss)) 0) ∙ ap (λ (w : List ℕ). encoding v ++ w) (append_assoc (encoding count) (flat_map encoding (distances 0 ss)) (replicate (512 - length (body v ss)) 0))

  opened : opens whole ≡ true
  unfolding body
  opened = refl

  pub read_back : recorded (block (record { version = v; stripes = ss })) ≡ Some (record { version = v; stripes = ss })
  read_back =
      let few : count < 4294967296 = omega (arith, leb-true count 64 (and_parts _ _ (and_parts _ _ ok).1).0) in
      let at : ℕ = 4 + length (encoding v) in
      let a = here whole 4 v (encoding count ++ tail) small at_version in
      let p : drop at whole ≡ encoding count ++ tail = past whole 4 v (encoding count ++ tail) at_version in
      let b = here whole at count tail few p in
      let i = stripes_back ss 0 0 0 whole (at + length (encoding count)) pad refl up (past whole at count tail p) in
      all_read whole opened (number v (length (encoding v))) a (number count (length (encoding count))) b ok ss i.0 i.1.0 (ap zeros i.1.1 ∙ zeros_zero (512 - length (body v ss)))

-- ---- and the way back

-- the bytes that a number took
pub spelt : (bs : List ℕ) (at : ℕ) (d : Decoded) → take d.taken (drop at bs) ≡ encoding d.value → Spelt bs at (at + d.taken) d.value
spelt bs at d e =
    sym (take-append-drop d.taken (drop at bs)) ∙ ap (λ (w : List ℕ). w ++ drop d.taken (drop at bs)) e ∙ ap (λ (w : List ℕ). encoding d.value ++ w) (drop-drop d.taken at bs)

-- one stripe before the others
pub spelt_more : (bs : List ℕ) (pos mid end from s : ℕ) (ss : List ℕ) → Spelt bs pos mid (s - from) → SpeltAll bs mid end s ss → SpeltAll bs pos end from (s ∷ ss)
spelt_more bs pos mid end from s ss e f =
    e ∙ ap (λ (w : List ℕ). encoding (s - from) ++ w) f ∙ sym (append_assoc (encoding (s - from)) (flat_map encoding (distances s ss)) (drop end bs))

zero_run : (bs : List ℕ) → zeros bs ≡ true → bs ≡ replicate (length bs) 0
zero_run [] e = refl
zero_run (b ∷ bs) e =
    let p = and_parts (eqb b 0) (zeros bs) e in
    let h : b ≡ 0 = eqb-true b 0 p.0 in
    rw h (ap (λ (w : List ℕ). 0 ∷ w) (zero_run bs p.1))

opening_is : (bs : List ℕ) → length bs ≡ 512 → opens bs ≡ true → bs ≡ opening ++ drop 4 bs
opening_is [] h o = absurd (omega arith)
opening_is (a ∷ []) h o = absurd (omega arith)
opening_is (a ∷ b ∷ []) h o = absurd (omega arith)
opening_is (a ∷ b ∷ c ∷ []) h o = absurd (omega arith)
opening_is (a ∷ b ∷ c ∷ d ∷ bs) h o =
    let p = and_parts (eqb a 0x49) _ o in
    let q = and_parts (eqb b 0x4C) _ p.1 in
    let r = and_parts (eqb c 0x30) (eqb d 0x31) q.1 in
    let ea : a ≡ 0x49 = eqb-true a 0x49 p.0 in
    let eb : b ≡ 0x4C = eqb-true b 0x4C q.0 in
    let ec : c ≡ 0x30 = eqb-true c 0x30 r.0 in
    let ed : d ≡ 0x31 = eqb-true d 0x31 r.1 in
    cc

pub rewritten : (bs : List ℕ) (v at n mid end : ℕ) (ss : List ℕ) → length bs ≡ 512 → opens bs ≡ true → Spelt bs 4 at v → Spelt bs at mid n → n ≡ length ss → SpeltAll bs mid end 0 ss → zeros (drop end bs) ≡ true → bs ≡ block (record { version = v; stripes = ss })
unfolding body
rewritten bs v at n mid end ss h o e f k g z =
    let ds : List ℕ = flat_map encoding (distances 0 ss) in
    let rest : List ℕ = replicate (length (drop end bs)) 0 in
    let f' : drop at bs ≡ encoding (length ss) ++ drop mid bs = f ∙ ap (λ (m : ℕ). encoding m ++ drop mid bs) k in
    let a : bs ≡ opening ++ (encoding v ++ (encoding (length ss) ++ (ds ++ rest))) =
    opening_is bs h o
    ∙ ap (λ (w : List ℕ). opening ++ w) (e ∙ ap (λ (w : List ℕ). encoding v ++ w) (f' ∙ ap (λ (w : List ℕ). encoding (length ss) ++ w) (g ∙ ap (λ (w : List ℕ). ds ++ w) (zero_run (drop end bs) z)))) in
    let b : bs ≡ body v ss ++ rest =
    a ∙ ap (λ (w : List ℕ). opening ++ (encoding v ++ w)) (sym (append_assoc (encoding (length ss)) ds rest)) ∙ ap (λ (w : List ℕ). opening ++ w) (sym (append_assoc (encoding v) (encoding (length ss) ++ ds) rest)) in
    let l : length bs ≡ length (body v ss) + length rest = ap length b ∙ length-append (body v ss) rest in
    let m : length (drop end bs) ≡ 512 - length (body v ss) = omega (arith, length-replicate {A = ℕ} (length (drop end bs)) 0) in
    b ∙ ap (λ (j : ℕ). body v ss ++ replicate j 0) m

-- the stripes so far, and one more
pub spelt_on : (bs : List ℕ) (at pos mid end from s i : ℕ) (out ss : List ℕ) → i < length out → ((ts : List ℕ) (e : ℕ) → SpeltAll bs pos e from ts → SpeltAll bs at e 0 (take i out ++ ts)) → Spelt bs pos mid (s - from) → SpeltAll bs mid end s ss → SpeltAll bs at end 0 (take (i + 1) (set out i s) ++ ss)
spelt_on bs at pos mid end from s i out ss h before e f =
    subst (λ (w : List ℕ). SpeltAll bs at end 0 w) (sym (ap (λ (w : List ℕ). w ++ ss) (take_more_set out i s h) ∙ append_assoc (take i out) (s ∷ []) ss)) (before (s ∷ ss) end (spelt_more bs pos mid end from s ss e f))
