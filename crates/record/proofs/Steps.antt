-- Reading a record step by step.
use Rattle.std.proofs.Common.{◌≡◌, ℕ, zero, suc, ◌+◌, ◌<◌, ◌≤◌, true, false, ◌&&◌, ltb, leb, List, ◌∷◌, length, take, drop, Some, None, Ok, Err, Option, Result, sym, refl, ap, ◌∙◌, ⊎_elim, arith}
use Rattle.std.specs.Result.{result_ok}
use Rattle.std.proofs.lemmas.List.{length-take-le}
use Rattle.std.proofs.lemmas.Bool.{and_parts, and_from, or_left, or_right, le-leb, lt-ltb, eq-eqb, leb-true, ltb-true, cond-true, cond-false, cases_Bool, cases_lt}
use Rattle.leb128.specs.declared.decoded.Decoded.{Decoded}
use Rattle.leb128.specs.declared.decoded.DecodeError.{DecodeError}
use Rattle.leb128.specs.Decoding.{decoding}
use Rattle.stripe_set.specs.Rising.{rising}
use Rattle.stripe_set.specs.Stripes.{bounded}
use Rattle.stripe_set.proofs.Lists.{rising_cons, within}
use Rattle.zero_bytes.specs.Zeros.{zeros}
use Rattle.record.specs.Contents.{Contents}
use Rattle.record.specs.Limits.{allowed}
use Rattle.record.specs.Reading.{opens, then_number, above, prepended, then_stripes, stripes_from, ended, counted, recorded}

pub some≢none : {X : Type 0} {x : X} → Some x ≡ None → ⊥
some≢none e = let z : ◌≡◌ {A = ℕ} 0 1 = cc in omega arith

pub some_same : {X : Type 0} {x y : X} → Some x ≡ Some y → x ≡ y
some_same e = cc

a_number : (z : Result Decoded DecodeError) (d : Decoded) → Some d ≡ result_ok z → z ≡ Ok d
a_number (Err r) d e = absurd (some≢none e)
a_number (Ok x) d e = cc

-- the number at a place
pub number_is : (bs : List ℕ) (at : ℕ) (d : Decoded) → Some d ≡ result_ok (decoding (drop at bs)) → decoding (drop at bs) ≡ Ok d
number_is bs at d e = a_number (decoding (drop at bs)) d e

no_number : (z : Result Decoded DecodeError) (f : Decoded → Option Contents) → None ≡ result_ok z → then_number z f ≡ None
no_number (Err r) f e = refl
no_number (Ok x) f e = absurd (some≢none (sym e))

pub no_stripe : (least from at : ℕ) (z : Result Decoded DecodeError) → None ≡ result_ok z → None ≡ above least from at z
no_stripe least from at (Err r) e = refl
no_stripe least from at (Ok x) e = absurd (some≢none (sym e))

-- ---- the stripes that are read rise

chain_inv : (o : Option (ℕ × ℕ)) (F : ℕ → ℕ → Option (List ℕ × ℕ)) (y : List ℕ × ℕ) → then_stripes o F ≡ Some y → (x : ℕ × ℕ) × ((z : List ℕ × ℕ) × ((o ≡ Some x) × (F x.0 x.1 ≡ Some z) × (y.0 ≡ x.0 ∷ z.0)))
chain_inv None F y e = absurd (some≢none (sym e))
chain_inv (Some x) F y e =
    elim (F x.0 x.1) as (λ q. F x.0 x.1 ≡ q → prepended x.0 q ≡ Some y → (w : ℕ × ℕ) × ((z : List ℕ × ℕ) × ((Some x ≡ Some w) × (F w.0 w.1 ≡ Some z) × (y.0 ≡ w.0 ∷ z.0)))) [ None ↦ λ f k. absurd (some≢none (sym k)) | Some z ↦ λ f k. (x, (z, (refl, f, ap (λ (w : List ℕ × ℕ). w.0) (sym (some_same k))))) ] refl e

far : (least from at : ℕ) (o : Result Decoded DecodeError) (x : ℕ × ℕ) → above least from at o ≡ Some x → (from + least ≤ x.0) × (x.0 < 4294967296)
far least from at (Err r) x e = absurd (some≢none (sym e))
far least from at (Ok d) x e =
    ⊎_elim
    (λ t. let p = and_parts (leb least d.value) (ltb (from + d.value) 4294967296) t in
    let a = leb-true least d.value p.0 in
    let b = ltb-true (from + d.value) 4294967296 p.1 in
    let q : from + d.value ≡ x.0 = ap (λ (w : ℕ × ℕ). w.0) (some_same (sym (cond-true _ _ None t) ∙ e)) in
    (omega arith, omega arith))
    (λ t. absurd (some≢none (sym e ∙ cond-false (leb least d.value && ltb (from + d.value) 4294967296) _ None t)))
    (cases_Bool (leb least d.value && ltb (from + d.value) 4294967296))

pub read_rising : (n least from : ℕ) (bs : List ℕ) (at : ℕ) (y : List ℕ × ℕ) → stripes_from n least from bs at ≡ Some y → rising (from + least) y.0 ≡ true
unfolding stripes_from
read_rising zero least from bs at y e = ap (λ (w : List ℕ × ℕ). rising (from + least) w.0) (sym (some_same e))
read_rising (suc n) least from bs at y e =
    let q = chain_inv (above least from at (decoding (drop at bs))) (λ s end. stripes_from n 1 s bs end) y e in
    let x = q.0 in
    let z = q.1.0 in
    let f = far least from at (decoding (drop at bs)) x q.1.1.0 in
    ap (rising (from + least)) q.1.1.2 ∙ rising_cons (from + least) x.0 z.0 f.0 f.1 (read_rising n 1 x.0 bs x.1 z q.1.1.1)

-- ---- the steps

module _ (bs : List ℕ) where
  abbrev version_then : Result Decoded DecodeError → Option Contents
  version_then z = then_number z (λ v. then_number (decoding (drop (4 + v.taken) bs)) (counted v.value bs (4 + v.taken)))

  pub shut : opens bs ≡ false → recorded bs ≡ None
  unfolding recorded
  shut e = cond-false (opens bs) _ None e

  module _ (o : opens bs ≡ true) where
    first : recorded bs ≡ version_then (decoding (drop 4 bs))
    unfolding recorded
    first = cond-true (opens bs) _ None o

    pub no_version : None ≡ result_ok (decoding (drop 4 bs)) → recorded bs ≡ None
    no_version e = first ∙ no_number (decoding (drop 4 bs)) _ e

    module _ (v : Decoded) (e : decoding (drop 4 bs) ≡ Ok v) where
      second : recorded bs ≡ then_number (decoding (drop (4 + v.taken) bs)) (counted v.value bs (4 + v.taken))
      second = first ∙ ap version_then e

      pub no_count : None ≡ result_ok (decoding (drop (4 + v.taken) bs)) → recorded bs ≡ None
      no_count f = second ∙ no_number (decoding (drop (4 + v.taken) bs)) _ f

      module _ (n : Decoded) (f : decoding (drop (4 + v.taken) bs) ≡ Ok n) where
        third : recorded bs ≡ counted v.value bs (4 + v.taken) n
        third = second ∙ ap (λ z. then_number z (counted v.value bs (4 + v.taken))) f

        pub refused : allowed v.value n.value ≡ false → recorded bs ≡ None
        refused w = third ∙ cond-false (allowed v.value n.value) _ None w

        module _ (w : allowed v.value n.value ≡ true) where
          fourth : recorded bs ≡ ended v.value bs (stripes_from n.value 0 0 bs (4 + v.taken + n.taken))
          fourth = third ∙ cond-true (allowed v.value n.value) _ None w

          pub no_stripes : stripes_from n.value 0 0 bs (4 + v.taken + n.taken) ≡ None → recorded bs ≡ None
          no_stripes g = fourth ∙ ap (ended v.value bs) g

          module _ (ss : List ℕ) (end : ℕ) (g : stripes_from n.value 0 0 bs (4 + v.taken + n.taken) ≡ Some (ss, end)) where
            fifth : recorded bs ≡ ended v.value bs (Some (ss, end))
            fifth = fourth ∙ ap (ended v.value bs) g

            pub not_zero : zeros (drop end bs) ≡ false → recorded bs ≡ None
            not_zero h = fifth ∙ cond-false (zeros (drop end bs)) _ None h

            pub all_read : zeros (drop end bs) ≡ true → recorded bs ≡ Some (record { version = v.value; stripes = ss })
            all_read h = fifth ∙ cond-true (zeros (drop end bs)) _ None h

-- what a set of the stripes that were read holds
pub set_holds : (o : Option (List ℕ)) (items : List ℕ) (n : ℕ) → o ≡ bounded (take n items) → n ≤ 64 → length items ≡ 64 → rising 0 (take n items) ≡ true → o ≡ Some (take n items)
set_holds o items n e h w r = e ∙ sym (within (take n items) (omega (arith, length-take-le n items (omega arith))) r)

pub allowed_count : (v n : ℕ) → allowed v n ≡ true → n ≤ 64
allowed_count v n e = leb-true n 64 (and_parts (leb n 64) _ (and_parts (ltb 0 v) _ e).1).0

pub allows : (v n : ℕ) → 1 ≤ v → n ≤ 64 → (4294967295 ≤ v → n ≡ 0) → allowed v n ≡ true
allows v n h k l =
    and_from _ _ (lt-ltb 0 v (omega arith))
    (and_from _ _ (le-leb n 64 k)
    (⊎_elim (λ w. or_left _ _ (lt-ltb v 4294967295 w)) (λ w. or_right (ltb v 4294967295) _ (eq-eqb n 0 (l w))) (cases_lt v 4294967295)))
