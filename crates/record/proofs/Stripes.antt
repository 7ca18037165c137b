-- Reading stripe by stripe.
use Rattle.std.proofs.Common.{◌≡◌, ℕ, zero, suc, ◌+◌, ◌-◌, ◌<◌, ◌≤◌, List, [], ◌∷◌, ◌++◌, length, take, drop, set, Some, None, Ok, Option, refl, ap, ◌∙◌, arith}
use Rattle.std.proofs.lemmas.Bool.Decides.{nat_tests}
use Rattle.std.proofs.lemmas.List.{take_more_set, append_assoc, append-nil}
use Rattle.leb128.specs.Decoding.{decoding, number}
use Rattle.record.specs.Reading.{above, prepended, then_stripes, stripes_from}

abbrev pub front : List ℕ → Option (List ℕ × ℕ) → Option (List ℕ × ℕ)
front xs None = None
front xs (Some y) = Some (xs ++ y.0, y.1)

pub front_none : (o : Option (List ℕ × ℕ)) → o ≡ front [] o
front_none None = refl
front_none (Some y) = refl

front_more : (xs : List ℕ) (s : ℕ) (o : Option (List ℕ × ℕ)) → front xs (prepended s o) ≡ front (xs ++ (s ∷ [])) o
front_more xs s None = refl
front_more xs s (Some y) = rw (append_assoc xs (s ∷ []) y.0)

pub at_none : (n least from : ℕ) (bs : List ℕ) (at : ℕ) (xs : List ℕ) → 0 < n → above least from at (decoding (drop at bs)) ≡ None → front xs (stripes_from n least from bs at) ≡ None
unfolding stripes_from
at_none zero least from bs at xs h e = absurd (omega arith)
at_none (suc n) least from bs at xs h e = ap (λ o. front xs (then_stripes o (λ s end. stripes_from n 1 s bs end))) e

pub at_some : (n least from : ℕ) (bs : List ℕ) (at s end i : ℕ) (out : List ℕ) → i < n → i < length out → above least from at (decoding (drop at bs)) ≡ Some (s, end) → front (take i out) (stripes_from (n - i) least from bs at) ≡ front (take (i + 1) (set out i s)) (stripes_from (n - (i + 1)) 1 s bs end)
unfolding stripes_from
at_some n least from bs at s end i out h k e =
    let f : n - i ≡ suc (n - (i + 1)) = omega arith in
    let m : ℕ = n - (i + 1) in
    ap (λ j. front (take i out) (stripes_from j least from bs at)) f
    ∙ ap (λ o. front (take i out) (then_stripes o (λ s end. stripes_from m 1 s bs end))) e
    ∙ front_more (take i out) s (stripes_from m 1 s bs end)
    ∙ rw (take_more_set out i s k)

pub at_end : (least from : ℕ) (bs : List ℕ) (at : ℕ) (xs : List ℕ) → front xs (stripes_from 0 least from bs at) ≡ Some (xs, at)
unfolding stripes_from
at_end least from bs at xs = rw (append-nil xs)

-- ---- a distance that is too small, too large, and neither

pub close : (least from at d k : ℕ) → d < least → None ≡ above least from at (Ok (number d k))
close least from at d k h = grind (arith, nat_tests)

pub far : (least from at d k : ℕ) → 4294967296 ≤ from + d → None ≡ above least from at (Ok (number d k))
far least from at d k h = grind (arith, nat_tests)

pub taken : (least from at d k : ℕ) → least ≤ d → from + d < 4294967296 → Some (from + d, at + k) ≡ above least from at (Ok (number d k))
taken least from at d k h l = grind (arith, nat_tests)
