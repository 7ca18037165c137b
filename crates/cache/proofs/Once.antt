-- Each block once, as a fact on each slot; equal contents. Assumes nothing.
use Rattle.std.proofs.Common.{◌≡◌, ℕ, ◌+◌, Bool, true, false, cond, not, ◌&&◌, List, [], ◌∷◌, is_some, Some, None, Option, refl}
use Rattle.std.specs.List.{count_by}
use Rattle.std.specs.Option.{is_none}
use Rattle.std.proofs.lemmas.Bool.{false≢true, and_parts, and_from}
use Rattle.std.proofs.lemmas.List.Sums.{sum_by-cons}
use Rattle.cache.specs.declared.slot.Cache.{Cache}
use Rattle.cache.specs.Contents.{Blocks, Contents}
use Rattle.cache.specs.Slots.{Slot, same, blocks, each_once}

abbrev pub Once : Cache → List Slot → Type 0
Once o [] = Unit {0}
Once o (None ∷ es) = Once o es
Once o (Some e ∷ es) = (same e.cache o ≡ true → blocks o es e.block ≡ None) × Once o es

pub once_rest : (o : Cache) (y : Slot) (ys : List Slot) → Once o (y ∷ ys) → Once o ys
once_rest o None ys u = u
once_rest o (Some e) ys u = u.1

none_from : (q : Bool) (l : Option (List ℕ)) → not (q && is_some l) ≡ true → q ≡ true → l ≡ None
none_from true None h e = refl
none_from true (Some x) h e = absurd (false≢true h)
none_from false l h e = absurd (false≢true e)

none_back : (q : Bool) (l : Option (List ℕ)) → (q ≡ true → l ≡ None) → not (q && is_some l) ≡ true
none_back true None h = refl
none_back true (Some x) h = let e = h refl in cc
none_back false l h = refl

pub once_from : (o : Cache) (es : List Slot) → each_once o es ≡ true → Once o es
once_from o [] h = tt
once_from o (None ∷ es) h = once_from o es h
once_from o (Some e ∷ es) h =
    let p = and_parts (not (same e.cache o && is_some (blocks o es e.block))) (each_once o es) h in
    (none_from (same e.cache o) (blocks o es e.block) p.0, once_from o es p.1)

pub once_back : (o : Cache) (es : List Slot) → Once o es → each_once o es ≡ true
once_back o [] h = refl
once_back o (None ∷ es) h = once_back o es h
once_back o (Some e ∷ es) h = and_from (not (same e.cache o && is_some (blocks o es e.block))) (each_once o es) (none_back (same e.cache o) (blocks o es e.block) h.0) (once_back o es h.1)

-- one slot more
pub count_step : (y : Slot) (ys : List Slot) → count_by is_none (y ∷ ys) ≡ cond (is_none y) 1 0 + count_by is_none ys
count_step y ys = sum_by-cons (λ (x : Slot). cond (is_none x) 1 0) y ys

pub same_contents : {f g u v : Blocks} {n m : ℕ} → ((k : ℕ) → f k ≡ g k) → ((k : ℕ) → u k ≡ v k) → n ≡ m → ◌≡◌ {A = Contents} (record { buffering = f; destaging = u; free = n }) (record { buffering = g; destaging = v; free = m })
same_contents p q r = λ i. record { buffering = λ k. p k i; destaging = λ k. q k i; free = r i }
