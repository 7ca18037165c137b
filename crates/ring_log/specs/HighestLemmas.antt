-- What stands, by the records that it is above; and what may stand, by one choice for each slot.
use Rattle.std.specs.Prelude.{◌≡◌, ℕ, zero, suc, ◌<◌, ◌≤◌, true, false, cond, ◌⊎◌, List, [], ◌∷◌, ◌++◌, map, Some, None, Option, ◌==◌, ◌≢◌, nat_lt, refl}
use Rattle.std.proofs.Common.{sym, ap, subst, ◌∙◌, inl, inr, ⊎_elim, arith}
use Rattle.std.specs.List.{flat_map}
use Rattle.std.proofs.lemmas.Bool.{ltb-true, ltb-false, eqb-true, eqb-false, cases_Bool, cases_order, cases_eq}
use Rattle.member_store.specs.Meaning.{In}
use Rattle.record.specs.Contents.{Contents}
use Rattle.record.proofs.Steps.{some≢none, some_same}
use Rattle.intent_log.proofs.Changes.{in_map, map_in}
use Rattle.ring_log.specs.Highest.{better, highest, candidates, version_of}

abbrev Found : Type 0
Found = Option (ℕ × Contents)

-- r stands in slot k of the first n
pub record Top (f : ℕ → Option Contents) (n k : ℕ) (r : Contents) : Type 0 where
  pub below : k < n
  pub here : f k ≡ Some r
  pub above : (i : ℕ) (q : Contents) → i < n → f i ≡ Some q → (q.version < r.version) ⊎ ((q.version ≡ r.version) × (k ≤ i))

abbrev pub Empty : (ℕ → Option Contents) → ℕ → Type 0
Empty f n = (i : ℕ) → i < n → f i ≡ None

-- what `highest` answers
abbrev pub Stands : (ℕ → Option Contents) → ℕ → Found → Type 0
Stands f n None = Empty f n
Stands f n (Some x) = Top f n x.0 x.1

below_suc : {n i : ℕ} → i < suc n → (i < n) ⊎ (i ≡ n)
below_suc {n} {i} h = ⊎_elim (λ e. inr e) (⊎_elim inl (λ k. absurd (omega arith))) (cases_order i n)

step : (f : ℕ → Option Contents) (n : ℕ) (b : Found) (o : Option Contents) → f n ≡ o → Stands f n b → Stands f (suc n) (better b n o)
step f n None None e h = λ i l. ⊎_elim (h i) (λ q. ap f q ∙ e) (below_suc l)
step f n (Some x) None e h = record {
  below = let k = h.below in omega arith;
  here = h.here;
  above = λ i q l p. ⊎_elim (λ k. h.above i q k p) (λ z. absurd (some≢none (sym p ∙ ap f z ∙ e))) (below_suc l);
}
step f n None (Some r) e h = record {
  below = omega arith;
  here = e;
  above = λ i q l p. ⊎_elim (λ k. absurd (some≢none (sym p ∙ h i k))) (λ z. inr (ap (λ (y : Contents). y.version) (some_same (sym p ∙ ap f z ∙ e)), omega arith)) (below_suc l);
}
step f n (Some x) (Some r) e h =
    ⊎_elim
    (λ t. let lt = ltb-true x.1.version r.version t in rw t (record {
      below = omega arith;
      here = e;
      above = λ i q l p. ⊎_elim (λ k. inl (⊎_elim (λ a. omega arith) (λ a. let y = a.0 in omega arith) (h.above i q k p))) (λ z. inr (ap (λ (y : Contents). y.version) (some_same (sym p ∙ ap f z ∙ e)), omega arith)) (below_suc l);
    }))
    (λ t. let le = ltb-false x.1.version r.version t in rw t (record {
      below = let k = h.below in omega arith;
      here = h.here;
      above = λ i q l p. ⊎_elim (λ k. h.above i q k p) (λ z. let v : q.version ≡ r.version = ap (λ (y : Contents). y.version) (some_same (sym p ∙ ap f z ∙ e)) in let k = h.below in ⊎_elim (λ a. inr (a, omega arith)) (⊎_elim inl (λ a. absurd (omega arith))) (cases_order q.version x.1.version)) (below_suc l);
    }))
    (cases_Bool (nat_lt x.1.version r.version))

pub highest_stands : (f : ℕ → Option Contents) (n : ℕ) → Stands f n (highest f n)
unfolding highest
highest_stands f zero = λ i l. absurd (omega arith)
highest_stands f (suc n) = step f n (highest f n) (f n) refl (highest_stands f n)

-- only one answer stands
only_one : (f : ℕ → Option Contents) (n : ℕ) (b d : Found) → Stands f n b → Stands f n d → b ≡ d
only_one f n None None h k = refl
only_one f n None (Some y) h k = absurd (some≢none (sym k.here ∙ h y.0 k.below))
only_one f n (Some x) None h k = absurd (some≢none (sym h.here ∙ k x.0 h.below))
only_one f n (Some x) (Some y) h k =
    let a = h.above y.0 y.1 k.below k.here in
    let b = k.above x.0 x.1 h.below h.here in
    let s : x.0 ≡ y.0 = ⊎_elim (λ p. ⊎_elim (λ q. absurd (omega arith)) (λ q. let z = q.0 in absurd (omega arith)) b) (λ p. let z = p.0 in let w = p.1 in ⊎_elim (λ q. absurd (omega arith)) (λ q. let u = q.1 in omega arith) b) a in
    let r : x.1 ≡ y.1 = some_same (sym h.here ∙ ap f s ∙ k.here) in
    ap (λ (a : ℕ). Some (a, x.1)) s ∙ ap (λ (q : Contents). Some (y.0, q)) r

pub highest_from : (f : ℕ → Option Contents) (n : ℕ) (b : Found) → Stands f n b → highest f n ≡ b
highest_from f n b h = only_one f n (highest f n) b (highest_stands f n) h

pub stands_from : (f : ℕ → Option Contents) (n : ℕ) (b : Found) → highest f n ≡ b → Stands f n b
stands_from f n b e = subst (Stands f n) e (highest_stands f n)

-- the same in every slot
same_stands : (f g : ℕ → Option Contents) (n : ℕ) (b : Found) → ((i : ℕ) → i < n → g i ≡ f i) → Stands f n b → Stands g n b
same_stands f g n None e h = λ i l. e i l ∙ h i l
same_stands f g n (Some x) e h = record {
  below = h.below;
  here = e x.0 h.below ∙ h.here;
  above = λ i q l p. h.above i q l (sym (e i l) ∙ p);
}

pub highest_same : (f g : ℕ → Option Contents) (n : ℕ) → ((i : ℕ) → i < n → g i ≡ f i) → highest g n ≡ highest f n
highest_same f g n e = highest_from g n (highest f n) (same_stands f g n (highest f n) e (highest_stands f n))

-- no slot has more than what stands
pub most : (f : ℕ → Option Contents) (n : ℕ) (b : Found) → Stands f n b → (i : ℕ) (q : Contents) → i < n → f i ≡ Some q → q.version ≤ version_of b
most f n None h i q l p = absurd (some≢none (sym p ∙ h i l))
most f n (Some x) h i q l p = ⊎_elim (λ a. omega arith) (λ a. let z = a.0 in omega arith) (h.above i q l p)

-- a higher version put into slot k
pub highest_put : (f g : ℕ → Option Contents) (n k : ℕ) (r : Contents) → k < n → ((i : ℕ) → i < n → (i ≢ k) → g i ≡ f i) → g k ≡ Some r → version_of (highest f n) < r.version → highest g n ≡ Some (k, r)
highest_put f g n k r l e here up = highest_from g n (Some (k, r)) (record {
  below = l;
  here = here;
  above = λ i q j p. ⊎_elim (λ z. inr (ap (λ (y : Contents). y.version) (some_same (sym p ∙ ap g z ∙ here)), omega arith)) (λ z. let m = most f n (highest f n) (highest_stands f n) i q j (sym (e i j z) ∙ p) in inl (omega arith)) (cases_eq i k);
})

-- slots emptied, but not the one that stands
pub highest_thin : (f g : ℕ → Option Contents) (n k : ℕ) (r : Contents) → highest f n ≡ Some (k, r) → ((i : ℕ) → i < n → (g i ≡ f i) ⊎ (g i ≡ None)) → g k ≡ f k → highest g n ≡ Some (k, r)
highest_thin f g n k r b e same =
    let h = stands_from f n (Some (k, r)) b in
    highest_from g n (Some (k, r)) (record {
      below = h.below;
      here = same ∙ h.here;
      above = λ i q j p. ⊎_elim (λ z. h.above i q j (sym z ∙ p)) (λ z. absurd (some≢none (sym p ∙ z))) (e i j);
    })

pub highest_empty : (g : ℕ → Option Contents) (n : ℕ) → ((i : ℕ) → i < n → g i ≡ None) → highest g n ≡ None
highest_empty g n e = highest_from g n None e

-- membership
module _ {Y : Type 0} where
  in_append : (y : Y) (xs ys : List Y) → In y (xs ++ ys) → In y xs ⊎ In y ys
  in_append y [] ys h = inr h
  in_append y (x ∷ xs) ys (inl e) = inl (inl e)
  in_append y (x ∷ xs) ys (inr h) = ⊎_elim (λ k. inl (inr k)) inr (in_append y xs ys h)

  append_left : (y : Y) (xs ys : List Y) → In y xs → In y (xs ++ ys)
  append_left y [] ys h = elim h [ ]
  append_left y (x ∷ xs) ys (inl e) = inl e
  append_left y (x ∷ xs) ys (inr h) = inr (append_left y xs ys h)

  append_right : (y : Y) (xs ys : List Y) → In y ys → In y (xs ++ ys)
  append_right y [] ys h = h
  append_right y (x ∷ xs) ys h = inr (append_right y xs ys h)

module _ {X Y : Type 0} where
  pub in_joined : (f : X → List Y) (y : Y) (xs : List X) → In y (flat_map f xs) → (x : X) × (In x xs × In y (f x))
  in_joined f y [] h = elim h [ ]
  in_joined f y (x ∷ xs) h = ⊎_elim (λ k. (x, (inl refl, k))) (λ k. let r = in_joined f y xs k in (r.0, (inr r.1.0, r.1.1))) (in_append y (f x) (flat_map f xs) h)

  pub joined_in : (f : X → List Y) (y : Y) (x : X) (xs : List X) → In x xs → In y (f x) → In y (flat_map f xs)
  joined_in f y x [] h k = elim h [ ]
  joined_in f y x (w ∷ xs) (inl e) k = append_left y (f w) (flat_map f xs) (subst (λ z. In y (f z)) e k)
  joined_in f y x (w ∷ xs) (inr h) k = append_right y (f w) (flat_map f xs) (joined_in f y x xs h k)

-- one choice for each slot
abbrev pub Chosen : (ℕ → List (Option Contents)) → ℕ → Found → Type 0
Chosen fs n x = (c : ℕ → Option Contents) × (((i : ℕ) → i < n → In (c i) (fs i)) × (x ≡ highest c n))

extended : (ℕ → Option Contents) → ℕ → Option Contents → ℕ → Option Contents
extended c n o i = cond (i == n) o (c i)

extended_here : (c : ℕ → Option Contents) (n : ℕ) (o : Option Contents) → extended c n o n ≡ o
unfolding extended
extended_here c n o = elim (n == n) as (λ b. (n == n) ≡ b → cond b o (c n) ≡ o) [ true ↦ λ _. refl | false ↦ λ e. absurd (eqb-false n n e refl) ] refl

extended_else : (c : ℕ → Option Contents) (n : ℕ) (o : Option Contents) (i : ℕ) → (i ≢ n) → extended c n o i ≡ c i
unfolding extended
extended_else c n o i d = elim (i == n) as (λ b. (i == n) ≡ b → cond b o (c i) ≡ c i) [ true ↦ λ e. absurd (d (eqb-true i n e)) | false ↦ λ _. refl ] refl

pub chosen_from : (fs : ℕ → List (Option Contents)) (n : ℕ) (x : Found) → In x (candidates fs n) → Chosen fs n x
unfolding candidates highest
chosen_from fs zero x (inl e) = ((λ i. None), ((λ i l. absurd (omega arith)), e))
chosen_from fs zero x (inr h) = elim h [ ]
chosen_from fs (suc n) x h =
    let j = in_joined (λ b. map (better b n) (fs n)) x (candidates fs n) h in
    let p = chosen_from fs n j.0 j.1.0 in
    let q = in_map (better j.0 n) x (fs n) j.1.1 in
    let c = extended p.0 n q.0 in
    let old : highest c n ≡ highest p.0 n = highest_same p.0 c n (λ i l. extended_else p.0 n q.0 i (λ e. omega arith)) in
    let new = extended_here p.0 n q.0 in
    (c, ((λ i l. ⊎_elim (λ k. subst (λ o. In o (fs i)) (sym (extended_else p.0 n q.0 i (λ e. omega arith))) (p.1.0 i k)) (λ e. subst (λ k. In (c k) (fs k)) (sym e) (subst (λ o. In o (fs n)) (sym new) q.1.0)) (below_suc l)), q.1.1 ∙ ap (λ b. better b n q.0) (p.1.1 ∙ sym old) ∙ ap (better (highest c n) n) (sym new)))

pub chosen_in : (fs : ℕ → List (Option Contents)) (n : ℕ) (c : ℕ → Option Contents) → ((i : ℕ) → i < n → In (c i) (fs i)) → In (highest c n) (candidates fs n)
unfolding candidates highest
chosen_in fs zero c h = inl refl
chosen_in fs (suc n) c h = joined_in (λ b. map (better b n) (fs n)) (highest c (suc n)) (highest c n) (candidates fs n) (chosen_in fs n c (λ i l. h i (omega arith))) (map_in (better (highest c n) n) (c n) (fs n) (h n (omega arith)))
