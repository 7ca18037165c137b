-- Rising lists: what they name, and two together.
use Rattle.std.proofs.Common.{◌≡◌, ℕ, zero, suc, ◌+◌, ◌<◌, ◌≤◌, Bool, true, false, cond, ◌&&◌, ◌||◌, eqb, ltb, leb, ◌⊎◌, List, [], ◌∷◌, length, get_or, drop, Some, None, sym, refl, ap, ◌∙◌, subst, inl, inr, ⊎_elim, add-one, arith}
use Rattle.std.proofs.lemmas.List.{drop_more}
use Rattle.std.proofs.lemmas.Bool.{and_parts, and_from, leb-true, ltb-true, lt-ltb, le-leb, ne_eqb, eq-eqb, or_from, or_left, or_right, or_cases, eqb-true, eqb-false, cond-true, ltb-false, cases_order}
use Rattle.stripe_set.specs.Rising.{rising}
use Rattle.stripe_set.specs.Stripes.{bounded}
use Rattle.stripe_set.specs.Named.{named, InBoth}
use Rattle.stripe_set.specs.Union.{placed, merged}

-- nothing below the least
pub below_none : (a s : ℕ) (ss : List ℕ) → rising a ss ≡ true → s < a → named s ss ≡ false
below_none a s [] r h = refl
below_none a s (x ∷ xs) r h =
    let p = and_parts _ _ r in
    let l = leb-true a x p.0 in
    or_from _ _ (ne_eqb s x (λ e. omega arith)) (below_none (x + 1) s xs (and_parts _ _ p.1).1 (omega arith))

pub rising_weaker : (a b : ℕ) (ss : List ℕ) → a ≤ b → rising b ss ≡ true → rising a ss ≡ true
rising_weaker a b [] h r = refl
rising_weaker a b (s ∷ ss) h r =
    let p = and_parts _ _ r in let l = leb-true b s p.0 in and_from _ _ (le-leb a s (omega arith)) p.1

pub rising_tail : (a s : ℕ) (ss : List ℕ) → rising a (s ∷ ss) ≡ true → (a ≤ s) × (s < 4294967296) × (rising (s + 1) ss ≡ true)
rising_tail a s ss r =
    let p = and_parts (leb a s) (ltb s 4294967296 && rising (s + 1) ss) r in
    let q = and_parts (ltb s 4294967296) (rising (s + 1) ss) p.1 in
    (leb-true a s p.0, ltb-true s 4294967296 q.0, q.1)

pub rising_cons : (a s : ℕ) (ss : List ℕ) → a ≤ s → s < 4294967296 → rising (s + 1) ss ≡ true → rising a (s ∷ ss) ≡ true
rising_cons a s ss l h r = and_from _ _ (le-leb a s l) (and_from _ _ (lt-ltb s 4294967296 h) r)

rising_suc : (a i : ℕ) (ss : List ℕ) → rising a ss ≡ true → i < length ss → rising (get_or ss i 0 + 1) (drop (suc i) ss) ≡ true
rising_suc a i [] r h = absurd (omega arith)
rising_suc a zero (s ∷ ss) r h = (rising_tail a s ss r).2
rising_suc a (suc i) (s ∷ ss) r h = rising_suc (s + 1) i ss (rising_tail a s ss r).2 (omega arith)

pub rising_past : (a i : ℕ) (ss : List ℕ) → rising a ss ≡ true → i < length ss → rising (get_or ss i 0 + 1) (drop (i + 1) ss) ≡ true
rising_past a i ss r h = subst (λ (j : ℕ). rising (get_or ss i 0 + 1) (drop j ss) ≡ true) (sym (add-one i)) (rising_suc a i ss r h)

pub rising_pair : (a i : ℕ) (ss : List ℕ) → rising a ss ≡ true → i + 1 < length ss → get_or ss i 0 < get_or ss (i + 1) 0
rising_pair a i ss r h =
    let t : rising (get_or ss i 0 + 1) (get_or ss (i + 1) 0 ∷ drop (i + 1 + 1) ss) ≡ true = rw (drop_more ss (i + 1) 0 h) at (rising_past a i ss r (omega arith)) in
    (let u : get_or ss i 0 + 1 ≤ get_or ss (i + 1) 0 = (rising_tail _ _ _ t).0 in omega arith)

pub rising_pairs : (a : ℕ) (ss : List ℕ) → (0 < length ss → a ≤ get_or ss 0 0) → ((k : ℕ) → k < length ss → get_or ss k 0 < 4294967296) → ((k j : ℕ) → j ≡ k + 1 → j < length ss → get_or ss k 0 < get_or ss j 0) → rising a ss ≡ true
rising_pairs a [] h small up = refl
rising_pairs a (s ∷ ss) h small up =
    rising_cons a s ss (h (omega arith)) (small 0 (omega arith))
    (rising_pairs (s + 1) ss (λ k. let u : s < get_or ss 0 0 = up 0 1 refl (omega arith) in omega arith) (λ k l. small (suc k) (omega arith)) (λ k j e l. up (suc k) (suc j) (omega arith) (omega arith)))

-- what stands in one of the two stands in both together
module _ (s x : ℕ) (xs : List ℕ) (rest : List ℕ → List ℕ) (left : (ys : List ℕ) → named s xs ≡ true → named s (rest ys) ≡ true) (right : (ys : List ℕ) → named s ys ≡ true → named s (rest ys) ≡ true) where
  placed_left : (ys : List ℕ) → named s (x ∷ xs) ≡ true → named s (placed x rest ys) ≡ true
  placed_left [] h = ⊎_elim (λ e. or_left _ _ e) (λ e. or_right (eqb s x) _ (left [] e)) (or_cases _ _ h)
  placed_left (y ∷ ys) h =
      elim (ltb x y) as (λ b. named s (cond b (x ∷ rest (y ∷ ys)) (cond (eqb x y) (x ∷ rest ys) (y ∷ placed x rest ys))) ≡ true) [ true ↦ ⊎_elim (λ e. or_left _ _ e) (λ e. or_right (eqb s x) _ (left (y ∷ ys) e)) (or_cases _ _ h) | false ↦ elim (eqb x y) as (λ b. named s (cond b (x ∷ rest ys) (y ∷ placed x rest ys)) ≡ true) [ true ↦ ⊎_elim (λ e. or_left _ _ e) (λ e. or_right (eqb s x) _ (left ys e)) (or_cases _ _ h) | false ↦ or_right (eqb s y) _ (placed_left ys h) ] ]

  placed_right : (ys : List ℕ) → named s ys ≡ true → named s (placed x rest ys) ≡ true
  placed_right [] h = or_right (eqb s x) _ (right [] h)
  placed_right (y ∷ ys) h =
      elim (ltb x y) as (λ b. named s (cond b (x ∷ rest (y ∷ ys)) (cond (eqb x y) (x ∷ rest ys) (y ∷ placed x rest ys))) ≡ true) [ true ↦ or_right (eqb s x) _ (right (y ∷ ys) h) | false ↦ elim (eqb x y) as (λ b. eqb x y ≡ b → named s (cond b (x ∷ rest ys) (y ∷ placed x rest ys)) ≡ true) [ true ↦ λ q. ⊎_elim (λ e. or_left _ _ (eq-eqb s x (eqb-true s y e ∙ sym (eqb-true x y q)))) (λ e. or_right (eqb s x) _ (right ys e)) (or_cases _ _ h) | false ↦ λ q. ⊎_elim (λ e. or_left _ _ e) (λ e. or_right (eqb s y) _ (placed_right ys e)) (or_cases _ _ h) ] refl ]

merged_has : (s : ℕ) (xs : List ℕ) → ((ys : List ℕ) → named s xs ≡ true → named s (merged xs ys) ≡ true) × ((ys : List ℕ) → named s ys ≡ true → named s (merged xs ys) ≡ true)
unfolding merged
merged_has s [] = ((λ ys h. absurd (let z : ◌≡◌ {A = ℕ} 0 1 = cc in omega arith)), (λ ys h. h))
merged_has s (x ∷ xs) =
    let i = merged_has s xs in
    (placed_left s x xs (λ zs. merged xs zs) i.0 i.1, placed_right s x xs (λ zs. merged xs zs) i.0 i.1)

-- and nothing else does
module _ (s x : ℕ) (xs : List ℕ) (rest : List ℕ → List ℕ) (only : (ys : List ℕ) → named s (rest ys) ≡ true → (named s xs ≡ true) ⊎ (named s ys ≡ true)) where
  abbrev Either : List ℕ → Type 0
  Either ys = (named s (x ∷ xs) ≡ true) ⊎ (named s ys ≡ true)

  first_or : (ys : List ℕ) → (eqb s x || named s (rest ys)) ≡ true → Either ys
  first_or ys h =
      ⊎_elim
      (λ e. inl (or_left _ _ e))
      (λ e. ⊎_elim (λ k. inl (or_right (eqb s x) _ k)) (λ k. inr k) (only ys e))
      (or_cases _ _ h)

  placed_only : (ys : List ℕ) → named s (placed x rest ys) ≡ true → Either ys
  placed_only [] h = first_or [] h
  placed_only (y ∷ ys) h =
      elim (ltb x y) as (λ b. named s (cond b (x ∷ rest (y ∷ ys)) (cond (eqb x y) (x ∷ rest ys) (y ∷ placed x rest ys))) ≡ true → Either (y ∷ ys)) [ true ↦ λ h. first_or (y ∷ ys) h | false ↦ elim (eqb x y) as (λ b. named s (cond b (x ∷ rest ys) (y ∷ placed x rest ys)) ≡ true → Either (y ∷ ys)) [ true ↦ λ h. ⊎_elim (λ k. inl k) (λ k. inr (or_right (eqb s y) _ k)) (first_or ys h) | false ↦ λ h. ⊎_elim (λ e. inr (or_left _ _ e)) (λ e. ⊎_elim (λ k. inl k) (λ k. inr (or_right (eqb s y) _ k)) (placed_only ys e)) (or_cases _ _ h) ] ] h

merged_only : (s : ℕ) (xs ys : List ℕ) → named s (merged xs ys) ≡ true → (named s xs ≡ true) ⊎ (named s ys ≡ true)
unfolding merged
merged_only s [] ys h = inr h
merged_only s (x ∷ xs) ys h = placed_only s x xs (λ zs. merged xs zs) (merged_only s xs) ys h

either_way : (a b c : Bool) → (a ≡ true → c ≡ true) → (b ≡ true → c ≡ true) → (c ≡ true → (a ≡ true) ⊎ (b ≡ true)) → c ≡ (a || b)
either_way true b c f g h = f refl
either_way false true c f g h = g refl
either_way false false true f g h = ⊎_elim (λ e. sym e) (λ e. sym e) (h refl)
either_way false false false f g h = refl

pub merged_both : (xs ys : List ℕ) → InBoth (merged xs ys) xs ys
merged_both xs ys s = either_way (named s xs) (named s ys) (named s (merged xs ys)) ((merged_has s xs).0 ys) ((merged_has s xs).1 ys) (merged_only s xs ys)

placed_rising : (x : ℕ) (xs : List ℕ) (rest : List ℕ → List ℕ) → ((b : ℕ) (ys : List ℕ) → rising b xs ≡ true → rising b ys ≡ true → rising b (rest ys) ≡ true) → (a : ℕ) (ys : List ℕ) → rising a (x ∷ xs) ≡ true → rising a ys ≡ true → rising a (placed x rest ys) ≡ true
placed_rising x xs rest f a [] p q = let t = rising_tail a x xs p in rising_cons a x (rest []) t.0 t.1 (f (x + 1) [] t.2 refl)
placed_rising x xs rest f a (y ∷ ys) p q =
    let t = rising_tail a x xs p in
    let u = rising_tail a y ys q in
    let t0 = t.0 in
    let u0 = u.0 in
    elim (ltb x y) as (λ b. ltb x y ≡ b → rising a (cond b (x ∷ rest (y ∷ ys)) (cond (eqb x y) (x ∷ rest ys) (y ∷ placed x rest ys))) ≡ true) [ true ↦ λ e. let l = ltb-true x y e in rising_cons a x (rest (y ∷ ys)) t.0 t.1 (f (x + 1) (y ∷ ys) t.2 (rising_cons (x + 1) y ys (omega arith) u.1 u.2)) | false ↦ λ e. let l = ltb-false x y e in elim (eqb x y) as (λ b. eqb x y ≡ b → rising a (cond b (x ∷ rest ys) (y ∷ placed x rest ys)) ≡ true) [ true ↦ λ k. let z = eqb-true x y k in rising_cons a x (rest ys) t.0 t.1 (f (x + 1) ys t.2 (rising_weaker (x + 1) (y + 1) ys (omega arith) u.2)) | false ↦ λ k. let z = eqb-false x y k in let d : y < x = elim (cases_order x y) [ inl w ↦ absurd (z w) | inr w ↦ elim w [ inl v ↦ absurd (omega arith) | inr v ↦ v ] ] in rising_cons a y (placed x rest ys) u.0 u.1 (placed_rising x xs rest f (y + 1) ys (rising_cons (y + 1) x xs (omega arith) t.1 t.2) u.2) ] refl ] refl

pub merged_rising : (xs : List ℕ) (a : ℕ) (ys : List ℕ) → rising a xs ≡ true → rising a ys ≡ true → rising a (merged xs ys) ≡ true
unfolding merged
merged_rising [] a ys p q = q
merged_rising (x ∷ xs) a ys p q = placed_rising x xs (λ zs. merged xs zs) (λ b zs k l. merged_rising xs b zs k l) a ys p q

pub or_skip : (x y : Bool) → x ≡ false → (x || y) ≡ y
or_skip x y e = rw e

pub same_merged : (xs ys xs' ys' : List ℕ) → xs ≡ xs' → ys ≡ ys' → merged xs ys ≡ merged xs' ys'
same_merged xs ys xs' ys' e f = ap (λ l. merged l ys) e ∙ ap (merged xs') f

-- ---- what a set can hold

pub within : (ss : List ℕ) → length ss ≤ 64 → rising 0 ss ≡ true → Some ss ≡ bounded ss
within ss h e = sym (cond-true (leb (length ss) 64 && rising 0 ss) (Some ss) None (and_from _ _ (le-leb (length ss) 64 h) e))
