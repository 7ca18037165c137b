-- The account of the script, call by call.
use Rattle.std.proofs.Common.{◌≡◌, ℕ, ◌+◌, ◌<◌, ◌≤◌, ◌⊎◌, List, length, Err, sym, refl, ap, ◌∙◌, subst, inl, inr, ⊎_elim, arith}
use Rattle.std.proofs.lemmas.Bool.{cases_eq}
use Rattle.member_store.specs.Meaning.{Meaning, Version, current, HasBlock}
use Rattle.member_store.specs.Calls.{SameCounts, Stored, Barred, Stores, Bars, checks, barrier_checks}
use Rattle.member_store.specs.declared.refusal.Refusal.{Refusal}
use Rattle.block_address.specs.declared.Address.{Address}
use Rattle.member_store.proofs.Refusals.{refused_cases}
use Rattle.cut_script.specs.Script.{place, LastStore}
use Rattle.cut_script.specs.Account.{fill, at, StoredSince, StoodAtBarrier, Accounted}

-- What holds between two calls: the account, and which store's bytes are current.
pub record Account (s t : Meaning) (made barred : ℕ) : Type 0 where
  pub sized : SameCounts s t
  pub versions : Accounted s made barred t
  pub last : (m b : ℕ) → HasBlock s m b → (k : ℕ) × LastStore (at m b) made k × (1 ≤ k → current t m b ≡ fill k)

none_yet : (p : Address) → LastStore p 0 0
none_yet p = (omega arith, inl refl, λ k l h e. omega arith)

pub start : (s : Meaning) → Account s s 0 0
start s = record {
  sized = record { members = refl; blocks = refl };
  versions = λ m b v h k. inr (0, none_yet (at m b), inl (refl, k));
  last = λ m b h. (0, none_yet (at m b), λ l. absurd (let z : ⊥ = omega arith in z));
}

-- one more store made
more : (s t : Meaning) (d n barred : ℕ) → n ≡ d + 1 → Accounted s d barred t → Accounted s n barred t
more s t d n barred e a m b v h k = ⊎_elim (λ x. inl (x.0, x.1, (let l = x.2 in omega arith), x.3, x.4)) inr (a m b v h k)

-- the block of a store, or another
here_or_not : (n m b : ℕ) → (place n ≡ at m b) ⊎ ((m ≡ (place n).member) × (b ≡ (place n).block) → ⊥)
here_or_not n m b =
    ⊎_elim
    (λ e. ⊎_elim (λ f. inl (ap (λ x. at x (place n).block) (sym e) ∙ ap (at m) (sym f))) (λ f. inr (λ p. f p.1)) (cases_eq b (place n).block))
    (λ e. inr (λ p. e p.0))
    (cases_eq m (place n).member)

parts : (n m b : ℕ) → place n ≡ at m b → (m ≡ (place n).member) × (b ≡ (place n).block)
parts n m b e = (sym (ap (λ p. p.member) e), sym (ap (λ p. p.block) e))

last_here : (p : Address) (n : ℕ) → place n ≡ p → LastStore p n n
last_here p n e = (omega arith, inr e, λ k l h f. omega arith)

last_not : (p : Address) (d n k : ℕ) → n ≡ d + 1 → (place n ≡ p → ⊥) → LastStore p d k → LastStore p n k
last_not p d n k e differ l = (
  (let x = l.0 in omega arith),
  l.1,
  λ i a h f.
      ⊎_elim (λ x. differ (subst (λ j. place j ≡ p) x f)) (λ x. l.2 i a (omega (arith, x)) f) (cases_eq i n),
)

module _ (s t u : Meaning) (d n barred : ℕ) (e : n ≡ d + 1) (a : Account s t d barred) where
  has : {m b : ℕ} → HasBlock s m b → HasBlock t m b
  has {m} {b} h = (subst (λ x. m < x) (sym a.sized.members) h.0, subst (λ x. b < x) (sym a.sized.blocks) h.1)

  gained : barred ≤ d → (m b : ℕ) (v : List ℕ) → HasBlock s m b → Version t m b v ⊎ ((m ≡ (place n).member) × (b ≡ (place n).block) × (v ≡ fill n)) → StoredSince n barred m b v ⊎ StoodAtBarrier s barred m b v
  gained o m b v h = ⊎_elim (λ k. more s t d n barred e a.versions m b v h k) (λ x. inl (n, omega arith, omega arith, ap (λ i. at i (place n).block) (sym x.0) ∙ ap (at m) (sym x.1), x.2))

  pub stored : barred ≤ d → Stored t (place n).member (place n).block (fill n) u → Account s u n barred
  stored o k = record {
    sized = record { members = k.sized.members ∙ a.sized.members; blocks = k.sized.blocks ∙ a.sized.blocks };
    versions = λ m b v h j. gained o m b v h (k.former m b v (has h) j);
    last = λ m b h.
        ⊎_elim
        (λ y. (n, last_here (at m b) n y, λ _. let q = parts n m b y in ap (λ i. current u i b) q.0 ∙ ap (current u (place n).member) q.1 ∙ k.here))
        (λ y. let l = a.last m b h in (l.0, last_not (at m b) d n l.0 e (λ f. y (parts n m b f)) l.1, λ z. k.elsewhere m b (has h) y ∙ l.2 z))
        (here_or_not n m b);
  }

  pub store_refused : (c : Refusal) → barred ≤ d → Stores {U = Unit {0}} t (place n).member (place n).block (fill n) (Err c) u → Accounted s n barred u
  store_refused c o k =
      ⊎_elim
      (λ x. λ m b v h j. gained o m b v h (x.1.1.former m b v (has h) j))
      (λ x. subst (Accounted s n barred) (sym x.1) (more s t d n barred e a.versions))
      (refused_cases (checks t (place n).member (place n).block (length (fill n))) c _ _ k)

module _ (s t u : Meaning) (n barred : ℕ) (a : Account s t n barred) where
  has_too : {m b : ℕ} → HasBlock s m b → HasBlock t m b
  has_too {m} {b} h = (subst (λ x. m < x) (sym a.sized.members) h.0, subst (λ x. b < x) (sym a.sized.blocks) h.1)

  -- without a store to the block, what stands stood before the script
  untouched : (m b : ℕ) (v : List ℕ) → barred ≤ n → LastStore (at m b) n 0 → StoredSince n barred m b v ⊎ StoodAtBarrier s barred m b v → Version s m b v
  untouched m b v o l (inl x) = absurd (l.2 x.0 (let q = x.1 in omega arith) x.2 x.3)
  untouched m b v o l (inr (k, f, inl y)) = y.1
  untouched m b v o l (inr (k, f, inr y)) =
      absurd (⊎_elim (λ z. let q = y.0 in omega arith) (λ z. l.2 k y.0 (let q = f.0 in omega arith) z) f.1)

  at_barrier : (m b : ℕ) (v : List ℕ) (k : ℕ) → barred ≤ n → HasBlock s m b → LastStore (at m b) n k → v ≡ current t m b → Version t m b v → (1 ≤ k → current t m b ≡ fill k) → StoodAtBarrier s n m b v
  at_barrier m b v k o h l e j f =
      ⊎_elim
      (λ z. (0, subst (LastStore (at m b) n) z l, inl (refl, untouched m b v o (subst (LastStore (at m b) n) z l) (a.versions m b v h j))))
      (λ z. let some : 1 ≤ k = omega arith in (k, l, inr (some, e ∙ f some)))
      (cases_eq k 0)

  pub barred_at : barred ≤ n → Barred t u → Account s u n n
  barred_at o k = record {
    sized = record { members = k.sized.members ∙ a.sized.members; blocks = k.sized.blocks ∙ a.sized.blocks };
    versions = λ m b v h j. let l = a.last m b h in inr (at_barrier m b v l.0 o h l.1 (k.only m b v (has_too h) j) (k.former m b v (has_too h) j) l.2);
    last = λ m b h. let l = a.last m b h in (l.0, l.1, λ z. k.same m b (has_too h) ∙ l.2 z);
  }

  pub barrier_refused : (c : Refusal) → Bars {U = Unit {0}} t (Err c) u → Accounted s n barred u
  barrier_refused c k =
      ⊎_elim
      (λ x. λ m b v h j. a.versions m b v h (x.1.1.former m b v (has_too h) j))
      (λ x. subst (Accounted s n barred) (sym x.1) a.versions)
      (refused_cases (barrier_checks t) c _ _ k)
