-- The cases of a call: by state, by checks, by what the checks say. Assumes nothing.
use Rattle.std.proofs.Common.{◌≡◌, ℕ, ◌<◌, ◌≤◌, Bool, true, false, cond, eqb, ltb, ◌⊎◌, Some, None, Ok, Err, Option, Result, sym, refl, subst, inl, inr}
use Rattle.std.proofs.lemmas.Bool.{ltb-true, eqb-true, leb-true, and_parts}
use Rattle.std.specs.Option.{option_or}
use Rattle.geometry.specs.Counts.{counts_allowed, members_allowed}
use Rattle.array_model.specs.Meaning.{Meaning, Geometry, block_count}
use Rattle.array_model.specs.Work.{Declines}
use Rattle.array_model.specs.Checks.{block_checks}
use Rattle.array_model.specs.Calls.{Checked, NotAllowed, InDown, InResync, InReady, InShort}
use Rattle.array_model.specs.declared.state.Progress.{Progress}
use Rattle.array_model.specs.declared.state.State.{State}
use Rattle.array_model.specs.declared.state.State.TheVariants.{Fallen, Down, Resync, Ready, Short}
use Rattle.array_model.specs.declared.refusal.ArrayRefusal.{ArrayRefusal}
use Rattle.array_model.specs.declared.refusal.ArrayRefusal.TheVariants.{NoBlock, WrongLength}

pub ok≢err : {A : Type 0} {a : A} {e : ArrayRefusal} → ◌≡◌ {A = Result A ArrayRefusal} (Ok a) (Err e) → ⊥
ok≢err p = cc

module _ {A : Type 0} (s : Meaning) (r : Result A ArrayRefusal) (t : Meaning) where
  -- a declined call answers the refusal and leaves everything
  pub stay : (G : Result A ArrayRefusal → Meaning → Type 0) (e : ArrayRefusal) → Declines e s r t → G (Err e) s → G r t
  stay G e d h = subst (λ (u : Meaning). G r u) (sym d.1) (subst (λ (u : Result A ArrayRefusal). G u s) (sym d.0) h)

  pub checked : (c : Option ArrayRefusal) (P : Type 0) → Checked c s r t P → ((c ≡ None) × P) ⊎ ((e : ArrayRefusal) × (c ≡ Some e) × Declines e s r t)
  checked None P h = inl (refl, h)
  checked (Some e) P h = inr (e, refl, h)

  module _ (I : State → Type 0) (G : Type 0) where
    pub in_down : (P : Meaning → Result A ArrayRefusal → Meaning → Type 0) → (NotAllowed s r t → G) → (I Down → P s r t → s.state ≡ Down → G) → (q : State) → s.state ≡ q → I q → InDown P q s r t → G
    in_down P other here Fallen e i h = other h
    in_down P other here Down e i h = here i h e
    in_down P other here (Resync p) e i h = other h
    in_down P other here Ready e i h = other h
    in_down P other here (Short d) e i h = other h

    pub in_resync : (P : Progress → Meaning → Result A ArrayRefusal → Meaning → Type 0) → (NotAllowed s r t → G) → ((p : Progress) → I (Resync p) → P p s r t → s.state ≡ Resync p → G) → (q : State) → s.state ≡ q → I q → InResync P q s r t → G
    in_resync P other here Fallen e i h = other h
    in_resync P other here Down e i h = other h
    in_resync P other here (Resync p) e i h = here p i h e
    in_resync P other here Ready e i h = other h
    in_resync P other here (Short d) e i h = other h

    pub in_ready : (P : Meaning → Result A ArrayRefusal → Meaning → Type 0) → (NotAllowed s r t → G) → (I Ready → P s r t → s.state ≡ Ready → G) → (q : State) → s.state ≡ q → I q → InReady P q s r t → G
    in_ready P other here Fallen e i h = other h
    in_ready P other here Down e i h = other h
    in_ready P other here (Resync p) e i h = other h
    in_ready P other here Ready e i h = here i h e
    in_ready P other here (Short d) e i h = other h

    pub in_short : (P : ℕ → Meaning → Result A ArrayRefusal → Meaning → Type 0) → (NotAllowed s r t → G) → ((d : ℕ) → I (Short d) → P d s r t → s.state ≡ Short d → G) → (q : State) → s.state ≡ q → I q → InShort P q s r t → G
    in_short P other here Fallen e i h = other h
    in_short P other here Down e i h = other h
    in_short P other here (Resync p) e i h = other h
    in_short P other here Ready e i h = other h
    in_short P other here (Short d) e i h = here d i h e

-- checks that name no refusal

pub second_none : {A : Type 0} (x y : Option A) → option_or x y ≡ None → y ≡ None
second_none None y h = h
second_none (Some x) y h = cc

pub first_none : {A : Type 0} (x y : Option A) → option_or x y ≡ None → x ≡ None
first_none None y h = refl
first_none (Some x) y h = cc

pub passed : {A : Type 0} (q : Bool) (e : A) → cond q None (Some e) ≡ None → q ≡ true
passed true e h = refl
passed false e h = cc

pub unpassed : {A : Type 0} (q : Bool) (e : A) → cond q (Some e) None ≡ None → q ≡ false
unpassed true e h = cc
unpassed false e h = refl

pub block_passed : (g : Geometry) (k n : ℕ) → block_checks g k n ≡ None → (k < block_count g) × (n ≡ 512)
block_passed g k n h = (
  ltb-true k (block_count g) (passed (ltb k (block_count g)) (NoBlock k) (first_none (cond (ltb k (block_count g)) None (Some (NoBlock k))) (cond (eqb n 512) None (Some (WrongLength n))) h)),
  eqb-true n 512 (passed (eqb n 512) (WrongLength n) (second_none (cond (ltb k (block_count g)) None (Some (NoBlock k))) (cond (eqb n 512) None (Some (WrongLength n))) h)),
)

pub allowed_low : (m n : ℕ) → counts_allowed m n ≡ true → (3 ≤ m) × (m ≤ 8)
allowed_low m n h =
    let p = (and_parts (members_allowed m) _ h).0 in
    let q = and_parts _ _ p in
    (leb-true 3 m q.0, leb-true m 8 q.1)
