-- Member stores and logs that work: every list of device calls in range is completed. Assumes nothing.
use Rattle.std.proofs.Common.{◌≡◌, ℕ, ◌<◌, Bool, true, false, cond, ◌&&◌, eqb, List, [], ◌∷◌, ◌++◌, None, sym, refl, ◌∙◌, subst, inl, inr}
use Rattle.std.proofs.lemmas.Bool.{true≢false, eq-eqb, eqb-true, and_parts, and_from}
use Rattle.member_store.specs.Meaning as store
use Rattle.member_store.specs.Meaning.{current, Version, In, last_or}
use Rattle.member_store.specs.Calls.{checks, Stored, Barred}
use Rattle.member_store.proofs.Checks.{passing}
use Rattle.member_store.proofs.Versions.{last_cond, in_cond, in_last}
use Rattle.device_calls.specs.Lists.{DeviceCall, read, store, barrier, Completed}
use Rattle.device_calls.specs.Effects.{Every, InRange}
use Rattle.intent_log.specs.Meaning as intent
use Rattle.intent_log.specs.Meaning.{Standing}
use Rattle.intent_log.specs.Calls as log

abbrev pub Versions : Type 0
Versions = ℕ → ℕ → List (List ℕ)

-- every block has a version
abbrev pub Filled : Versions → Type 0
Filled vs = (i b : ℕ) → In (last_or [] (vs i b)) (vs i b)

-- logs

abbrev pub log_of : Bool → (ℕ → Bool) → intent.Meaning
log_of b f = record { on = true; standing = record { stands = b; names = f }; others = []; spent = false; fits = λ w. true; too_small = None }

pub can_log : (P : Standing → Type 0) (a b : Bool) (f h : ℕ → Bool) → P (record { stands = b; names = h }) → log.ChangeDone P (log_of a f) (log_of b h)
can_log P a b f h p = record { on = refl; same_size = refl; single = λ c w. elim w [ inl e ↦ e | inr v ↦ absurd v ]; holds = p }

module _ (m n : ℕ) where
  abbrev pub store_of : Versions → store.Meaning
  store_of vs = record { on = true; members = m; blocks = n; versions = vs }

  abbrev stored_at : ℕ → ℕ → List ℕ → Versions → Versions
  stored_at i b x vs k c = cond (eqb k i && eqb c b) (vs k c ++ x ∷ []) (vs k c)

  abbrev barred_at : Versions → Versions
  barred_at vs k c = last_or [] (vs k c) ∷ []

  same_place : (i b k c : ℕ) → (eqb k i && eqb c b) ≡ true → (k ≡ i) × (c ≡ b)
  same_place i b k c e = let p = and_parts (eqb k i) (eqb c b) e in (eqb-true k i p.0, eqb-true c b p.1)

  is_place : (i b : ℕ) → (eqb i i && eqb b b) ≡ true
  is_place i b = and_from (eqb i i) (eqb b b) (eq-eqb i i refl) (eq-eqb b b refl)

  can_store : (i b : ℕ) (x : List ℕ) (vs : Versions) → Stored (store_of vs) i b x (store_of (stored_at i b x vs))
  can_store i b x vs = record {
    on = refl;
    sized = record { members = refl; blocks = refl };
    here = sym (last_cond (eqb i i && eqb b b) [] (vs i b) x x (λ e. refl) (λ e. absurd (true≢false (sym (is_place i b) ∙ e))));
    elsewhere = λ k c p ne. sym (last_cond (eqb k i && eqb c b) [] (vs k c) x (last_or [] (vs k c)) (λ e. absurd (ne (same_place i b k c e))) (λ e. refl));
    former = λ k c v p w. elim (in_cond (eqb k i && eqb c b) (vs k c) x v w) [ inl u ↦ inl u | inr e ↦ inr ((same_place i b k c e.0).0, (same_place i b k c e.0).1, e.1) ];
  }

  stored_filled : (i b : ℕ) (x : List ℕ) (vs : Versions) → Filled vs → Filled (stored_at i b x vs)
  stored_filled i b x vs f k c = go (eqb k i && eqb c b)
    where
      go : (q : Bool) → In (last_or [] (cond q (vs k c ++ x ∷ []) (vs k c))) (cond q (vs k c ++ x ∷ []) (vs k c))
      go true = in_last (last_or [] (vs k c ++ x ∷ [])) (vs k c) x (sym (last_cond true [] (vs k c) x x (λ e. refl) (λ e. absurd (true≢false e))))
      go false = f k c

  can_bar : (vs : Versions) → Filled vs → Barred (store_of vs) (store_of (barred_at vs))
  can_bar vs f = record {
    on = refl;
    sized = record { members = refl; blocks = refl };
    same = λ k c p. refl;
    only = λ k c v p w. elim w [ inl e ↦ e | inr u ↦ absurd u ];
    former = λ k c v p w. elim w [ inl e ↦ subst (λ (y : List ℕ). In y (vs k c)) (sym e) (f k c) | inr u ↦ absurd u ];
  }

  abbrev pub performed : List DeviceCall → Versions → Versions
  performed [] vs = vs
  performed (read i b ∷ os) vs = performed os vs
  performed (store i b x ∷ os) vs = performed os (stored_at i b x vs)
  performed (barrier ∷ os) vs = performed os (barred_at vs)

  passes : (i b : ℕ) (vs : Versions) → (i < m) × (b < n) → checks (store_of vs) i b 512 ≡ None
  passes i b vs p = passing true m n i b 512 (record { on = refl; member = p.0; block = p.1; long = refl })

  pub performed_filled : (os : List DeviceCall) (vs : Versions) → Filled vs → Filled (performed os vs)
  performed_filled [] vs f = f
  performed_filled (read i b ∷ os) vs f = performed_filled os vs f
  performed_filled (store i b x ∷ os) vs f = performed_filled os (stored_at i b x vs) (stored_filled i b x vs f)
  performed_filled (barrier ∷ os) vs f = performed_filled os (barred_at vs) (λ k c. inl refl)

  pub can_perform : (os : List DeviceCall) (vs : Versions) → Filled vs → Every (InRange (store_of vs)) os → Completed os (store_of vs) (store_of (performed os vs))
  can_perform [] vs f r = refl
  can_perform (read i b ∷ os) vs f r = (store_of vs, (passes i b vs r.0, refl), can_perform os vs f r.1)
  can_perform (store i b x ∷ os) vs f r =
      (store_of (stored_at i b x vs), (passes i b vs r.0, can_store i b x vs), can_perform os (stored_at i b x vs) (stored_filled i b x vs f) (range os r.1))
    where
      range : (os : List DeviceCall) → Every (InRange (store_of vs)) os → Every (InRange (store_of (stored_at i b x vs))) os
      range [] h = tt
      range (read j c ∷ os) h = (h.0, range os h.1)
      range (store j c y ∷ os) h = (h.0, range os h.1)
      range (barrier ∷ os) h = (tt, range os h.1)
  can_perform (barrier ∷ os) vs f r = (store_of (barred_at vs), (refl, can_bar vs f), can_perform os (barred_at vs) (λ k c. inl refl) (range os r.1))
    where
      range : (os : List DeviceCall) → Every (InRange (store_of vs)) os → Every (InRange (store_of (barred_at vs))) os
      range [] h = tt
      range (read j c ∷ os) h = (h.0, range os h.1)
      range (store j c y ∷ os) h = (h.0, range os h.1)
      range (barrier ∷ os) h = (tt, range os h.1)
