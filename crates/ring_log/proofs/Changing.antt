-- What a change that ends with a put comes to.
use Rattle.std.proofs.Common.{◌≡◌, ℕ, ◌+◌, ◌<◌, ◌≤◌, Bool, true, false, ◌&&◌, eqb, leb, List, [], ◌∷◌, length, is_some, IfOk, Some, None, Ok, Err, Option, Result, sym, refl, ap, ◌∙◌, subst, inl, inr, arith}
use Rattle.std.proofs.lemmas.Bool.{and_parts, and_right, both_ways, le-leb, lt-leb, cond-false, eq-eqb, ne_eqb, or_left, or_right, false≢true}
use Rattle.member_store.specs.Meaning.{Meaning, In}
use Rattle.device_calls.specs.Lists.{DeviceCall}
use Rattle.device_calls.proofs.Refusals.{CurrentStands}
use Rattle.stripe_set.specs.Named.{named}
use Rattle.stripe_set.specs.Union.{merged}
use Rattle.stripe_set.proofs.Lists.{merged_both}
use Rattle.record.specs.Contents.{Contents}
use Rattle.intent_log.specs.Meaning.{Standing, listed}
use Rattle.intent_log.specs.Calls.{Changes, Marks, Freshens, Clears, Includes, NamesList, NamesNothing, mark_checks, fresh_checks, power_checks}
use Rattle.intent_log.specs.Devices.{MakesChange}
use Rattle.intent_log.specs.declared.refusal.LogRefusal.{LogRefusal}
use Rattle.intent_log.specs.declared.refusal.LogRefusal.TheVariants.{DoesNotFit}
use Rattle.intent_log.proofs.Changes.{refused_went, makes_passed}
use Rattle.ring_log.specs.Highest.{version_of, stripes_of, present}
use Rattle.ring_log.specs.Ring.{standing_of, stands_in, ring, Steady, Sound}
use Rattle.ring_log.specs.declared.ring.StandingRecord.{StandingRecord}
use Rattle.ring_log.specs.Kept.{kept}
use Rattle.ring_log.specs.Own.{contents_of, put_record, put_calls, next_record, clear_calls, cleared, standing, OwnClear}
use Rattle.ring_log.specs.Puts.{Puts, Put, Remembers, puts, cut_short, completed, steady_same, steady_single}

pub named_in : (s : ℕ) (ss : List ℕ) → In s ss → named s ss ≡ true
named_in s [] h = elim h [ ]
named_in s (x ∷ xs) (inl e) = or_left _ _ (eq-eqb s x e)
named_in s (x ∷ xs) (inr h) = or_right (eqb s x) _ (named_in s xs h)

module _ {s t : Meaning} {a a' : Bool} {r : Contents} {b b' : Option (ℕ × Contents)} {x : Result (Unit {0}) LogRefusal} (p : Put s a b r x t a' b') (h : Sound a s b) (up : version_of b < r.version) where
  abbrev old : Standing
  old = standing_of (stands_in s.members s.blocks s)

  abbrev new : Standing
  new = standing_of (put_record s.members s.blocks r)

  same : b ≡ stands_in s.members s.blocks s
  same = (h p.on).same

  done : Puts s r x t
  done = puts s r b p.some (and_parts a s.on p.on).1 (h p.on) p.valid up x t p.calls

  sound_by : (q : Result (Unit {0}) LogRefusal) → Puts s r q t → Remembers s r b q b' → Sound a' t b'
  sound_by (Ok u) w m = λ _. steady_same s t b' w.sized (subst (Steady s.members s.blocks t) (sym m) w.steady)
  sound_by (Err e) w m = λ o. absurd (both_ways (a' && t.on) (and_right a' t.on w.1.off) o)

  pub sound_after : Sound a' t b'
  sound_after = sound_by x done p.memory

  changes_by : (checks : Option LogRefusal) (P Q : Standing → Type 0) (q : Result (Unit {0}) LogRefusal) → Puts s r q t → checks ≡ None → P new → Q old → Q new → Changes checks P Q (ring a s) q (ring a' t)
  changes_by checks P Q (Ok u) w n pn qo qn = (n, completed s t a a' r p.some p.law P (p.awake ∙ (and_parts a s.on p.on).0) w pn)
  changes_by checks P Q (Err e) w n pn qo qn =
      refused_went checks e (ring a' t ≡ ring a s) _ n w.0 (cut_short s t a a' r p.some p.law Q w.1 qo qn)

  stands_by : (q : Result (Unit {0}) LogRefusal) → Puts s r q t → IfOk q (λ _. standing t ≡ put_record s.members s.blocks r)
  stands_by (Ok u) w = sym (steady_same s t _ w.sized w.steady).same
  stands_by (Err e) w = tt

  -- of a record that is the next one
  pub own : (checks : Option LogRefusal) (ss : List ℕ) → checks ≡ None → r ≡ next_record b ss → MakesChange checks (put_calls s.members s.blocks (next_record (standing s) ss)) (standing t ≡ put_record s.members s.blocks (next_record (standing s) ss)) s x t
  own checks ss n e =
      subst (λ (q : Contents). MakesChange checks (put_calls s.members s.blocks q) (standing t ≡ put_record s.members s.blocks q) s x t) (e ∙ ap (λ (z : Option (ℕ × Contents)). next_record z ss) same)
      (makes_passed checks (put_calls s.members s.blocks r) (standing t ≡ put_record s.members s.blocks r) s x t n p.calls (stands_by x done))

  module _ (w : List ℕ) (pr : present b ≡ true) (li : listed w ≡ true) (sp : version_of b < 4294967294) where
    spent : leb 4294967294 (version_of b) ≡ false
    spent = lt-leb 4294967294 (version_of b) sp

    po : present (stands_in s.members s.blocks s) ≡ true
    po = ap present (sym same) ∙ pr

    pub mark_passes : length (merged (stripes_of b) w) ≤ 64 → mark_checks (ring a s) w ≡ None
    mark_passes fe = let fits : leb (length (merged (stripes_of b) w)) 64 ≡ true = le-leb _ 64 fe in rw (← same) (simp (p.on, pr, li, spent, fits))

    pub fresh_passes : fresh_checks (ring a s) w ≡ None
    fresh_passes = rw (← same) (simp (p.on, pr, li, spent))

    pub marks : r.stripes ≡ merged (stripes_of b) w → length (merged (stripes_of b) w) ≤ 64 → Marks w (ring a s) x (ring a' t)
    marks me fe =
        let cov : Includes new old = λ i k. ap (named i) me ∙ merged_both (stripes_of b) w i ∙ or_left _ _ (ap (λ (z : Option (ℕ × Contents)). named i (stripes_of z)) same ∙ k) in
        let lis : NamesList new w = λ i k. ap (named i) me ∙ merged_both (stripes_of b) w i ∙ or_right (named i (stripes_of b)) _ (named_in i w k) in
        changes_by (mark_checks (ring a s) w) (λ c. (c.stands ≡ true) × Includes c old × NamesList c w) (λ c. (c.stands ≡ true) × Includes c old) x done (mark_passes fe)
        (refl, cov, lis) (po, λ i k. k) (refl, cov)

    pub freshens : r.stripes ≡ w → Freshens w (ring a s) x (ring a' t)
    freshens me =
        changes_by (fresh_checks (ring a s) w) (λ c. (c.stands ≡ true) × NamesList c w) (λ c. c.stands ≡ true) x done fresh_passes
        (refl, λ i k. ap (named i) me ∙ named_in i w k) po refl

  pub clear_passes : power_checks (ring a s) ≡ None
  clear_passes = simp p.on

  pub clears : r.stripes ≡ [] → Clears (ring a s) x (ring a' t)
  clears me =
      let none : NamesNothing new = λ i. ap (named i) me in
      changes_by (power_checks (ring a s)) (λ c. (c.stands ≡ true) × NamesNothing c) (λ c. old.stands ≡ true → (c.stands ≡ true) × Includes old c) x done clear_passes
      (refl, none) (λ k. (k, λ i j. j)) (λ k. (refl, λ i j. absurd (both_ways (named i r.stripes) (none i) j)))

-- a clear of an empty record
pub cleared_same : (s : Meaning) (a : Bool) (b : Option (ℕ × Contents)) → 1 ≤ s.members → CurrentStands s → (a && s.on) ≡ true → Sound a s b → present b ≡ true → stripes_of b ≡ [] → Clears {U = Unit {0}} (ring a s) (Ok tt) (ring a s)
cleared_same s a b l law on h pr em =
    let same = (h on).same in (
      simp on,
      record {
        on = on;
        same_size = refl;
        single = steady_single s.members s.blocks a s b l law (h on);
        holds = (ap present (sym same) ∙ pr, λ i. ap (λ (z : Option (ℕ × Contents)). named i (stripes_of z)) (sym same) ∙ ap (named i) em);
      },
    )

-- ---- refusals, and clears of each kind

pub does_not_fit : (s : Meaning) (a : Bool) (b : Option (ℕ × Contents)) (w : List ℕ) → (a && s.on) ≡ true → b ≡ standing s → present b ≡ true → listed w ≡ true → version_of b < 4294967294 → leb (length (merged (stripes_of b) w)) 64 ≡ false → mark_checks (ring a s) w ≡ Some (DoesNotFit (length w))
does_not_fit s a b w on same pr li sp fe =
    let spent : leb 4294967294 (version_of b) ≡ false = lt-leb 4294967294 (version_of b) sp in
    rw (← same) (simp (on, pr, li, spent, fe))

pub kept_present : (o : Option StandingRecord) → present (kept o) ≡ is_some o
kept_present None = refl
kept_present (Some x) = refl

pub none_kept : (o : Option StandingRecord) → is_some o ≡ false → kept o ≡ None
none_kept None e = refl
none_kept (Some x) e = absurd (false≢true (sym e))

pub next_is : (b : Option (ℕ × Contents)) (v : ℕ) (ss zs : List ℕ) → v ≡ version_of b → ss ≡ zs → contents_of (v + 1) ss ≡ next_record b zs
next_is b v ss zs e f = ap (λ (n : ℕ). contents_of (n + 1) ss) e ∙ ap (contents_of (version_of b + 1)) f

-- a clear that stores a record
abbrev pub PutsNext : ℕ → ℕ → Option (ℕ × Contents) → Type 0
PutsNext m n x = (clear_calls m n x ≡ put_calls m n (next_record x [])) × (cleared m n x ≡ put_record m n (next_record x []))

pub puts_next : (m n : ℕ) (x : Option (ℕ × Contents)) → (present x ≡ true → length (stripes_of x) ≡ 0 → ⊥) → PutsNext m n x
puts_next m n None h = (refl, refl)
puts_next m n (Some y) h =
    let q : eqb (length y.1.stripes) 0 ≡ false = ne_eqb (length y.1.stripes) 0 (h refl) in (cond-false (eqb (length y.1.stripes) 0) _ _ q, cond-false (eqb (length y.1.stripes) 0) _ _ q)

pub own_clear : (s t : Meaning) (a : Bool) (x : Result (Unit {0}) LogRefusal) → PutsNext s.members s.blocks (standing s) → MakesChange (power_checks (ring a s)) (put_calls s.members s.blocks (next_record (standing s) [])) (standing t ≡ put_record s.members s.blocks (next_record (standing s) [])) s x t → OwnClear a s x t
own_clear s t a x p h =
    subst (λ (os : List DeviceCall). MakesChange (power_checks (ring a s)) os (standing t ≡ cleared s.members s.blocks (standing s)) s x t) (sym p.0)
    (subst (λ (z : Option (ℕ × Contents)). MakesChange (power_checks (ring a s)) (put_calls s.members s.blocks (next_record (standing s) [])) (standing t ≡ z) s x t) (sym p.1) h)

pub empty_list : (ss : List ℕ) → length ss ≡ 0 → ss ≡ []
empty_list [] e = refl
empty_list (x ∷ xs) e = absurd (omega arith)
