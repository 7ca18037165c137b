-- A put of the flag, whole and cut: from its device calls to what the log means then.
use Rattle.std.specs.Prelude.{◌≡◌, ℕ, ◌≤◌, Bool, true, false, ◌&&◌, ◌⊎◌, List, None, Ok, Err, Option, Result, OnOk, refl}
use Rattle.std.proofs.Common.{sym, ap, subst, ◌∙◌, inl, inr, ⊎_elim, arith}
use Rattle.std.specs.Result as results
use Rattle.std.proofs.lemmas.Bool.{and_parts, and_from, and_right, both_ways}
use Rattle.member_store.specs.Meaning as store
use Rattle.member_store.specs.Meaning.{current, Version, HasBlock}
use Rattle.member_store.specs.Refusals.{IsPowerOff}
use Rattle.member_store.specs.Calls.{barrier_checks}
use Rattle.member_store.specs.declared.refusal.Refusal.{Refusal}
use Rattle.member_store.proofs.Checks.{passing}
use Rattle.device_calls.specs.Lists.{Completed, Stopped}
use Rattle.device_calls.proofs.Left.{still_has}
use Rattle.device_calls.proofs.Refusals.{CurrentStands, went}
use Rattle.intent_log.specs.Meaning.{Standing, MayStand}
use Rattle.intent_log.specs.Refusals.{PowerWent}
use Rattle.intent_log.specs.Calls.{Changes}
use Rattle.intent_log.specs.Devices.{Makes, MakesChange}
use Rattle.intent_log.specs.declared.refusal.LogRefusal.{LogRefusal}
use Rattle.intent_log.proofs.Changes.{refused_went, makes_passed, in_map}
use Rattle.flag_log.specs.declared.flag.FlagRecord.{FlagRecord}
use Rattle.flag_log.specs.Form.{flag_block, flag_record}
use Rattle.flag_log.specs.Flag.{standing_of, flag, Steady, Sound, put_calls}
use Rattle.flag_log.specs.Own.{Stands}
use Rattle.flag_log.specs.Blocks.{read_back}

-- just x is left
pub record WholePut (x : List ℕ) (t : store.Meaning) : Type 0 where
  pub on : t.on ≡ true
  pub here : current t 0 0 ≡ x
  pub single : (v : List ℕ) → Version t 0 0 v → v ≡ current t 0 0

-- x or what stood before
pub record CutPut (s : store.Meaning) (x : List ℕ) (t : store.Meaning) : Type 0 where
  pub off : t.on ≡ false
  pub either : (v : List ℕ) → Version t 0 0 v → (v ≡ current s 0 0) ⊎ (v ≡ x)

abbrev pub Puts : store.Meaning → List ℕ → Result (Unit {0}) LogRefusal → store.Meaning → Type 0
Puts s x r t = results.MatchResult r (λ _. WholePut x t) (λ e. PowerWent e × CutPut s x t)

pub first_block : (s : store.Meaning) → (1 ≤ s.members) × (1 ≤ s.blocks) → HasBlock s 0 0
first_block s c = (let a = c.0 in omega arith, let b = c.1 in omega arith)

module _ (s : store.Meaning) (o kept : Option FlagRecord) (at : HasBlock s 0 0) (on : s.on ≡ true) (st : Steady s kept) where
  abbrev x : List ℕ
  x = flag_block o

  whole : (t : store.Meaning) → Completed (put_calls o) s t → WholePut x t
  whole t d =
      let u = d.0 in
      let a = d.1.1 in
      let w = d.2.0 in
      let b = d.2.1.1 in
      let p = still_has _ _ 0 0 a.sized at in
      let h : WholePut x w = record { on = b.on; here = b.same 0 0 p ∙ a.here; single = λ v k. b.only 0 0 v p k ∙ sym (b.same 0 0 p) } in
      subst (λ (m : store.Meaning). WholePut x m) (sym d.2.2) h

  cut : (e : Refusal) (t : store.Meaning) → Stopped (put_calls o) s e t → IsPowerOff e × CutPut s x t
  cut e t (inl h) =
      let q = went _ _ _ e (passing s.on s.members s.blocks 0 0 512 (record { on = on; member = at.0; block = at.1; long = refl })) h in
      (q.0, record { off = q.1.off; either = λ v k. ⊎_elim (λ a. inl (st.single v a)) (λ a. inr a.2) (q.1.former 0 0 v at k) })
  cut e t (inr h) =
      let a = h.1.1 in
      let p = still_has _ _ 0 0 a.sized at in
      ⊎_elim
      (λ b. let q = went _ _ (barrier_checks h.0) e (simp a.on) b in
      (q.0, record { off = q.1.off; either = λ v k. ⊎_elim (λ z. inl (st.single v z)) (λ z. inr z.2) (a.former 0 0 v at (q.1.former 0 0 v p k)) }))
      (λ b. elim b.2 [ ])
      h.2

  pub puts : (r : Result (Unit {0}) LogRefusal) (t : store.Meaning) → Makes (put_calls o) s r t → Puts s x r t
  puts (Ok u) t h = whole t h
  puts (Err e) t h = let q = cut h.0 t h.1.1 in (subst PowerWent (sym h.1.0) q.0, q.1)

-- what may stand is the record of a version
pub standing_from : (a : Bool) (s : store.Meaning) → HasBlock s 0 0 → CurrentStands s → (c : Standing) → MayStand (flag a s) c → (v : List ℕ) × (Version s 0 0 v × (c ≡ standing_of (flag_record v)))
standing_from a s p law c (inl e) = (current s 0 0, (law 0 0 p, e))
standing_from a s p law c (inr h) = in_map (λ v. standing_of (flag_record v)) c (s.versions 0 0) h

-- what is kept in memory after a put of o
abbrev pub Remembers : Option FlagRecord → Option FlagRecord → Result (Unit {0}) LogRefusal → Option FlagRecord → Type 0
Remembers o old r new = results.MatchResult r (λ _. new ≡ o) (λ _. new ≡ old)

-- A put of o by a log that is on: the store below, whether it is awake and what it keeps in memory, before and after.
pub record Put (s : store.Meaning) (a : Bool) (kept o : Option FlagRecord) (r : Result (Unit {0}) LogRefusal) (t : store.Meaning) (a' : Bool) (new : Option FlagRecord) : Type 0 where
  pub at : HasBlock s 0 0
  pub still : HasBlock t 0 0
  pub law : CurrentStands t
  pub on : (a && s.on) ≡ true
  pub awake : a' ≡ a
  pub calls : Makes (put_calls o) s r t
  pub memory : Remembers o kept r new

module _ (s t : store.Meaning) (a a' : Bool) (o kept new : Option FlagRecord) (at : HasBlock s 0 0) (pt : HasBlock t 0 0) (law : CurrentStands t) (on : (a && s.on) ≡ true) (aw : a' ≡ a) (h : Sound a s kept) (r : Result (Unit {0}) LogRefusal) (calls : Makes (put_calls o) s r t) where
  powered : s.on ≡ true
  powered = (and_parts a s.on on).1

  done : Puts s (flag_block o) r t
  done = puts s o kept at powered (h on) r t calls

  sound_by : (q : Result (Unit {0}) LogRefusal) → Puts s (flag_block o) q t → Remembers o kept q new → Sound a' t new
  sound_by (Ok u) p m = λ _. record { single = p.single; same = m ∙ read_back o ∙ ap flag_record (sym p.here) }
  sound_by (Err e) p m = λ z. absurd (both_ways (a' && t.on) (and_right a' t.on p.1.off) z)

  pub sound_after : Remembers o kept r new → Sound a' t new
  sound_after m = sound_by r done m

  changes_by : (checks : Option LogRefusal) (P Q : Standing → Type 0) (q : Result (Unit {0}) LogRefusal) → Puts s (flag_block o) q t → checks ≡ None → P (standing_of o) → Q (standing_of (flag_record (current s 0 0))) → Q (standing_of o) → Changes checks P Q (flag a s) q (flag a' t)
  changes_by checks P Q (Ok u) w n pn qo qn = (
    n,
    record {
      on = and_from a' t.on (aw ∙ (and_parts a s.on on).0) w.on;
      same_size = refl;
      single = λ c k. let q = standing_from a' t pt law c k in q.1.1 ∙ ap (λ v. standing_of (flag_record v)) (w.single q.0 q.1.0);
      holds = subst (λ z. P (standing_of z)) (read_back o ∙ ap flag_record (sym w.here)) pn;
    },
  )
  changes_by checks P Q (Err e) w n pn qo qn =
      refused_went checks e (flag a' t ≡ flag a s) _ n w.0 (record {
        off = and_right a' t.on w.1.off;
        same_size = refl;
        holds = λ c k. let q = standing_from a' t pt law c k in subst Q (sym q.1.1) (⊎_elim (λ f. subst (λ v. Q (standing_of (flag_record v))) (sym f) qo) (λ f. subst (λ z. Q (standing_of z)) (read_back o ∙ ap flag_record (sym f)) qn) (w.1.either q.0 q.1.0));
      })

  pub changes : (checks : Option LogRefusal) (P Q : Standing → Type 0) → checks ≡ None → P (standing_of o) → Q (standing_of (flag_record (current s 0 0))) → Q (standing_of o) → Changes checks P Q (flag a s) r (flag a' t)
  changes checks P Q n pn qo qn = changes_by checks P Q r done n pn qo qn

  stands_by : (q : Result (Unit {0}) LogRefusal) → Puts s (flag_block o) q t → OnOk q (Stands t o)
  stands_by (Ok u) w = ap flag_record w.here ∙ sym (read_back o)
  stands_by (Err e) w = tt

  pub own : (checks : Option LogRefusal) → checks ≡ None → MakesChange checks (put_calls o) (Stands t o) s r t
  own checks n = makes_passed checks (put_calls o) (Stands t o) s r t n calls (stands_by r done)
