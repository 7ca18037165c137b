-- Power-on of the flag, whole and cut.
use Rattle.std.proofs.Common.{◌≡◌, ℕ, Bool, true, false, List, length, Err, Option, sym, refl, ap, ◌∙◌, subst, inl, inr}
use Rattle.std.proofs.lemmas.Bool.{and_left}
use Rattle.member_store.specs.Meaning as store
use Rattle.member_store.specs.Meaning.{current, Version, HasBlock}
use Rattle.member_store.specs.Refusals.{IsPowerOff}
use Rattle.member_store.specs.Calls.{Reads, PoweredOn}
use Rattle.member_store.specs.declared.refusal.Refusal.{Refusal}
use Rattle.member_store.proofs.Checks.{passing}
use Rattle.device_calls.proofs.Left.{still_has}
use Rattle.device_calls.proofs.Refusals.{CurrentStands, went, off_is_power}
use Rattle.intent_log.specs.Meaning.{Standing, MayStand}
use Rattle.intent_log.specs.Calls.{ChangeDone, CutShort}
use Rattle.intent_log.proofs.Changes.{map_in}
use Rattle.flag_log.specs.declared.flag.FlagRecord.{FlagRecord}
use Rattle.flag_log.specs.Form.{flag_record}
use Rattle.flag_log.specs.Flag.{standing_of, flag, Steady}
use Rattle.flag_log.specs.Puts.{standing_from}

module _ (s t : store.Meaning) (a : Bool) (at : HasBlock s 0 0) (p : PoweredOn s t) where
  within : (u : store.Meaning) → HasBlock u 0 0 → ((v : List ℕ) → Version u 0 0 v → v ≡ current t 0 0) → CurrentStands u → (a' : Bool) (y : Standing) → MayStand (flag a' u) y → MayStand (flag a s) y
  within u pu f law a' y h =
      let q = standing_from a' u pu law y h in
      subst (MayStand (flag a s)) (sym q.1.1) (inr (map_in (λ v. standing_of (flag_record v)) q.0 (s.versions 0 0) (subst (Version s 0 0) (sym (f q.0 q.1.0)) (p.picked 0 0 at))))

  pub power_cut : (u : store.Meaning) (a' : Bool) (e : Refusal) (old new : List ℕ) → a' ≡ false → length old ≡ 512 → CurrentStands u → Reads {U = Unit {0}} t 0 0 old (Err e) new u → IsPowerOff e × CutShort (MayStand (flag a s)) (flag a s) (flag a' u)
  power_cut u a' e old new ea long law r =
      let pt = still_has _ _ 0 0 p.sized at in
      let q = went _ _ _ e (passing t.on t.members t.blocks 0 0 (length old) (record { on = p.on; member = pt.0; block = pt.1; long = long })) r.1 in
      (off_is_power e 0 0 q.0, record { off = and_left a' u.on ea; same_size = refl; holds = λ y h. within u (still_has _ _ 0 0 q.1.sized pt) (λ v k. p.only 0 0 v at (q.1.former 0 0 v pt k)) law a' y h })

  pub power_steady : (kept : Option FlagRecord) (x : List ℕ) → kept ≡ flag_record x → x ≡ current t 0 0 → Steady t kept
  power_steady kept x e f = record { single = λ v k. p.only 0 0 v at k; same = e ∙ ap flag_record f }

  pub power_whole : CurrentStands t → ChangeDone (MayStand (flag a s)) (flag a s) (flag true t)
  power_whole law =
      let pt = still_has _ _ 0 0 p.sized at in
      record {
        on = p.on;
        same_size = refl;
        single = λ y h. let q = standing_from true t pt law y h in q.1.1 ∙ ap (λ v. standing_of (flag_record v)) (p.only 0 0 q.0 at q.1.0);
        holds = within t pt (λ v k. p.only 0 0 v at k) law true _ (inl refl);
      }
