use Rattle.std.proofs.Common.{◌≡◌, false, ◌⊎◌, refl, inl, inr}
use Rattle.member_store.specs.Meaning.{current}
use Rattle.intent_log.specs.Meaning.{Standing}
use Rattle.intent_log.specs.Calls.{NamesNothing, power_checks}
use Rattle.flag_log.specs.Form.{flag_record}
use Rattle.flag_log.specs.Flag.{standing_of, flag}
use Rattle.flag_log.proofs.Putting.{sound_after, changes, own}
use Rattle.flag_log.proofs.FlagLogIntentLog.blank.Goals as goal

pub returns : goal.returns
returns g c =
    let me = c.args.self.now.state in
    let s = g.S.MemberStore.meaning me.store in
    let p = c.put.ensures in
    let old : Standing = standing_of (flag_record (current s 0 0)) in
    let checks = power_checks (flag me.awake s) in
    let P : Standing → Type 0 = λ y. (y.stands ≡ false) × NamesNothing y in
    let Q : Standing → Type 0 = λ y. (y ≡ old) ⊎ ((y.stands ≡ false) × NamesNothing y) in
    record {
      sound = sound_after p;
      means = λ h. changes p h checks P Q (simp p.on) (refl, λ i. refl) (inl refl) (inr (refl, λ i. refl));
      own = λ h. own p h checks (simp p.on);
    }
