use Rattle.std.proofs.Common.{◌≡◌, true, is_some, sym, refl, ap, ◌∙◌}
use Rattle.member_store.specs.Meaning.{current}
use Rattle.intent_log.specs.Meaning.{Standing}
use Rattle.intent_log.specs.Calls.{Includes, NamesList, mark_checks}
use Rattle.flag_log.specs.Form.{flag_record}
use Rattle.flag_log.specs.Flag.{standing_of, flag, Sound}
use Rattle.flag_log.proofs.Putting.{sound_after, changes, own}
use Rattle.flag_log.proofs.FlagLogIntentLog.mark.Goals as goal

pub returns : goal.returns
returns g c =
    let me = c.args.self.now.state in
    let s = g.S.MemberStore.meaning me.store in
    let p = c.put.ensures in
    let old : Standing = standing_of (flag_record (current s 0 0)) in
    let w = c.args.list.now in
    let checks = mark_checks (flag me.awake s) w in
    let P : Standing → Type 0 = λ y. (y.stands ≡ true) × Includes y old × NamesList y w in
    let Q : Standing → Type 0 = λ y. (y.stands ≡ true) × Includes y old in
    let t = c.in_ok-check_list.ensures in
    let stands : Sound me.awake s me.standing → old.stands ≡ true = λ h. ap is_some (sym (h p.on).same) ∙ t.1 in
    record {
      sound = sound_after p;
      means = λ h. changes p h checks P Q (simp (p.on, stands h, t.2)) (refl, λ i j. refl, λ i j. refl) (stands h, λ i j. j) (refl, λ i j. refl);
      own = λ h. own p h checks (simp (p.on, stands h, t.2));
    }
