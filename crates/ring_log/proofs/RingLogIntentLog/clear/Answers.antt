use Rattle.std.proofs.Common.{◌≡◌, ◌+◌, ◌<◌, true, [], length, sym, ap, ◌∙◌, subst, arith}
use Rattle.std.proofs.lemmas.Bool.{both_ways}
use Rattle.intent_log.specs.Calls.{power_checks}
use Rattle.stripe_set.specs.Stripes.{stripes}
use Rattle.record.specs.Contents.{Contents, contents}
use Rattle.ring_log.specs.Highest.{version_of, stripes_of, present}
use Rattle.ring_log.specs.Kept.{kept}
use Rattle.ring_log.specs.Ring.{ring}
use Rattle.ring_log.specs.Own.{contents_of}
use Rattle.ring_log.proofs.Changing.{PutsNext, sound_after, own, clear_passes, clears, cleared_same, kept_present, next_is, puts_next, own_clear, empty_list}
use Rattle.ring_log.proofs.RingLogIntentLog.clear.Goals as goal
use Rattle.ring_log.proofs.RingLogIntentLog.clear.Goals.{else-is_some-via-then-is_some+else-len-eq0, else-is_some-via-else-is_some}

pub returns-then-len-eq0-clause-means : goal.returns-then-len-eq0-clause-means
returns-then-len-eq0-clause-means g c =
    let me = c.args.self.now.state in
    let s = g.S.MemberStore.meaning me.store in
    let b = kept me.standing in
    let empty : length (stripes_of b) ≡ 0 = ap length (sym c.named.ensures) ∙ sym c.len.ensures ∙ c.if-len-eq0.true in
    λ h. cleared_same s me.awake b (g.met.S.MemberStore.counts me.store).0 (g.met.S.MemberStore.stands me.store) c.in_ok-check_power.ensures h (kept_present me.standing ∙ sym c.if-is_some.ensures) (empty_list (stripes_of b) empty)

pub returns : goal.returns
returns g c =
    let me = c.args.self.now.state in
    let end = c.put.new.self.state in
    let s = g.S.MemberStore.meaning me.store in
    let t = g.S.MemberStore.meaning end.store in
    let b = kept me.standing in
    let p = c.put.ensures in
    let r = contents c.record_after.result in
    let next : r ≡ contents_of (version_of b + 1) [] = c.record_after.ensures ∙ next_is b c.version.result (stripes c.empty.result) [] c.version.ensures c.empty.ensures in
    let up : version_of b < r.version = let q = ap (λ (z : Contents). z.version) next in omega arith in
    let some : present b ≡ true → length (stripes_of b) ≡ 0 → ⊥ = λ pr empty. elim c.else-is_some.branch [
      | else-is_some-via-then-is_some+else-len-eq0 w ↦ w.if-len-eq0.false (w.len.ensures ∙ ap length w.named.ensures ∙ empty)
      | else-is_some-via-else-is_some w ↦ both_ways _ w.if-is_some.false (c.is_some.ensures ∙ sym (kept_present me.standing) ∙ pr)
    ] in
    record {
      sound = λ h. sound_after p h up;
      means = λ h. clears p h up (ap (λ (z : Contents). z.stripes) next);
      own = λ h. own_clear s t me.awake c.put.result (subst (PutsNext s.members s.blocks) (h p.on).same (puts_next s.members s.blocks b some)) (own p h up (power_checks (ring me.awake s)) [] (clear_passes p h up) next);
    }
