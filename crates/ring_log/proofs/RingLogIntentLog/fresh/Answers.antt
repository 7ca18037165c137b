use Rattle.std.proofs.Common.{◌≡◌, ◌+◌, ◌<◌, ap, ◌∙◌, arith}
use Rattle.intent_log.specs.Calls.{fresh_checks}
use Rattle.stripe_set.specs.Stripes.{stripes}
use Rattle.record.specs.Contents.{Contents, contents}
use Rattle.ring_log.specs.Highest.{version_of}
use Rattle.ring_log.specs.Kept.{kept}
use Rattle.ring_log.specs.Ring.{ring}
use Rattle.ring_log.specs.Own.{contents_of}
use Rattle.ring_log.proofs.Changing.{sound_after, own, fresh_passes, freshens, next_is}
use Rattle.ring_log.proofs.RingLogIntentLog.fresh.Goals as goal

pub returns : goal.returns
returns g c =
    let me = c.args.self.now.state in
    let s = g.S.MemberStore.meaning me.store in
    let b = kept me.standing in
    let w = c.args.list.now in
    let p = c.put.ensures in
    let f = c.in_ok-version.ensures in
    let r = contents c.record_after.result in
    let next : r ≡ contents_of (version_of b + 1) w = c.record_after.ensures ∙ next_is b c.in_ok-version.version (stripes c.set_of.result) w f.3 c.set_of.ensures in
    let low : version_of b < 4294967294 = let v = f.3 in let l = f.4 in omega arith in
    let up : version_of b < r.version = let q = ap (λ (z : Contents). z.version) next in omega arith in
    record {
      sound = λ h. sound_after p h up;
      means = λ h. freshens p h up w f.1 f.2 low (ap (λ (z : Contents). z.stripes) next);
      own = λ h. own p h up (fresh_checks (ring me.awake s) w) w (fresh_passes p h up w f.1 f.2 low) next;
    }
