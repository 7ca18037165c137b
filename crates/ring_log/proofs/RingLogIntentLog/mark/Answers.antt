use Rattle.std.proofs.Common.{◌≡◌, ℕ, ◌+◌, ◌<◌, ◌≤◌, false, leb, List, length, Some, Err, Option, Result, sym, refl, ap, ◌∙◌, subst, arith}
use Rattle.intent_log.specs.Calls.{Marks, mark_checks}
use Rattle.intent_log.specs.declared.refusal.LogRefusal.{LogRefusal}
use Rattle.intent_log.specs.declared.refusal.LogRefusal.TheVariants.{DoesNotFit}
use Rattle.intent_log.proofs.Changes.{makes_refused, refused_by, handed_up}
use Rattle.stripe_set.specs.Stripes.{stripes, held}
use Rattle.stripe_set.specs.Union.{merged}
use Rattle.stripe_set.proofs.Lists.{merged_rising, same_merged}
use Rattle.record.specs.Contents.{Contents, contents}
use Rattle.ring_log.specs.Highest.{version_of, stripes_of}
use Rattle.ring_log.specs.Kept.{kept}
use Rattle.ring_log.specs.Ring.{ring, Sound}
use Rattle.ring_log.specs.Own.{contents_of, standing, OwnMark}
use Rattle.ring_log.proofs.Making.{few_stripes, union_fits, union_is, unfit}
use Rattle.ring_log.proofs.Changing.{sound_after, own, mark_passes, marks, does_not_fit, next_is}
use Rattle.ring_log.proofs.RingLogIntentLog.mark.Goals as goal

pub returns-in_err-stripes : goal.returns-in_err-stripes
returns-in_err-stripes g c =
    let me = c.args.self.now.state in
    let s = g.S.MemberStore.meaning me.store in
    let b = kept me.standing in
    let w = c.args.list.now in
    let m = ring me.awake s in
    let f = c.in_ok-version.ensures in
    let low : version_of b < 4294967294 = let v = f.3 in let l = f.4 in omega arith in
    let mine = c.named.result in
    let new = c.set_of.result in
    let wide : leb (length (merged (stripes_of b) w)) 64 ≡ false =
    ap (λ (ss : List ℕ). leb (length ss) 64) (sym (same_merged _ _ _ _ c.named.ensures c.set_of.ensures)) ∙ sym (union_fits c.union-union.result (merged (stripes mine) (stripes new)) c.union-union.ensures.value (merged_rising (stripes mine) 0 (stripes new) mine.rising new.rising)) ∙ sym c.in_err-stripes.ensures.variant in
    let fails : Sound me.awake s b → mark_checks m w ≡ Some (DoesNotFit (length w)) = λ h. does_not_fit s me.awake b w f.0 (h f.0).same f.1 f.2 low wide in
    let d = c.in_err-stripes.field-0.0 in
    let is : c.from_residual-in_err-stripes.result ≡ Err (DoesNotFit (length w)) = handed_up c.from_residual-in_err-stripes.result d c.from_residual-in_err-stripes.ensures.1 ∙ ap Err (unfit c.union-union.result (DoesNotFit (length w)) d c.in_err-stripes.ensures.value) in
    record {
      sound = λ h. h;
      means = λ h. subst (λ (r : Result (Unit {0}) LogRefusal). Marks w m r m) (sym is) (refused_by (mark_checks m w) (DoesNotFit (length w)) _ _ (fails h) refl);
      own = λ h. subst (λ (r : Result (Unit {0}) LogRefusal). OwnMark me.awake s w r s) (sym is) (makes_refused (mark_checks m w) _ _ s (DoesNotFit (length w)) (fails h));
    }

pub returns : goal.returns
returns g c =
    let me = c.args.self.now.state in
    let s = g.S.MemberStore.meaning me.store in
    let b = kept me.standing in
    let w = c.args.list.now in
    let p = c.put.ensures in
    let f = c.in_ok-version.ensures in
    let r = contents c.record_after.result in
    let mine = c.named.result in
    let new = c.set_of.result in
    let both = c.in_ok-stripes.stripes in
    let all : stripes both ≡ merged (stripes_of b) w = union_is both (merged (stripes mine) (stripes new)) (sym (ap held c.in_ok-stripes.ensures.ok_part) ∙ c.union-union.ensures.value) ∙ same_merged _ _ _ _ c.named.ensures c.set_of.ensures in
    let next : r ≡ contents_of (version_of b + 1) (merged (stripes_of b) w) = c.record_after.ensures ∙ next_is b c.in_ok-version.version (stripes both) (merged (stripes_of b) w) f.3 all in
    let low : version_of b < 4294967294 = let v = f.3 in let l = f.4 in omega arith in
    let up : version_of b < r.version = let q = ap (λ (z : Contents). z.version) next in omega arith in
    let fe : length (merged (stripes_of b) w) ≤ 64 = subst (λ (ss : List ℕ). length ss ≤ 64) all (few_stripes both) in
    record {
      sound = λ h. sound_after p h up;
      means = λ h. marks p h up w f.1 f.2 low (ap (λ (z : Contents). z.stripes) next) fe;
      own = λ h. own p h up (mark_checks (ring me.awake s) w) (merged (stripes_of (standing s)) w) (mark_passes p h up w f.1 f.2 low fe) (next ∙ ap (λ (z : Option (ℕ × Contents)). contents_of (version_of b + 1) (merged (stripes_of z) w)) (h p.on).same);
    }
