use Rattle.std.proofs.Common.{◌≡◌, ◌<◌, ◌≤◌, not, [], ◌∷◌, Err, arith, rules}
use Rattle.geometry.specs.Counts.{members_of, blocks_of}
use Rattle.stripe_work.specs.Stripe.{stripe_at}
use Rattle.stripe_work.specs.Work.{resync_calls}
use Rattle.array_model.specs.Work.{devices}
use Rattle.array_model.specs.declared.state.State.TheVariants.{Fallen}
use Rattle.array_work.specs.Outcomes.{state_told}
use Rattle.array_work.proofs.Fetching.{fell}
use Rattle.cache.specs.Meaning.{contents}
use Rattle.array.proofs.Resyncing.{takes, takes_cut, taken_sound}
use Rattle.array.proofs.array.Array.take.Goals as goal

pub returns : goal.returns
returns g c =
    let q = c.args.self.now.state in
    let d = contents c.args.self.now.caches in
    let m = g.S.MemberStore.meaning c.args.self.now.store in
    let l = g.G.IntentLog.meaning c.args.self.now.log in
    let n = g.S.MemberStore.meaning c.take_stripe-outcome.new.store in
    let a = g.L.Layout.arrangement in
    let p = c.args.progress in
    let k = c.args.stripe in
    let b = c.in_ok-mended.mended in
    let w = members_of c.args.shape in
    let few : blocks_of c.args.shape ≤ 16777216 = c.args.shape.few in
    let lt : k < 16777216 = omega arith in
    let works = rw (← c.in_ok-mended.ensures.same) at (c.take_stripe-outcome.ensures l) in
    record {
      sound = λ on z bound above. taken_sound a q d m l p k w n c.taken.result (not b) (g.G.IntentLog.sound c.args.self.now.log) works.1 (c.taken.ensures bound) lt on z bound above;
      does = λ e f bound. takes a q d m l p k w n c.taken.result b e works.0 works.1 (c.taken.ensures bound);
    }

pub returns-in_err-mended : goal.returns-in_err-mended
returns-in_err-mended g c =
    let q = c.args.self.now.state in
    let d = contents c.args.self.now.caches in
    let m = g.S.MemberStore.meaning c.args.self.now.store in
    let l = g.G.IntentLog.meaning c.args.self.now.log in
    let n = g.S.MemberStore.meaning c.take_stripe-outcome.new.store in
    let a = g.L.Layout.arrangement in
    let k = c.args.stripe in
    let w = members_of c.args.shape in
    let no = c.in_err-mended in
    let works = rw (← no.ensures.same) at (c.take_stripe-outcome.ensures l) in
    let fallen : state_told q no.field-0.0 ≡ Fallen = fell q (devices (resync_calls (stripe_at a w k) m) ∷ []) m l no.field-0.0 n l works in
    let result : c.from_residual.result ≡ Err no.field-0.0 = search rules in
    record {
      sound = λ on z bound above. rw (no.ensures.leaves, fallen) tt;
      does = λ e f bound. rw (no.ensures.leaves, fallen, result) (takes_cut a q d m l c.args.progress k w n no.field-0.0 e works);
    }
