use Rattle.std.proofs.lemmas.Bool.{lt-ltb}
use Rattle.std.proofs.lemmas.Result.{err_from_is_err_and}
use Rattle.geometry.specs.Counts.{members_of, blocks_of}
use Rattle.stripe_work.specs.Stripe.{stripe_at}
use Rattle.stripe_work.proofs.Parts.{distinct}
use Rattle.stripe_work.proofs.Resyncing.{resynced, resync_cut, resync_others, resync_cut_others}
use Rattle.stripe_work.proofs.resync.resync_stripe.Goals as goal

pub returns : goal.returns
returns g c =
    let shape = c.args.geometry.now.shape in
    let m = members_of shape in
    let s = g.S.MemberStore.meaning c.args.store.now in
    let t = g.S.MemberStore.meaning c.mend_stripe.new.store in
    let w = stripe_at g.L.Layout.arrangement m c.args.stripe in
    let k = c.in_ok-stripe.ensures.value in
    let l = rw (k.0, k.1) at c.in_ok-stripe.stripe.inside in
    let d = rw (k.0, k.1) at c.in_ok-mended.ensures.calls in
    let told = rw (k.0, k.1) at c.in_ok-mended.ensures.told in
    record {
      calls = (simp (lt-ltb c.args.stripe (blocks_of shape) l), d);
      told = told;
      leaves = resynced w (distinct g.L.Layout.arrangement m c.args.stripe (g.met.L.Layout.lawful m c.args.stripe shape.members.least shape.members.most)) s t d;
      elsewhere = resync_others w s t d;
    }

pub returns-in_err-mended : goal.returns-in_err-mended
returns-in_err-mended g c =
    let shape = c.args.geometry.now.shape in
    let s = g.S.MemberStore.meaning c.args.store.now in
    let t = g.S.MemberStore.meaning c.mend_stripe.new.store in
    let w = stripe_at g.L.Layout.arrangement (members_of shape) c.args.stripe in
    let e = c.in_err-mended.field-0.0 in
    let k = c.in_ok-stripe.ensures.value in
    let l = rw (k.0, k.1) at c.in_ok-stripe.stripe.inside in
    let d = rw (k.0, k.1) at c.in_err-mended.ensures.calls in
    let p = err_from_is_err_and c.from_residual-in_err-mended.result c.from_residual-in_err-mended.ensures.1 in
    rw (p.1, p.2) (record {
      calls = (simp (lt-ltb c.args.stripe (blocks_of shape) l), d);
      told = tt;
      leaves = resync_cut w s e t d;
      elsewhere = resync_cut_others w s e t d;
    })
