use Rattle.std.proofs.lemmas.Bool.{lt-ltb}
use Rattle.std.proofs.lemmas.Result.{err_from_is_err_and}
use Rattle.geometry.specs.Counts.{members_of, blocks_of}
use Rattle.stripe_work.specs.Stripe.{stripe_at}
use Rattle.stripe_work.specs.Work.{cached_in}
use Rattle.stripe_work.proofs.Parts.{distinct}
use Rattle.stripe_work.proofs.Destaging.{destaged, destage_cut, destage_others, destage_cut_others}
use Rattle.stripe_work.proofs.destage.destage_stripe.Goals as goal

pub returns : goal.returns
returns g c =
    let shape = c.args.geometry.now.shape in
    let m = members_of shape in
    let s = g.S.MemberStore.meaning c.args.store.now in
    let t = g.S.MemberStore.meaning c.store_stripe.new.store in
    let w = stripe_at g.L.Layout.arrangement m c.args.stripe in
    let cached = cached_in c.args.cached.now in
    let k = c.in_ok-stripe.ensures.value in
    let l = rw (k.0, k.1) at c.in_ok-stripe.stripe.inside in
    let d = rw (k.0, k.1) at c.in_ok-store_stripe.ensures in
    record {
      calls = (simp (lt-ltb c.args.stripe (blocks_of shape) l), d);
      leaves = destaged w (distinct g.L.Layout.arrangement m c.args.stripe (g.met.L.Layout.lawful m c.args.stripe shape.members.least shape.members.most)) cached s t d;
      elsewhere = destage_others w cached s t d;
    }

pub returns-in_err-store_stripe : goal.returns-in_err-store_stripe
returns-in_err-store_stripe g c =
    let shape = c.args.geometry.now.shape in
    let s = g.S.MemberStore.meaning c.args.store.now in
    let t = g.S.MemberStore.meaning c.store_stripe.new.store in
    let w = stripe_at g.L.Layout.arrangement (members_of shape) c.args.stripe in
    let cached = cached_in c.args.cached.now in
    let e = c.in_err-store_stripe.field-0.0 in
    let k = c.in_ok-stripe.ensures.value in
    let l = rw (k.0, k.1) at c.in_ok-stripe.stripe.inside in
    let d = rw (k.0, k.1) at c.in_err-store_stripe.ensures in
    let p = err_from_is_err_and c.from_residual-in_err-store_stripe.result c.from_residual-in_err-store_stripe.ensures.1 in
    rw (p.1, p.2) (record {
      calls = (simp (lt-ltb c.args.stripe (blocks_of shape) l), d);
      leaves = destage_cut w cached s e t d;
      elsewhere = destage_cut_others w cached s e t d;
    })
