use Rattle.std.proofs.lemmas.Bool.{lt-ltb}
use Rattle.std.proofs.lemmas.Result.{err_from_is_err_and}
use Rattle.geometry.specs.Counts.{members_of, blocks_of}
use Rattle.parity.specs.Xor.{parity_of}
use Rattle.stripe_work.specs.Stripe.{stripe_at, stripe_data, parity_right}
use Rattle.stripe_work.proofs.Resyncing.{check_keeps, check_cut, right_where_none}
use Rattle.stripe_work.proofs.resync.check_stripe.Goals as goal

pub returns : goal.returns
returns g c =
    let k = c.in_ok-stripe.ensures.value in
    let s = g.S.MemberStore.meaning c.args.store.now in
    let w = stripe_at g.L.Layout.arrangement (members_of c.args.geometry.now.shape) c.args.stripe in
    let l = rw (k.0, k.1) at c.in_ok-stripe.stripe.inside in
    let d = rw (k.0, k.1) at c.in_ok-correction.ensures.calls in
    let f = rw (k.0, k.1) at c.in_ok-correction.ensures.found in
    record {
      calls = (simp (lt-ltb c.args.stripe (blocks_of c.args.geometry.now.shape) l), d);
      told = right_where_none (parity_right w s) c.is_none.result (parity_of (stripe_data w s)) c.in_ok-correction.correction f c.is_none.ensures;
      leaves = check_keeps w s (g.S.MemberStore.meaning c.find_correction.new.store) d;
    }

pub returns-in_err-correction : goal.returns-in_err-correction
returns-in_err-correction g c =
    let k = c.in_ok-stripe.ensures.value in
    let s = g.S.MemberStore.meaning c.args.store.now in
    let w = stripe_at g.L.Layout.arrangement (members_of c.args.geometry.now.shape) c.args.stripe in
    let l = rw (k.0, k.1) at c.in_ok-stripe.stripe.inside in
    let d = rw (k.0, k.1) at c.in_err-correction.ensures.calls in
    let p = err_from_is_err_and c.from_residual-in_err-correction.result c.from_residual-in_err-correction.ensures.1 in
    rw (p.1, p.2) (record {
      calls = (simp (lt-ltb c.args.stripe (blocks_of c.args.geometry.now.shape) l), d);
      told = tt;
      leaves = check_cut w s c.in_err-correction.field-0.0 (g.S.MemberStore.meaning c.find_correction.new.store) d;
    })
