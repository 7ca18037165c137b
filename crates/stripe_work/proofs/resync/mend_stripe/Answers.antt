use Rattle.std.proofs.Common.{◌≡◌, Ok, Err, sym, ◌∙◌, rules}
use Rattle.geometry.specs.Counts.{members_of}
use Rattle.parity.specs.Xor.{parity_of}
use Rattle.stripe_work.specs.Stripe.{stripe_at, stripe_data, parity_right}
use Rattle.stripe_work.proofs.Resyncing.{resync_stops_reading, resync_ends, wrong_where_some}
use Rattle.stripe_work.proofs.resync.mend_stripe.Goals as goal

pub returns-in_err-parity-clause-calls : goal.returns-in_err-parity-clause-calls
returns-in_err-parity-clause-calls g c =
    let w = stripe_at g.L.Layout.arrangement (members_of c.args.stripe.now.geometry.shape) c.args.stripe.now.number in
    let e : c.from_residual.result ≡ Err c.in_err-parity.field-0.0 = search rules in
    rw e (resync_stops_reading w (g.S.MemberStore.meaning c.args.store.now) c.in_err-parity.field-0.0 (g.S.MemberStore.meaning c.find_correction.new.store) c.in_err-parity.ensures.calls)

pub returns-in_err-store_block-clause-calls : goal.returns-in_err-store_block-clause-calls
returns-in_err-store_block-clause-calls g c =
    let w = stripe_at g.L.Layout.arrangement (members_of c.args.stripe.now.geometry.shape) c.args.stripe.now.number in
    let s = g.S.MemberStore.meaning c.args.store.now in
    let a = c.parity_address in
    let q = wrong_where_some (parity_right w s) (parity_of (stripe_data w s)) c.in-Some.parity (sym c.in-Some.is ∙ c.in_ok-parity.ensures.found) in
    let e : c.from_residual-in_err-store_block.result ≡ Err c.in_err-store_block.field-0.0 = search rules in
    rw e (resync_ends w s {U = Unit {0}} a.result.member a.result.block c.in-Some.parity (g.S.MemberStore.meaning c.find_correction.new.store) (g.S.MemberStore.meaning c.store_block.new.store) (Err c.in_err-store_block.field-0.0)
    q.0 c.in_ok-parity.ensures.calls a.ensures.member a.ensures.block q.1 c.in_err-store_block.ensures)

pub returns-clause-calls : goal.returns-clause-calls
returns-clause-calls g c =
    let w = stripe_at g.L.Layout.arrangement (members_of c.args.stripe.now.geometry.shape) c.args.stripe.now.number in
    let s = g.S.MemberStore.meaning c.args.store.now in
    let a = c.parity_address in
    let q = wrong_where_some (parity_right w s) (parity_of (stripe_data w s)) c.in-Some.parity (sym c.in-Some.is ∙ c.in_ok-parity.ensures.found) in
    resync_ends w s {U = Unit {0}} a.result.member a.result.block c.in-Some.parity (g.S.MemberStore.meaning c.find_correction.new.store) (g.S.MemberStore.meaning c.store_block.new.store) (Ok tt)
    q.0 c.in_ok-parity.ensures.calls a.ensures.member a.ensures.block q.1 c.in_ok-store_block.ensures
