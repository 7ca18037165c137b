use Rattle.std.proofs.Common.{◌≡◌, ℕ, take, length-take, Ok, Err, refl, ap, ◌∙◌, arith, rules}
use Rattle.std.specs.Bool.{then_some}
use Rattle.std.proofs.lemmas.Bool.Decides.{Decides-eqb}
use Rattle.std.proofs.lemmas.Slice.Eq.{slice_eq-Decides}
use Rattle.geometry.specs.Counts.{members_of}
use Rattle.parity.specs.Xor.{parity_of}
use Rattle.stripe_work.specs.Stripe.{stripe_at}
use Rattle.stripe_work.proofs.Parts.{same_data}
use Rattle.stripe_work.proofs.Resyncing.{check_stops_reading, check_ends, reads_keep, corrected}
use Rattle.stripe_work.proofs.resync.find_correction.Goals as goal

pub returns-in_err-read_data-clause-calls : goal.returns-in_err-read_data-clause-calls
returns-in_err-read_data-clause-calls g c =
    let w = stripe_at g.L.Layout.arrangement (members_of c.args.stripe.now.geometry.shape) c.args.stripe.now.number in
    let e : c.from_residual.result ≡ Err c.in_err-read_data.field-0.0 = search rules in
    rw e (check_stops_reading w (g.S.MemberStore.meaning c.args.store.now) c.in_err-read_data.field-0.0 (g.S.MemberStore.meaning c.read_data.new.store) c.in_err-read_data.ensures.calls)

pub returns-in_err-read_block-clause-calls : goal.returns-in_err-read_block-clause-calls
returns-in_err-read_block-clause-calls g c =
    let w = stripe_at g.L.Layout.arrangement (members_of c.args.stripe.now.geometry.shape) c.args.stripe.now.number in
    let a = c.parity_address in
    let e : c.from_residual-in_err-read_block.result ≡ Err c.in_err-read_block.field-0.0 = search rules in
    rw e (check_ends w (g.S.MemberStore.meaning c.args.store.now) {U = Unit {0}} a.result.member a.result.block (g.S.MemberStore.meaning c.read_data.new.store) (g.S.MemberStore.meaning c.read_block.new.store) (Err c.in_err-read_block.field-0.0)
    c.in_ok-read_data.ensures.calls a.ensures.member a.ensures.block c.in_err-read_block.ensures.calls)

pub returns : goal.returns
returns g c =
    let w = stripe_at g.L.Layout.arrangement (members_of c.args.stripe.now.geometry.shape) c.args.stripe.now.number in
    let s = g.S.MemberStore.meaning c.args.store.now in
    let u = g.S.MemberStore.meaning c.read_data.new.store in
    let t = g.S.MemberStore.meaning c.read_block.new.store in
    let r = c.in_ok-read_data.ensures in
    let a = c.parity_address in
    let k = c.in_ok-read_block.ensures in
    let sum = c.parity_of_rows-parity.ensures.value (omega (arith, length-take c.positions.result c.read_data.new.rows)) (omega (arith, length-take c.positions.result c.read_data.new.rows)) ∙ ap (λ (n : ℕ). parity_of (take n c.read_data.new.rows)) c.positions.ensures.value ∙ ap parity_of (r.rows ∙ same_data w 7 s) in
    record {
      calls = check_ends w s {U = Unit {0}} a.result.member a.result.block u t (Ok tt) r.calls a.ensures.member a.ensures.block k.calls;
      found = c.then_some.ensures ∙ ap (λ q. then_some q c.parity_of_rows-parity.result) c.ne.ensures
          ∙ corrected w s c.read_block.new.into c.parity_of_rows-parity.result _ a.result.member a.result.block u (slice_eq-Decides Decides-eqb _ _ _ refl) (reads_keep w s u r.calls) a.ensures.member a.ensures.block k.bytes.0 sum;
    }
