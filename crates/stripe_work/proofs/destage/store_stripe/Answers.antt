use Rattle.std.proofs.Common.{Err, ◌≡◌, ℕ, ◌-◌, take, length-take, ap, ◌∙◌, arith, rules}
use Rattle.geometry.specs.Counts.{members_of}
use Rattle.parity.specs.Xor.{parity_of}
use Rattle.stripe_work.specs.Stripe.{stripe_at}
use Rattle.stripe_work.specs.Work.{cached_in}
use Rattle.stripe_work.proofs.Destaging.{destage_stops_reading, destage_stops_storing, destage_ends}
use Rattle.stripe_work.proofs.destage.store_stripe.Goals as goal

pub returns-in_err-read_data : goal.returns-in_err-read_data
returns-in_err-read_data g c =
    let r : c.from_residual.result ≡ Err c.in_err-read_data.field-0.0 = search rules in
    rw r (destage_stops_reading (stripe_at g.L.Layout.arrangement (members_of c.args.stripe.now.geometry.shape) c.args.stripe.now.number) (cached_in c.args.cached.now) (g.S.MemberStore.meaning c.args.store.now)
    c.in_err-read_data.field-0.0 (g.S.MemberStore.meaning c.read_data.new.store) c.in_err-read_data.ensures.calls)

pub returns-in_err-store_cached : goal.returns-in_err-store_cached
returns-in_err-store_cached g c =
    let r : c.from_residual-in_err-store_cached.result ≡ Err c.in_err-store_cached.field-0.0 = search rules in
    rw r (destage_stops_storing (stripe_at g.L.Layout.arrangement (members_of c.args.stripe.now.geometry.shape) c.args.stripe.now.number) (cached_in c.args.cached.now) (g.S.MemberStore.meaning c.args.store.now)
    (g.S.MemberStore.meaning c.read_data.new.store) c.in_err-store_cached.field-0.0 (g.S.MemberStore.meaning c.store_cached.new.store) c.in_ok-read_data.ensures.calls c.in_err-store_cached.ensures)

pub returns : goal.returns
returns g c =
    let count : c.positions.result ≡ members_of c.args.stripe.now.geometry.shape - 1 = omega arith in
    let sum = c.parity_of_rows-sum.ensures.value (omega (arith, length-take c.positions.result c.read_data.new.rows)) (omega (arith, length-take c.positions.result c.read_data.new.rows)) ∙ ap (λ (n : ℕ). parity_of (take n c.read_data.new.rows)) count ∙ ap parity_of c.in_ok-read_data.ensures.rows in
    destage_ends (stripe_at g.L.Layout.arrangement (members_of c.args.stripe.now.geometry.shape) c.args.stripe.now.number) (cached_in c.args.cached.now) (g.S.MemberStore.meaning c.args.store.now)
    c.parity_address.result.member c.parity_address.result.block c.parity_of_rows-sum.result
    (g.S.MemberStore.meaning c.read_data.new.store) (g.S.MemberStore.meaning c.store_cached.new.store) (g.S.MemberStore.meaning c.store_block.new.store) c.store_block.result
    c.in_ok-read_data.ensures.calls c.in_ok-store_cached.ensures c.parity_address.ensures.member c.parity_address.ensures.block sum c.store_block.ensures
