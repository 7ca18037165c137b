use Rattle.std.proofs.Common.{◌≡◌, ℕ, ◌<◌, true, false, not, is_some, Err, sym, refl, ap, ◌∙◌, subst, add-zero, arith, rules}
use Rattle.geometry.specs.Counts.{members_of, blocks_of}
use Rattle.device_calls.specs.Lists.{Completed, for_each}
use Rattle.parity.specs.Xor.{parity_of}
use Rattle.stripe_work.specs.Stripe.{stripe_at, stripe_data, parity_right}
use Rattle.stripe_work.specs.Work.{check_calls, wrong_below}
use Rattle.stripe_work.proofs.Scanning.{scan_more, scan_keeps, scan_stops, count_more, scan_cut}
use Rattle.stripe_work.proofs.Resyncing.{right_by_some}
use Rattle.stripe_work.proofs.resync.count_wrong_stripes.Goals as goal
use Rattle.stripe_work.proofs.resync.count_wrong_stripes.Goals.{then-is_some, else-is_some}

pub loop-number-init : goal.loop-number-init
loop-number-init g c = (refl, refl, refl, omega arith)

pub loop-number-preserved : goal.loop-number-preserved
loop-number-preserved g c =
    let a = g.L.Layout.arrangement in
    let m = members_of c.args.geometry.now.shape in
    let s = g.S.MemberStore.meaning c.args.store.now in
    let k = c.loop-number.number in
    let i = c.loop-number.invariant in
    let u = g.S.MemberStore.meaning c.loop-number.store in
    let t = g.S.MemberStore.meaning c.find_correction.new.store in
    let d = c.in_ok-find_correction.ensures in
    let o = c.in_ok-find_correction.field-0 in
    let w = stripe_at a m k in
    let right : parity_right w s ≡ not (is_some o) = sym (ap (parity_right w) i.0) ∙ right_by_some (parity_right w u) (parity_of (stripe_data w u)) o d.found in
    elim c.if-is_some.branch [
      | then-is_some v ↦
          let wrong : is_some o ≡ true = search rules in
          simp v.wrong-is (
            scan_keeps a m s k u t i.0 d.calls,
            scan_more a m s k u t i.0 i.1 d.calls,
            count_more a m s k false c.loop-number.wrong (sym (right ∙ ap not wrong)) i.2,
            omega arith,
          )
      | else-is_some v ↦
          let none : is_some o ≡ false = search rules in
          simp v.wrong-is (
            scan_keeps a m s k u t i.0 d.calls,
            scan_more a m s k u t i.0 i.1 d.calls,
            sym (add-zero c.loop-number.wrong) ∙ count_more a m s k true c.loop-number.wrong (sym (right ∙ ap not none)) i.2,
            omega arith,
          )
    ]

pub returns-in_err-find_correction : goal.returns-in_err-find_correction
returns-in_err-find_correction g c =
    let a = g.L.Layout.arrangement in
    let m = members_of c.args.geometry.now.shape in
    let n = blocks_of c.args.geometry.now.shape in
    let s = g.S.MemberStore.meaning c.args.store.now in
    let i = c.loop-number.invariant in
    let u = g.S.MemberStore.meaning c.loop-number.store in
    let t = g.S.MemberStore.meaning c.find_correction.new.store in
    let e = c.in_err-find_correction.field-0.0 in
    let l : c.loop-number.number < n = omega arith in
    let d = scan_stops a m s n c.loop-number.number u e t l i.0 i.1 c.in_err-find_correction.ensures.calls in
    let r : c.from_residual.result ≡ Err e = search rules in
    rw r (record {
      calls = d;
      told = tt;
      leaves = scan_cut a m s n e t d;
    })

pub returns : goal.returns
returns g c =
    let a = g.L.Layout.arrangement in
    let m = members_of c.args.geometry.now.shape in
    let s = g.S.MemberStore.meaning c.args.store.now in
    let n = blocks_of c.args.geometry.now.shape in
    let i = c.loop-number.invariant in
    let e : c.loop-number.number ≡ n = omega arith in
    record {
      calls = subst (λ u. Completed (for_each (λ k. check_calls (stripe_at a m k)) n) s u) (sym i.0) (subst (λ (k : ℕ). Completed (for_each (λ k. check_calls (stripe_at a m k)) k) s s) e i.1);
      told = i.2 ∙ ap (wrong_below a m s) e;
      leaves = i.0;
    }
