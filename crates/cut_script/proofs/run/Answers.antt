use Rattle.std.proofs.Common.{◌≡◌, ◌+◌, ◌-◌, ◌≤◌, Err, subst, arith}
use Rattle.member_store.specs.Calls.{Stored, Stores}
use Rattle.cut_script.specs.Account.{fill, Accounted}
use Rattle.cut_script.proofs.Accounts.{Account, stored, store_refused, barred_at, barrier_refused}
use Rattle.cut_script.proofs.run.Goals as goal
use Rattle.cut_script.proofs.run.Goals.{then-is_barrier_after+in_default-barrier, else-is_barrier_after}

pub returns-in-Err : goal.returns-in-Err
returns-in-Err g c =
    let mean = g.S.MemberStore.meaning in
    let n = c.loop-number.number in
    let t = mean c.loop-number.store in
    let u = mean c.store.new.self in
    let next : n ≡ n - 1 + 1 = omega arith in
    let before : c.loop-number.barred ≤ n - 1 = omega (arith, c.loop-number.invariant.0) in
    store_refused (mean c.args.store.now) t u (n - 1) n c.loop-number.barred next c.loop-number.invariant.1 c.in-Err.e before (subst (λ p. Stores {U = Unit {0}} t p.member p.block (fill n) (Err c.in-Err.e) u) c.place_of-place.ensures c.in-Err.ensures.means)

pub returns-in-Err-barrier : goal.returns-in-Err-barrier
returns-in-Err-barrier g c =
    let mean = g.S.MemberStore.meaning in
    let n = c.loop-number.number in
    let t = mean c.loop-number.store in
    let u = mean c.store.new.self in
    let next : n ≡ n - 1 + 1 = omega arith in
    let before : c.loop-number.barred ≤ n - 1 = omega (arith, c.loop-number.invariant.0) in
    let a = stored (mean c.args.store.now) t u (n - 1) n c.loop-number.barred next c.loop-number.invariant.1 before (subst (λ p. Stored t p.member p.block (fill n) u) c.place_of-place.ensures c.in_default.ensures.means.1) in
    barrier_refused (mean c.args.store.now) u (mean c.barrier.new.self) n c.loop-number.barred a c.in-Err-barrier.e c.in-Err-barrier.ensures.means

pub loop-number-preserved : goal.loop-number-preserved
loop-number-preserved g c =
    let mean = g.S.MemberStore.meaning in
    let n = c.loop-number.number in
    let s = mean c.args.store.now in
    let t = mean c.loop-number.store in
    let u = mean c.store.new.self in
    let next : n ≡ n - 1 + 1 = omega arith in
    let same : n ≡ n + 1 - 1 = omega arith in
    let before : c.loop-number.barred ≤ n - 1 = omega (arith, c.loop-number.invariant.0) in
    let later : c.loop-number.barred ≤ n = omega (arith, c.loop-number.invariant.0) in
    let a = stored s t u (n - 1) n c.loop-number.barred next c.loop-number.invariant.1 before (subst (λ p. Stored t p.member p.block (fill n) u) c.place_of-place.ensures c.in_default.ensures.means.1) in
    elim c.if-is_barrier_after.branch [
      | then-is_barrier_after+in_default-barrier w ↦
          simp (w.store-is, w.barred-is)
          (omega arith, subst (λ k. Account s (mean w.barrier.new.self) k n) same (barred_at s u (mean w.barrier.new.self) n c.loop-number.barred a later w.in_default-barrier.ensures.means.1))
      | else-is_barrier_after w ↦
          simp (w.store-is, w.barred-is)
          (omega (arith, c.loop-number.invariant.0), subst (λ k. Account s u k c.loop-number.barred) same a)
    ]

pub returns : goal.returns
returns g c =
    let mean = g.S.MemberStore.meaning in
    let n = c.loop-number.number in
    let all : n - 1 ≡ 24 = omega arith in
    subst (λ k. Accounted (mean c.args.store.now) k c.loop-number.barred (mean c.loop-number.store)) all c.loop-number.invariant.1.versions
