use Rattle.std.proofs.Common.{refl, inl, inr}
use Rattle.std.proofs.lemmas.Result.{err_from_is_err_and}
use Rattle.array_work.proofs.naming.bar_and_freshen.Goals as goal

pub returns-in_err-fresh-clause-does : goal.returns-in_err-fresh-clause-does
returns-in_err-fresh-clause-does g c h =
    let u = g.S.MemberStore.meaning c.barrier.new.self in
    let l = g.G.IntentLog.meaning c.args.log.now in
    let p = err_from_is_err_and c.from_residual-in_err-fresh.result c.from_residual-in_err-fresh.ensures.1 in
    rw (p.1, p.2) (inr (u, l, ((u, c.in_ok-barrier.ensures.means, refl), refl), inl (_, refl, refl, c.in_err-fresh.ensures.means h)))

pub returns-clause-does : goal.returns-clause-does
returns-clause-does g c h =
    let u = g.S.MemberStore.meaning c.barrier.new.self in
    let l = g.G.IntentLog.meaning c.args.log.now in
    let k = g.G.IntentLog.meaning c.fresh.new.self in
    (refl, (u, l, ((u, c.in_ok-barrier.ensures.means, refl), refl), (u, k, (refl, c.in_ok-fresh.ensures.means h), (refl, refl))))
