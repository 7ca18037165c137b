use Rattle.std.proofs.Common.{refl, inl, inr}
use Rattle.std.proofs.lemmas.Result.{err_from_is_err_and}
use Rattle.array_work.proofs.finish.finish_work.Goals as goal

pub returns-in_err-clear-clause-does : goal.returns-in_err-clear-clause-does
returns-in_err-clear-clause-does g c h =
    let u = g.S.MemberStore.meaning c.barrier.new.self in
    let l = g.G.IntentLog.meaning c.args.log.now in
    let p = err_from_is_err_and c.from_residual-in_err-clear.result c.from_residual-in_err-clear.ensures.1 in
    rw (p.1, p.2) (inr (u, l, ((u, c.in_ok-barrier.ensures.means, refl), refl), inl (_, refl, refl, c.in_err-clear.ensures.means h)))

pub returns-clause-does : goal.returns-clause-does
returns-clause-does g c h =
    let u = g.S.MemberStore.meaning c.barrier.new.self in
    let l = g.G.IntentLog.meaning c.args.log.now in
    let k = g.G.IntentLog.meaning c.clear.new.self in
    (refl, (u, l, ((u, c.in_ok-barrier.ensures.means, refl), refl), (u, k, (refl, c.in_ok-clear.ensures.means h), (refl, refl))))
