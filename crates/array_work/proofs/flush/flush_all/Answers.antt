use Rattle.std.proofs.Common.{refl, inl, inr}
use Rattle.std.proofs.lemmas.Result.{err_from_is_err_and}
use Rattle.cache.specs.Meaning.{contents}
use Rattle.array_work.specs.Outcomes.{sized}
use Rattle.array_work.proofs.Emptying.{barrier_cut}
use Rattle.array_work.proofs.flush.flush_all.Goals as goal

pub returns-in_err-barrier-clause-does : goal.returns-in_err-barrier-clause-does
returns-in_err-barrier-clause-does g c h on =
    let a = sized g.L.Layout.arrangement c.args.geometry.now.shape in
    let b = contents c.empty_caches.new.caches in
    let m = g.S.MemberStore.meaning c.empty_caches.new.store in
    let l = g.G.IntentLog.meaning c.empty_caches.new.log in
    let n = g.S.MemberStore.meaning c.barrier.new.self in
    let k = c.in_ok-counts.ensures.does h on in
    let p = err_from_is_err_and c.from_residual-in_err-barrier.result c.from_residual-in_err-barrier.ensures.1 in
    rw (p.1, p.2) (k.0, k.1, k.2, k.3, inl (barrier_cut a k.2 b m l n _ (record { stripes = k.0; puts = k.1 }) k.4.2 k.4.1 c.in_err-barrier.ensures.means))

pub returns-in_err-counts-clause-does : goal.returns-in_err-counts-clause-does
returns-in_err-counts-clause-does g c h on =
    let k = c.in_err-counts.ensures.does h on in
    let p = err_from_is_err_and c.from_residual.result c.from_residual.ensures.1 in
    rw (p.1, p.2) (k.0, k.1, k.2, k.3, inr (_, refl, k.4))
