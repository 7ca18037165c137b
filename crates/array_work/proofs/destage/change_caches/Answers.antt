use Rattle.std.proofs.Common.{◌<◌, length, Ok, sym, subst, arith}
use Rattle.std.proofs.lemmas.Bool.Decides.{nat_tests}
use Rattle.std.proofs.lemmas.Result.{err_from_is_err_and}
use Rattle.geometry.specs.Counts.{members_of, blocks_of}
use Rattle.cache.specs.Meaning.{contents}
use Rattle.cache.specs.Stripes.{Listed}
use Rattle.array_model.specs.Meaning.{array}
use Rattle.array_model.specs.Calls.{ChangesCaches}
use Rattle.array_model.specs.declared.answer.Destage.TheVariants.{Changed}
use Rattle.array_model.specs.declared.state.State.TheVariants.{Ready}
use Rattle.array_work.proofs.Changing.{changes, declines, some_stripe}
use Rattle.array_work.proofs.destage.change_caches.Goals as goal

pub returns-clause-caches : goal.returns-clause-caches
returns-clause-caches g c =
    let b = contents c.args.caches.now in
    let w = c.as_slice-stripes.result.now in
    let lt : 0 < length w = grind (arith, nat_tests) in
    let list : Listed (members_of c.args.shape) (blocks_of c.args.shape) b.buffering w = subst (λ ys. Listed (members_of c.args.shape) (blocks_of c.args.shape) b.buffering ys) (sym c.as_slice-stripes.ensures) c.buffering_stripes-list.ensures in
    (c.in_ok-puts.ensures.few, some_stripe (members_of c.args.shape) (blocks_of c.args.shape) b.buffering w list lt, c.change_places.ensures)

pub returns-clause-does : goal.returns-clause-does
returns-clause-does g c h on =
    let b = contents c.args.caches.now in
    let m = g.S.MemberStore.meaning c.args.store.now in
    let l = g.G.IntentLog.meaning c.args.log.now in
    let n = g.S.MemberStore.meaning c.name_stripes.new.store in
    let k = g.G.IntentLog.meaning c.name_stripes.new.log in
    let w = c.as_slice-stripes.result.now in
    let lt : 0 < length w = grind (arith, nat_tests) in
    let list : Listed (members_of c.args.shape) (blocks_of c.args.shape) b.buffering w = subst (λ ys. Listed (members_of c.args.shape) (blocks_of c.args.shape) b.buffering ys) (sym c.as_slice-stripes.ensures) c.buffering_stripes-list.ensures in
    (w, list, subst (λ x. ChangesCaches w (array Ready b m l) (Ok (Changed c.in_ok-puts.puts)) (array Ready x n k)) (sym c.change_places.ensures) (changes b m l n k w c.in_ok-puts.puts lt (c.in_ok-puts.ensures.does Ready b h on)))

pub returns-in_err-puts-clause-does : goal.returns-in_err-puts-clause-does
returns-in_err-puts-clause-does g c h on =
    let b = contents c.args.caches.now in
    let m = g.S.MemberStore.meaning c.args.store.now in
    let l = g.G.IntentLog.meaning c.args.log.now in
    let n = g.S.MemberStore.meaning c.name_stripes.new.store in
    let k = g.G.IntentLog.meaning c.name_stripes.new.log in
    let w = c.as_slice-stripes.result.now in
    let lt : 0 < length w = grind (arith, nat_tests) in
    let list : Listed (members_of c.args.shape) (blocks_of c.args.shape) b.buffering w = subst (λ ys. Listed (members_of c.args.shape) (blocks_of c.args.shape) b.buffering ys) (sym c.as_slice-stripes.ensures) c.buffering_stripes-list.ensures in
    let p = err_from_is_err_and c.from_residual.result c.from_residual.ensures.1 in
    rw (p.1, p.2) (w, list, declines b m l n k w _ lt (c.in_err-puts.ensures.does Ready b h on))
