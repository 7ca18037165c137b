use Rattle.std.proofs.Common.{refl}
use Rattle.std.proofs.lemmas.Result.{err_from_is_err_and}
use Rattle.array_work.specs.Outcomes.{sized}
use Rattle.array_work.proofs.Formatting.{stopped_zeroing, stopped_barring, stopped_clearing, formatted}
use Rattle.array_work.proofs.format.format_work.Goals as goal

pub returns-in_err-zero_members-clause-does : goal.returns-in_err-zero_members-clause-does
returns-in_err-zero_members-clause-does g c arrange h =
    let m = g.S.MemberStore.meaning c.args.store.now in
    let n = g.S.MemberStore.meaning c.zero_members.new.store in
    let l = g.G.IntentLog.meaning c.args.log.now in
    let k = g.G.IntentLog.meaning c.blank.new.self in
    let p = err_from_is_err_and c.from_residual-in_err-zero_members.result c.from_residual-in_err-zero_members.ensures.1 in
    rw (p.1, p.2) (stopped_zeroing (sized arrange c.args.shape) m l k (c.in_ok-blank.ensures.means h) _ n c.in_err-zero_members.ensures)

pub returns-in_err-barrier-clause-does : goal.returns-in_err-barrier-clause-does
returns-in_err-barrier-clause-does g c arrange h =
    let m = g.S.MemberStore.meaning c.args.store.now in
    let u = g.S.MemberStore.meaning c.zero_members.new.store in
    let n = g.S.MemberStore.meaning c.barrier.new.self in
    let l = g.G.IntentLog.meaning c.args.log.now in
    let k = g.G.IntentLog.meaning c.blank.new.self in
    let p = err_from_is_err_and c.from_residual-in_err-barrier.result c.from_residual-in_err-barrier.ensures.1 in
    rw (p.1, p.2) (stopped_barring (sized arrange c.args.shape) m l k (c.in_ok-blank.ensures.means h) u c.in_ok-zero_members.ensures _ n c.in_err-barrier.ensures.means)

pub returns-in_err-clear-clause-does : goal.returns-in_err-clear-clause-does
returns-in_err-clear-clause-does g c arrange h =
    let m = g.S.MemberStore.meaning c.args.store.now in
    let u = g.S.MemberStore.meaning c.zero_members.new.store in
    let n = g.S.MemberStore.meaning c.barrier.new.self in
    let l = g.G.IntentLog.meaning c.args.log.now in
    let k = g.G.IntentLog.meaning c.blank.new.self in
    let j = g.G.IntentLog.meaning c.clear.new.self in
    let p = err_from_is_err_and c.from_residual-in_err-clear.result c.from_residual-in_err-clear.ensures.1 in
    rw (p.1, p.2) (stopped_clearing (sized arrange c.args.shape) m l k (c.in_ok-blank.ensures.means h) u c.in_ok-zero_members.ensures n c.in_ok-barrier.ensures.means _ j (c.in_err-clear.ensures.means (c.blank.ensures.sound h)))

pub returns-clause-does : goal.returns-clause-does
returns-clause-does g c arrange h =
    let m = g.S.MemberStore.meaning c.args.store.now in
    let u = g.S.MemberStore.meaning c.zero_members.new.store in
    let n = g.S.MemberStore.meaning c.barrier.new.self in
    let l = g.G.IntentLog.meaning c.args.log.now in
    let k = g.G.IntentLog.meaning c.blank.new.self in
    let j = g.G.IntentLog.meaning c.clear.new.self in
    (refl, formatted (sized arrange c.args.shape) m l k (c.in_ok-blank.ensures.means h) u c.in_ok-zero_members.ensures n c.in_ok-barrier.ensures.means j (c.in_ok-clear.ensures.means (c.blank.ensures.sound h)))
