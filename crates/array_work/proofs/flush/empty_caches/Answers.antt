use Rattle.std.proofs.Common.{◌≤◌, refl, subst, arith}
use Rattle.std.proofs.lemmas.Result.{err_from_is_err_and}
use Rattle.geometry.specs.Counts.{members_of, blocks_of}
use Rattle.cache.specs.Meaning.{contents}
use Rattle.array_model.specs.Meaning.{array}
use Rattle.array_model.specs.Calls.{begin}
use Rattle.array_model.specs.declared.state.State.TheVariants.{Ready}
use Rattle.array_work.specs.Outcomes.{sized}
use Rattle.array_work.specs.Draining.{After}
use Rattle.array_work.proofs.Falling.{left_in, falls_moved, falls_changed, few_left}
use Rattle.array_work.proofs.Emptying.{idle}
use Rattle.array_work.proofs.Turns.{one_moved, one_changed}
use Rattle.array_work.proofs.flush.empty_caches.Goals as goal

pub loop-counts-init : goal.loop-counts-init
loop-counts-init g c =
    let a = c.args.geometry.now.shape in
    let f : left_in (members_of a) (blocks_of a) (contents c.args.caches.now) ≤ 352321536 = few_left (members_of a) (blocks_of a) (contents c.args.caches.now) a.members.most a.few in
    let zero = c.default-counts.ensures in
    record { sound = λ h. h; drains = λ h on. (on, rw (zero.0, zero.1) begin); few = omega arith }

pub loop-counts-smaller-in-Moved : goal.loop-counts-smaller-in-Moved
loop-counts-smaller-in-Moved g c =
    let m = members_of c.args.geometry.now.shape in
    let n = blocks_of c.args.geometry.now.shape in
    let b = contents c.loop-counts.caches in
    let d = contents c.destage_once.new.caches in
    falls_moved m n b d c.in-Moved.field-0 (subst (λ a. After m n b a d) c.in-Moved.is c.in_ok-destage_once.ensures.caches)

pub loop-counts-smaller : goal.loop-counts-smaller
loop-counts-smaller g c =
    let m = members_of c.args.geometry.now.shape in
    let n = blocks_of c.args.geometry.now.shape in
    let b = contents c.loop-counts.caches in
    let d = contents c.destage_once.new.caches in
    falls_changed m n b d c.in-Changed.puts (subst (λ a. After m n b a d) c.in-Changed.is c.in_ok-destage_once.ensures.caches)

pub loop-counts-preserved-in-Moved : goal.loop-counts-preserved-in-Moved
loop-counts-preserved-in-Moved g c =
    let a = sized g.L.Layout.arrangement c.args.geometry.now.shape in
    let z = array Ready (contents c.args.caches.now) (g.S.MemberStore.meaning c.args.store.now) (g.G.IntentLog.meaning c.args.log.now) in
    let b = contents c.loop-counts.caches in
    let d = contents c.destage_once.new.caches in
    let l = g.G.IntentLog.meaning c.loop-counts.log in
    let h = c.in_ok-destage_once.ensures in
    one_moved a z (g.G.IntentLog.sound c.args.log.now) (g.G.IntentLog.sound c.loop-counts.log) (g.G.IntentLog.sound c.destage_once.new.log) c.loop-counts.counts.stripes c.loop-counts.counts.puts b (g.S.MemberStore.meaning c.loop-counts.store) l c.loop-counts.invariant
    c.in_ok-destage_once.field-0 d (g.S.MemberStore.meaning c.destage_once.new.store) (g.G.IntentLog.meaning c.destage_once.new.log) h.sound h.does h.caches c.in-Moved.field-0 c.in-Moved.is

pub loop-counts-preserved : goal.loop-counts-preserved
loop-counts-preserved g c =
    let a = sized g.L.Layout.arrangement c.args.geometry.now.shape in
    let z = array Ready (contents c.args.caches.now) (g.S.MemberStore.meaning c.args.store.now) (g.G.IntentLog.meaning c.args.log.now) in
    let b = contents c.loop-counts.caches in
    let d = contents c.destage_once.new.caches in
    let l = g.G.IntentLog.meaning c.loop-counts.log in
    let h = c.in_ok-destage_once.ensures in
    one_changed a z (g.G.IntentLog.sound c.args.log.now) (g.G.IntentLog.sound c.loop-counts.log) (g.G.IntentLog.sound c.destage_once.new.log) c.loop-counts.counts.stripes c.loop-counts.counts.puts b (g.S.MemberStore.meaning c.loop-counts.store) l c.loop-counts.invariant
    c.in_ok-destage_once.field-0 d (g.S.MemberStore.meaning c.destage_once.new.store) (g.G.IntentLog.meaning c.destage_once.new.log) h.sound h.does h.caches c.in-Changed.puts c.in-Changed.is

pub returns-in-Idle-clause-does : goal.returns-in-Idle-clause-does
returns-in-Idle-clause-does g c h on =
    let b = contents c.loop-counts.caches in
    let d = contents c.destage_once.new.caches in
    let a = sized g.L.Layout.arrangement c.args.geometry.now.shape in
    let z = array Ready (contents c.args.caches.now) (g.S.MemberStore.meaning c.args.store.now) (g.G.IntentLog.meaning c.args.log.now) in
    let u = g.S.MemberStore.meaning c.loop-counts.store in
    let l = g.G.IntentLog.meaning c.loop-counts.log in
    let t = array Ready d (g.S.MemberStore.meaning c.destage_once.new.store) (g.G.IntentLog.meaning c.destage_once.new.log) in
    let i = c.loop-counts.invariant in
    let k = i.drains h on in
    let e = idle a z c.loop-counts.counts.stripes c.loop-counts.counts.puts b u l t c.in_ok-destage_once.field-0 c.in-Idle.is (c.in_ok-destage_once.ensures.does (i.sound h) k.0) in
    (c.loop-counts.counts.stripes, c.loop-counts.counts.puts, array Ready b u l, k.1, (refl, e.0, e.1))

pub returns-in_err-destage_once-clause-does : goal.returns-in_err-destage_once-clause-does
returns-in_err-destage_once-clause-does g c h on =
    let i = c.loop-counts.invariant in
    let k = i.drains h on in
    let from = array Ready (contents c.loop-counts.caches) (g.S.MemberStore.meaning c.loop-counts.store) (g.G.IntentLog.meaning c.loop-counts.log) in
    let p = err_from_is_err_and c.from_residual.result c.from_residual.ensures.1 in
    rw (p.1, p.2) (c.loop-counts.counts.stripes, c.loop-counts.counts.puts, from, k.1, c.in_err-destage_once.ensures.does (i.sound h) k.0)
