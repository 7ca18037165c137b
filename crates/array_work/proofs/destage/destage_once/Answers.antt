use Rattle.std.proofs.Common.{Some}
use Rattle.cache.specs.Meaning.{contents}
use Rattle.array_work.specs.Outcomes.{sized}
use Rattle.array_work.proofs.Changing.{moves, moved_drains}
use Rattle.array_work.proofs.destage.destage_once.Goals as goal

pub returns-in-Some-clause-caches : goal.returns-in-Some-clause-caches
returns-in-Some-clause-caches g c =
    let a = sized g.L.Layout.arrangement c.args.geometry.now.shape in
    let b = contents c.args.caches.now in
    let d = contents c.move_stripe.new.caches in
    let m = g.S.MemberStore.meaning c.args.store.now in
    let n = g.S.MemberStore.meaning c.move_stripe.new.store in
    let l = g.G.IntentLog.meaning c.args.log.now in
    moved_drains a b d c.in-Some.stripe m l n c.move_stripe.result c.move_stripe.ensures.caches (c.move_stripe.ensures.does l) c.in-Some.ensures.0

pub returns-in-Some-clause-does : goal.returns-in-Some-clause-does
returns-in-Some-clause-does g c h on =
    let a = sized g.L.Layout.arrangement c.args.geometry.now.shape in
    let b = contents c.args.caches.now in
    let d = contents c.move_stripe.new.caches in
    let m = g.S.MemberStore.meaning c.args.store.now in
    let n = g.S.MemberStore.meaning c.move_stripe.new.store in
    let l = g.G.IntentLog.meaning c.args.log.now in
    (Some c.in-Some.stripe, c.in-Some.ensures, moves a b d c.in-Some.stripe m l n c.move_stripe.result c.move_stripe.ensures.caches (c.move_stripe.ensures.does l))
