use Rattle.array_work.specs.Outcomes.{sized}
use Rattle.array_work.proofs.Fetching.{without_missing, without_held}
use Rattle.array_work.proofs.read.read_without.Goals as goal

pub returns-then-at-absent : goal.returns-then-at-absent
returns-then-at-absent g c q k l =
    without_missing q k l c.args.into.now c.read_missing.new.into (g.S.MemberStore.meaning c.args.store.now)
    (sized g.L.Layout.arrangement c.args.geometry.now.shape) c.args.block c.read_missing.result (g.S.MemberStore.meaning c.read_missing.new.store) c.args.absent
    c.held_address-at.result.member c.held_address-at.result.block c.held_address-at.ensures.member c.held_address-at.ensures.block c.if-at-absent.true c.read_missing.ensures

pub returns : goal.returns
returns g c q k l =
    without_held q k l c.args.into.now c.read_held.new.into (g.S.MemberStore.meaning c.args.store.now)
    (sized g.L.Layout.arrangement c.args.geometry.now.shape) c.args.block c.read_held.result (g.S.MemberStore.meaning c.read_held.new.store) c.args.absent
    c.held_address-at.result.member c.held_address-at.ensures.member c.if-at-absent.false c.read_held.ensures
