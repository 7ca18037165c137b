use Rattle.cache.specs.Meaning.{contents}
use Rattle.array_work.specs.Outcomes.{sized}
use Rattle.array_work.proofs.Fetching.{newest_fetched}
use Rattle.array_work.proofs.read.read_newest.Goals as goal

pub returns : goal.returns
returns g c q l =
    newest_fetched q (contents c.args.caches.now) l c.args.into.now c.read_held.new.into (g.S.MemberStore.meaning c.args.store.now)
    (sized g.L.Layout.arrangement c.args.geometry.now.shape) c.args.block c.read_held.result (g.S.MemberStore.meaning c.read_held.new.store) c.in_default.ensures c.read_held.ensures
