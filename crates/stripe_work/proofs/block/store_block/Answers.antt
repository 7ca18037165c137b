use Rattle.device_calls.proofs.Single.{store_performs}
use Rattle.stripe_work.proofs.block.store_block.Goals as goal

pub returns : goal.returns
returns g c =
    store_performs c.args.at.member c.args.at.block c.args.bytes.now (g.S.MemberStore.meaning c.args.store.now) (g.S.MemberStore.meaning c.store.new.self) c.store.result c.told-bytes c.store.ensures.means
