use Rattle.geometry.specs.Counts.{members_of, blocks_of}
use Rattle.cache.specs.declared.slot.Cache.TheVariants.{Destaging}
use Rattle.cache.specs.Slots.{blocks}
use Rattle.cache.proofs.Lowest.{lowest_from_zero}
use Rattle.cache.proofs.caches.Caches.lowest_destaging_stripe.Goals as goal

pub returns : goal.returns
returns c =
    let a = c.args.shape in
    lowest_from_zero (members_of a) (blocks_of a) (blocks Destaging c.args.self.now.slots) c.next_stripe.result c.next_stripe.ensures
