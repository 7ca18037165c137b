use Rattle.std.proofs.Common.{None, rules, tests, arith}
use Rattle.geometry.specs.Counts.{members_of, blocks_of}
use Rattle.cache.specs.Stripes.{by_position}
use Rattle.cache.specs.declared.slot.Cache.TheVariants.{Destaging}
use Rattle.cache.specs.Slots.{blocks}
use Rattle.cache.proofs.Copies.{all_positions, made_at}
use Rattle.cache.proofs.caches.Caches.destaging_blocks.Goals as goal

pub returns : goal.returns
returns c =
    let a = c.args.shape in
    let f = blocks Destaging c.args.self.now.slots in
    let r = c.from_fn.ensures.items in
    all_positions (members_of a) (blocks_of a) f c.args.stripe c.from_fn.result a.members.most r.long
    (λ j l. made_at _ (by_position (members_of a) (blocks_of a) f c.args.stripe) _ (λ x y q k. search (rules, tests)) c.from_fn.result 7 0 r.each j None (omega arith) l)
