use Rattle.cache.specs.declared.slot.Cache.TheVariants.{Buffering, Destaging}
use Rattle.cache.proofs.Exchanges.{exchanged_length, exchanged_each_once, exchanged_contents}
use Rattle.cache.proofs.caches.Caches.change_places.Goals as goal

pub invariant_of-self : goal.invariant_of-self
invariant_of-self c =
    let s = c.args.self.now in
    let xs = s.slots in
    let ys = c.exchange.new.slots in
    let e = c.exchange.ensures in
    record { whole = exchanged_length xs ys e s.whole; buffered = exchanged_each_once Destaging xs ys e s.destaged; destaged = exchanged_each_once Buffering xs ys e s.buffered }

pub returns : goal.returns
returns c = exchanged_contents c.args.self.now.slots c.exchange.new.slots c.exchange.ensures
