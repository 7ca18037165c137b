use Rattle.cache.proofs.Counts.{shared}
use Rattle.cache.proofs.caches.Caches.free_slots.Goals as goal

pub returns-clause-shared : goal.returns-clause-shared
returns-clause-shared c = let s = c.args.self.now in shared s.slots s.whole s.buffered s.destaged
