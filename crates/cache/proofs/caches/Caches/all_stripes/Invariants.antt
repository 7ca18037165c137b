use Rattle.std.proofs.Common.{◌≡◌, ◌+◌, ◌≤◌, length}
use Rattle.geometry.specs.Counts.{members_of, blocks_of}
use Rattle.cache.specs.Stripes.{HasStripe}
use Rattle.cache.specs.Slots.{blocks}
use Rattle.cache.specs.Searches.{slot_stripe}
use Rattle.cache.proofs.Lowest.{above, Listing}
use Rattle.cache.proofs.caches.Caches.all_stripes.Given as goal

abbrev pub invariant-loop-stripe : goal.invariant-loop-stripe
invariant-loop-stripe l = record {
  long : length l.numbers ≡ 32;
  room : l.count + above (slot_stripe (members_of l.shape) (blocks_of l.shape) l.cache) l.from l.self.slots ≤ 32;
  listing : Listing (HasStripe (members_of l.shape) (blocks_of l.shape) (blocks l.cache l.self.slots)) l.from l.count l.numbers;
}

abbrev pub decreases-loop-stripe : goal.decreases-loop-stripe
decreases-loop-stripe l = above (slot_stripe (members_of l.shape) (blocks_of l.shape) l.cache) l.from l.self.slots
