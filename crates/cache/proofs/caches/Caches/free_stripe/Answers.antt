use Rattle.geometry.specs.Counts.{members_of, blocks_of}
use Rattle.cache.specs.Stripes.{in_stripe}
use Rattle.cache.proofs.Frees.{freed_contents, freed_length, freed_buffering, freed_destaging}
use Rattle.cache.proofs.caches.Caches.free_stripe.Goals as goal

pub invariant_of-self : goal.invariant_of-self
invariant_of-self c =
    let s = c.args.self.now in
    let xs = s.slots in
    let ys = c.free_slots_of.new.slots in
    let t = in_stripe (members_of c.args.shape) (blocks_of c.args.shape) c.args.stripe in
    let e = c.free_slots_of.ensures in
    record { whole = freed_length t xs ys e s.whole; buffered = freed_buffering t xs ys e s.buffered; destaged = freed_destaging t xs ys e s.destaged }

pub returns : goal.returns
returns c =
    let s = c.args.self.now in
    freed_contents (members_of c.args.shape) (blocks_of c.args.shape) c.args.shape.members.least c.args.stripe s.slots c.free_slots_of.new.slots c.free_slots_of.ensures s.destaged
