use Rattle.std.proofs.Common.{refl, ◌∙◌, arith, length-set}
use Rattle.geometry.specs.Counts.{members_of, blocks_of}
use Rattle.cache.specs.Stripes.{HasStripe}
use Rattle.cache.specs.Slots.{blocks}
use Rattle.cache.specs.Searches.{slot_stripe}
use Rattle.cache.proofs.Lowest.{above_length, stripes_fall, listing_none, listing_more, listing_all}
use Rattle.cache.proofs.caches.Caches.all_stripes.Goals as goal

pub loop-stripe-init : goal.loop-stripe-init
loop-stripe-init c =
    let m = members_of c.args.shape in
    let n = blocks_of c.args.shape in
    let xs = c.args.self.now.slots in
    let f = above_length (slot_stripe m n c.args.cache) 0 xs in
    record { long = refl; room = omega arith; listing = listing_none (HasStripe m n (blocks c.args.cache xs)) _ }

pub bounds-numbers-count : goal.bounds-numbers-count
bounds-numbers-count c =
    let f = stripes_fall (members_of c.args.shape) (blocks_of c.args.shape) c.args.cache c.args.self.now.slots c.loop-stripe.from c.in-Some.stripe c.in-Some.ensures in
    omega (arith, c.loop-stripe.invariant.room)

pub loop-stripe-smaller : goal.loop-stripe-smaller
loop-stripe-smaller c =
    let f = stripes_fall (members_of c.args.shape) (blocks_of c.args.shape) c.args.cache c.args.self.now.slots c.loop-stripe.from c.in-Some.stripe c.in-Some.ensures in
    omega arith

pub loop-stripe-preserved : goal.loop-stripe-preserved
loop-stripe-preserved c =
    let m = members_of c.args.shape in
    let n = blocks_of c.args.shape in
    let xs = c.args.self.now.slots in
    let t = c.in-Some.stripe in
    let i = c.loop-stripe.invariant in
    let f = stripes_fall m n c.args.cache xs c.loop-stripe.from t c.in-Some.ensures in
    record {
      long = length-set c.loop-stripe.numbers c.loop-stripe.count t ∙ i.long;
      room = omega (arith, i.room);
      listing = listing_more (HasStripe m n (blocks c.args.cache xs)) c.loop-stripe.from c.loop-stripe.count c.loop-stripe.numbers i.listing t (omega (arith, i.long, i.room)) c.in-Some.ensures;
    }

pub returns : goal.returns
returns c =
    let i = c.loop-stripe.invariant in
    listing_all (members_of c.args.shape) (blocks_of c.args.shape) (blocks c.args.cache c.args.self.now.slots) c.loop-stripe.from c.loop-stripe.count c.loop-stripe.numbers i.long (omega (arith, i.room)) i.listing c.in_default.ensures
