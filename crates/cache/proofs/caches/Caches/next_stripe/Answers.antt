use Rattle.std.proofs.Common.{ℕ, None, Some, rules, tests, ◌∙◌, leb}
use Rattle.std.proofs.lemmas.Iterator.{YieldsList-from_slice}
use Rattle.std.proofs.lemmas.Iterator.Consumers.{YieldsList-from_filter, YieldsList-from_filter_map, YieldsList-at, fold_from_yields_List}
use Rattle.geometry.specs.Counts.{members_of, blocks_of}
use Rattle.cache.specs.Searches.{slot_stripe, lower}
use Rattle.cache.proofs.Lowest.{lowest_stripe, lower_all}
use Rattle.cache.proofs.caches.Caches.next_stripe.Goals as goal

pub returns : goal.returns
returns c =
    let m = members_of c.args.shape in
    let n = blocks_of c.args.shape in
    let o = c.args.cache in
    lowest_stripe m n o c.args.self.now.slots c.args.from c.fold.result
    (fold_from_yields_List _ (λ t s. Some (lower t s)) None c.fold.result c.fold.ensures.ran
    (YieldsList-from_filter _ (λ (s : ℕ). leb c.args.from s)
    (YieldsList-at c.filter.ensures.source (YieldsList-from_filter_map _ (slot_stripe m n o) (YieldsList-at c.filter_map.ensures.source (YieldsList-from_slice c.args.self.now.slots cc)) c.filter_map.ensures.closure (λ x r q k. search (rules, tests))))
    c.filter.ensures.closure (λ x b q k. search (rules, tests)))
    (λ t s b q k. search (rules, tests)) ∙ lower_all _)
