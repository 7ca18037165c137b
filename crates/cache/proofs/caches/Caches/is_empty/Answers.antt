use Rattle.std.proofs.Common.{rules, tests}
use Rattle.std.proofs.lemmas.Iterator.{YieldsList-from_slice}
use Rattle.std.proofs.lemmas.Iterator.Search.{any_from_yields_List}
use Rattle.cache.specs.Slots.{belongs}
use Rattle.cache.proofs.Counts.{is_empty}
use Rattle.cache.proofs.caches.Caches.is_empty.Goals as goal

pub returns : goal.returns
returns c =
    let o = c.args.cache in
    let xs = c.args.self.now.slots in
    is_empty o xs c.any.result (any_from_yields_List (belongs o) _ _ c.any.result c.any.ensures.ran (YieldsList-from_slice xs cc) (λ x b q k. search (rules, tests)))
