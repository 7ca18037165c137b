use Rattle.std.proofs.Common.{◌≡◌, true, false, sym, ◌∙◌, refl, arith, rules, tests}
use Rattle.std.proofs.lemmas.Iterator.{YieldsList-from_range}
use Rattle.std.proofs.lemmas.Iterator.Consumers.{YieldsList-from_filter, YieldsList-at, count_from_yields_List}
use Rattle.simulate.specs.Counts.{named_below}
use Rattle.simulate.proofs.Looks.{named, found, not_found}
use Rattle.simulate.proofs.show.named_stripes.Goals as goal

pub returns-then-not-has_record : goal.returns-then-not-has_record
returns-then-not-has_record g c s =
    let l = g.G.IntentLog.meaning c.args.log.now in
    let none : c.has_record.result ≡ false = search rules in
    not_found l.on l.standing.stands (named_below l.standing.names c.args.stripes) (sym (c.has_record.ensures s) ∙ none)

pub returns : goal.returns
returns g c s =
    let l = g.G.IntentLog.meaning c.args.log.now in
    let names = l.standing.names in
    let n = c.args.stripes in
    let stands : c.has_record.result ≡ true = search rules in
    found l.on l.standing.stands (named_below names n) c.count.result (sym (c.has_record.ensures s) ∙ stands)
    (λ on. count_from_yields_List c.filter-named.result _ c.count.ensures.ran (YieldsList-from_filter _ names (YieldsList-at c.filter-named.ensures.source (YieldsList-from_range 0 n n refl (omega arith))) c.filter-named.ensures.closure (λ x b q k. search (rules, tests))) ∙ named names n)
