use Rattle.std.proofs.Common.{◌≡◌, ℕ, ◌+◌, List, [], ◌++◌, drop, get_or, codes, decimal, sym, ap, ◌∙◌, rules, append_assoc, append-nil}
use Rattle.std.specs.Fmt.{HasWritten}
use Rattle.std.proofs.Output.{has_written_append, has_written_of_eq}
use Rattle.std.proofs.lemmas.List.{at_drop_more, at_drop_all}
use Rattle.stripe_set.specs.Stripes.{stripes}
use Rattle.record.specs.Text.{stripes_text}
use Rattle.record.proofs.text.RecordDisplay.fmt.Goals as goal

pub loop-stripe-init : goal.loop-stripe-init
loop-stripe-init g c = λ plain. ([], search rules, search rules)

pub loop-stripe-preserved : goal.loop-stripe-preserved
loop-stripe-preserved g c = λ plain.
    let items = c.as_slice-stripe-items.result.now in
    let i : ℕ = c.loop-stripe.stripe-index in
    let text : List ℕ = codes " " ++ decimal (get_or items i 0) in
    let so_far = c.loop-stripe.invariant plain in (
      so_far.0 ++ text,
      has_written_append _ _ _ _ _ _ so_far.1 (search rules),
      append_assoc so_far.0 text (stripes_text (drop (c.loop-stripe.stripe-index + 1) items)) ∙ ap (λ (t : List ℕ). so_far.0 ++ t) (sym (at_drop_more stripes_text items i 0 c.loop-stripe-test.true)) ∙ so_far.2,
    )

pub returns-clause-writes : goal.returns-clause-writes
returns-clause-writes g c = λ plain _.
    let items = c.as_slice-stripe-items.result.now in
    let version : List ℕ = decimal c.args.self.now.version in
    let first : HasWritten g.W.Write.write_str_gives c.args.f.now (codes "version " ++ (version ++ codes " stripes")) c.write.new.self = search rules in
    let so_far = c.loop-stripe.invariant first.plain in
    let none : stripes_text (drop c.loop-stripe.stripe-index items) ≡ [] = at_drop_all stripes_text items c.loop-stripe.stripe-index c.loop-stripe-test.false in
    let all : so_far.0 ≡ stripes_text (stripes c.args.self.now.stripes) =
    sym (append-nil so_far.0) ∙ ap (λ (t : List ℕ). so_far.0 ++ t) (sym none) ∙ so_far.2 ∙ ap stripes_text (c.as_slice-stripe-items.ensures ∙ c.stripes-stripes.ensures) in
    let text : (codes "version " ++ (version ++ codes " stripes")) ++ so_far.0 ≡ codes "version " ++ (version ++ (codes " stripes" ++ stripes_text (stripes c.args.self.now.stripes))) =
    ap (λ (t : List ℕ). codes "version " ++ t) (append_assoc version (codes " stripes") so_far.0 ∙ ap (λ (t : List ℕ). version ++ (codes " stripes" ++ t)) all) in
    has_written_of_eq _ _ _ _ _ text (has_written_append _ _ _ _ _ _ first so_far.1)
