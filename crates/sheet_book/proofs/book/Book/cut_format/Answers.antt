use Rattle.std.proofs.Common.{List, [], ◌∷◌, ◌++◌, vec_items, sym, ap, ◌∙◌, append_assoc, add-one}
use Rattle.sheet_book.specs.declared.book.Accepted.{Accepted}
use Rattle.sheet_book.specs.Pages.{zeros, zero_writes}
use Rattle.sheet_book.proofs.book.Book.cut_format.Goals as goal

pub loop-block-preserved : goal.loop-block-preserved
loop-block-preserved c =
    let i = c.loop-block.block in
    let old = vec_items c.args.self.now.writes in
    let w : List Accepted = record { block = i; bytes = zeros } ∷ [] in (
      c.in_ok-write.ensures.bases ∙ c.loop-block.invariant.0,
      c.in_ok-write.ensures.lists ∙ ap (λ ws. ws ++ w) c.loop-block.invariant.1 ∙ append_assoc old (zero_writes i) w ∙ ap (λ n. old ++ zero_writes n) (sym (add-one i)),
    )
