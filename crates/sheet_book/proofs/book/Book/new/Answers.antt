use Rattle.std.proofs.Common.{[], ◌∷◌, ◌++◌, ap, ◌∙◌}
use Rattle.std.proofs.lemmas.List.{replicate_more}
use Rattle.sheet_book.specs.Pages.{zeros}
use Rattle.sheet_book.proofs.book.Book.new.Goals as goal

pub loop-preserved : goal.loop-preserved
loop-preserved c = c.in_ok-push.ensures.items ∙ ap (λ xs. xs ++ zeros ∷ []) c.loop.invariant ∙ replicate_more c.loop.counter zeros
