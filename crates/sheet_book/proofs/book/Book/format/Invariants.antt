use Rattle.std.proofs.Common.{◌≡◌, ◌++◌, drop, replicate, vec_items}
use Rattle.sheet_book.specs.Pages.{zeros}
use Rattle.sheet_book.proofs.book.Book.format.Given as goal

abbrev pub invariant-loop-block : goal.invariant-loop-block
invariant-loop-block l = vec_items l.self.bases ≡ replicate l.block zeros ++ drop l.block (vec_items l.initial.self.bases)
