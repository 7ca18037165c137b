use Rattle.std.proofs.Common.{◌≡◌, replicate, vec_items}
use Rattle.sheet_book.specs.Pages.{zeros}
use Rattle.sheet_book.proofs.book.Book.new.Given as goal

abbrev pub invariant-loop : goal.invariant-loop
invariant-loop l = vec_items l.bases ≡ replicate l.counter zeros
