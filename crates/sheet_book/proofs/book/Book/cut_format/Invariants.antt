use Rattle.std.proofs.Common.{◌≡◌, ◌++◌, vec_items}
use Rattle.sheet_book.specs.Pages.{zero_writes}
use Rattle.sheet_book.proofs.book.Book.cut_format.Given as goal

abbrev pub invariant-loop-block : goal.invariant-loop-block
invariant-loop-block l =
    (l.self.bases ≡ l.initial.self.bases)
    × (vec_items l.self.writes ≡ vec_items l.initial.self.writes ++ zero_writes l.block)
