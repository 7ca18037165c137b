use Rattle.std.proofs.Common.{◌≡◌, drop}
use Rattle.sheet_book.specs.Pages.{rebased}
use Rattle.sheet_book.proofs.rebase_all.Given as goal

-- the bases so far, with the writes still to come, give what all writes give the bases at the start
abbrev pub invariant-loop-accepted : goal.invariant-loop-accepted
invariant-loop-accepted l = rebased l.bases (drop l.accepted-index l.writes) ≡ rebased l.initial.bases l.writes
