use Rattle.std.proofs.Common.{◌-◌, ◌<◌}
use Rattle.cut_script.proofs.Accounts.{Account}
use Rattle.cut_script.proofs.run.Given as goal

-- the last barrier lies before the next store, and the account is right
abbrev pub invariant-loop-number : goal.invariant-loop-number
invariant-loop-number g l =
    (l.barred < l.number)
    × Account (g.S.MemberStore.meaning l.initial.store) (g.S.MemberStore.meaning l.store) (l.number - 1) l.barred
