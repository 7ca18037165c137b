use Rattle.std.proofs.Common.{◌≡◌}
use Rattle.cut_script.specs.Account.{FirstBytes}
use Rattle.cut_script.proofs.standing.Given as goal

-- reads change nothing, and the bytes so far are there
abbrev pub invariant-loop-number : goal.invariant-loop-number
invariant-loop-number g l =
    (g.S.MemberStore.meaning l.store ≡ g.S.MemberStore.meaning l.initial.store)
    × FirstBytes (g.S.MemberStore.meaning l.initial.store) l.number l.first-items
