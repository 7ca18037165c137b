use Rattle.std.proofs.Common.{[], ◌∷◌}
use Rattle.parity.specs.Xor.{zeros}
use Rattle.device_calls.specs.Lists.{store, for_each, Completed}
use Rattle.array_work.proofs.format.zero_members.Given as goal

abbrev pub invariant-loop-member : goal.invariant-loop-member
invariant-loop-member g l =
    Completed (for_each (λ m. for_each (λ b. store m b zeros ∷ []) l.blocks) l.member) (g.S.MemberStore.meaning l.initial.store) (g.S.MemberStore.meaning l.store)
