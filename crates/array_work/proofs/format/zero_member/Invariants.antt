use Rattle.std.proofs.Common.{[], ◌∷◌}
use Rattle.parity.specs.Xor.{zeros}
use Rattle.device_calls.specs.Lists.{store, for_each, Completed}
use Rattle.array_work.proofs.format.zero_member.Given as goal

abbrev pub invariant-loop-block : goal.invariant-loop-block
invariant-loop-block g l =
    Completed (for_each (λ b. store l.member b zeros ∷ []) l.block) (g.S.MemberStore.meaning l.initial.store) (g.S.MemberStore.meaning l.store)
