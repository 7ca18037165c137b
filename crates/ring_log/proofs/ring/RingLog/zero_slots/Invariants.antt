use Rattle.std.proofs.Common.{◌≡◌}
use Rattle.device_calls.specs.Lists.{Completed, for_each}
use Rattle.ring_log.specs.Own.{zero_slot}
use Rattle.ring_log.proofs.ring.RingLog.zero_slots.Given as goal

-- the slots so far are done
abbrev pub invariant-loop-i : goal.invariant-loop-i
invariant-loop-i g l =
    (l.self.state.awake ≡ l.initial.self.state.awake)
    × (l.self.state.standing ≡ l.initial.self.state.standing)
    × Completed (for_each (zero_slot l.members l.keep) l.i) (g.S.MemberStore.meaning l.initial.self.state.store) (g.S.MemberStore.meaning l.self.state.store)
