use Rattle.std.proofs.Common.{◌≡◌, false, length}
use Rattle.device_calls.specs.Lists.{Completed, for_each}
use Rattle.ring_log.specs.Highest.{highest}
use Rattle.ring_log.specs.Ring.{slot_record}
use Rattle.ring_log.specs.Kept.{kept}
use Rattle.ring_log.specs.Own.{read_slot}
use Rattle.ring_log.proofs.RingLogIntentLog.power_on.Given as goal

-- the slots so far are read, and the best of them is known
abbrev pub invariant-loop-i : goal.invariant-loop-i
invariant-loop-i g l =
    (length l.bytes ≡ 512)
    × (l.self.state.awake ≡ false)
    × (g.S.MemberStore.meaning l.self.state.store ≡ g.S.MemberStore.meaning l.initial.self.state.store)
    × (kept l.best ≡ highest (slot_record l.members (g.S.MemberStore.meaning l.initial.self.state.store)) l.i)
    × Completed (for_each (read_slot l.members) l.i) (g.S.MemberStore.meaning l.initial.self.state.store) (g.S.MemberStore.meaning l.self.state.store)
