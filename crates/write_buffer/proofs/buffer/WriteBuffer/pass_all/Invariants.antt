use Rattle.std.proofs.Common.{◌≡◌, true, List, vec_items, vec_len, Result}
use Rattle.member_store.specs.declared.refusal.Refusal.{Refusal}
use Rattle.write_buffer.specs.Replay.{buffered}
use Rattle.write_buffer.specs.Passing.{FewerVersions, PassesAll}
use Rattle.write_buffer.specs.declared.held.HeldStore.{HeldStore}
use Rattle.write_buffer.proofs.buffer.WriteBuffer.pass_all.Given as goal

-- power is on, versions were only lost, and passing what is left passes all
abbrev pub invariant-loop-self : goal.invariant-loop-self
invariant-loop-self g l =
    ((g.S.MemberStore.meaning l.self.below).on ≡ true)
    × FewerVersions (buffered (vec_items l.initial.self.held) (g.S.MemberStore.meaning l.initial.self.below)) (buffered (vec_items l.self.held) (g.S.MemberStore.meaning l.self.below))
    × ((o : Result (Unit {0}) Refusal) (left : List HeldStore) (t : g.row.S.Denot) → PassesAll g.S.MemberStore.meaning g.S.MemberStore.storing (vec_items l.self.held) l.self.below o left t → PassesAll g.S.MemberStore.meaning g.S.MemberStore.storing (vec_items l.initial.self.held) l.initial.self.below o left t)

abbrev pub decreases-loop-self : goal.decreases-loop-self
decreases-loop-self g l = vec_len l.self.held
