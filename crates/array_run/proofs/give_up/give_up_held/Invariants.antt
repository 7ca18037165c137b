use Rattle.std.proofs.Common.{◌≡◌, ℕ, ◌+◌, vec_len}
use Rattle.array.specs.Sound.{means, Sound}
use Rattle.array_run.specs.Calls.{AfterGiveUps}
use Rattle.array_run.proofs.give_up.give_up_held.Given as goal

abbrev pub invariant-loop-token : goal.invariant-loop-token
invariant-loop-token g l =
    let sound = Sound g.S.MemberStore.meaning g.G.IntentLog.meaning g.G.IntentLog.sound in
    let m = means g.S.MemberStore.meaning g.G.IntentLog.meaning in
    (sound l.initial.array → sound l.array)
    × ((k : ℕ) × (k + vec_len l.held ≡ vec_len l.initial.held) × AfterGiveUps k (m l.initial.array) (m l.array))

abbrev pub decreases-loop-token : goal.decreases-loop-token
decreases-loop-token g l = vec_len l.held
