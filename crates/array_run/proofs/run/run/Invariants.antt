use Rattle.std.proofs.Common.{◌≡◌, ◌+◌, ◌≤◌, vec_items, vec_len, vec_capacity, Option}
use Rattle.array.specs.Sound.{means}
use Rattle.array_run.specs.TokenCounts.{counts_of, Grown}
use Rattle.array_run.specs.Trace.{WellFormed, Account, InRun}
use Rattle.array_run.proofs.Trace.{Sofar}
use Rattle.array_run.proofs.run.run.Given as goal

abbrev pub invariant-loop-call : goal.invariant-loop-call
invariant-loop-call g l =
    let fit = WellFormed g.S.MemberStore.meaning g.G.IntentLog.meaning g.G.IntentLog.sound in
    let m = means g.S.MemberStore.meaning g.G.IntentLog.meaning in
    let arrange = g.L.Layout.arrangement in
    (fit l.initial.array → fit l.array)
    × (fit l.initial.array → (o : Option Account) → InRun arrange o (m l.initial.array)
    → Sofar arrange l.calls (vec_items l.initial.answers) (vec_items l.answers) (counts_of l.initial.tokens) (m l.initial.array) l.call-index (counts_of l.tokens) (m l.array) o)
    × Grown l.call-index l.initial.tokens l.tokens
    × (vec_capacity l.initial.answers ≤ vec_capacity l.answers)
    × (vec_len l.answers ≡ vec_len l.initial.answers + l.call-index)
