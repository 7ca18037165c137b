use Rattle.array.specs.Sound.{Sound}
use Rattle.clients.proofs.resynchronize.Given as goal

abbrev pub invariant-loop : goal.invariant-loop
invariant-loop g l =
    let sound = Sound g.S.MemberStore.meaning g.G.IntentLog.meaning g.G.IntentLog.sound in
    sound l.initial.array → sound l.array
