use Rattle.std.proofs.Common.{◌≡◌, true, drop}
use Rattle.member_store.specs.Meaning.{Meaning}
use Rattle.cache.specs.Contents.{Contents}
use Rattle.array_model.specs.Meaning.{array}
use Rattle.array_model.specs.Checks.{all_named}
use Rattle.array_model.specs.declared.state.State.{State}
use Rattle.array_work.proofs.naming.names_all.Given as goal

abbrev pub invariant-loop-stripe : goal.invariant-loop-stripe
invariant-loop-stripe g l =
    (q : State) (c : Contents) (m : Meaning) → g.G.IntentLog.sound l.log → (g.G.IntentLog.meaning l.log).on ≡ true
    → all_named (array q c m (g.G.IntentLog.meaning l.log)) l.list ≡ all_named (array q c m (g.G.IntentLog.meaning l.log)) (drop l.stripe-index l.list)
