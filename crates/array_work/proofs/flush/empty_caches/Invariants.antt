use Rattle.geometry.specs.Counts.{members_of, blocks_of}
use Rattle.cache.specs.Meaning.{contents}
use Rattle.array_model.specs.Meaning.{array}
use Rattle.array_model.specs.declared.state.State.TheVariants.{Ready}
use Rattle.array_work.specs.Outcomes.{sized}
use Rattle.array_work.proofs.Falling.{left_in}
use Rattle.array_work.proofs.Turns.{Turn}
use Rattle.array_work.proofs.flush.empty_caches.Given as goal

abbrev pub invariant-loop-counts : goal.invariant-loop-counts
invariant-loop-counts g l =
    Turn (sized g.L.Layout.arrangement l.geometry.shape) (array Ready (contents l.initial.caches) (g.S.MemberStore.meaning l.initial.store) (g.G.IntentLog.meaning l.initial.log))
    (g.G.IntentLog.sound l.initial.log) (g.G.IntentLog.sound l.log) l.counts.stripes l.counts.puts (contents l.caches) (g.S.MemberStore.meaning l.store) (g.G.IntentLog.meaning l.log)

abbrev pub decreases-loop-counts : goal.decreases-loop-counts
decreases-loop-counts g l = left_in (members_of l.geometry.shape) (blocks_of l.geometry.shape) (contents l.caches)
