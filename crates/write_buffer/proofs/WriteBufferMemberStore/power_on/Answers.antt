use Rattle.std.proofs.Common.{vec_items}
use Rattle.write_buffer.proofs.Passed.{powered_under}
use Rattle.write_buffer.proofs.WriteBufferMemberStore.power_on.Goals as goal

pub returns-clause-means : goal.returns-clause-means
returns-clause-means g c = rw c.clear.ensures.items (powered_under (vec_items c.args.self.now.held) _ _ c.power_on.ensures.means)
