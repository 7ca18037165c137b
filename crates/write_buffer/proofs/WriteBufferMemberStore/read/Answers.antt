use Rattle.std.proofs.Common.{vec_items}
use Rattle.write_buffer.proofs.Newest.{current_below}
use Rattle.write_buffer.proofs.Passed.{reads_under}
use Rattle.write_buffer.proofs.WriteBufferMemberStore.read.Goals as goal

pub returns-in-None-clause-means : goal.returns-in-None-clause-means
returns-in-None-clause-means g c =
    let held = vec_items c.args.self.now.held in
    let s = g.S.MemberStore.meaning c.args.self.now.below in
    let m = c.args.at.member in
    let b = c.args.at.block in
    reads_under held s (g.S.MemberStore.meaning c.read.new.self) m b _ _ c.read.result (current_below held s m b c.in-None.ensures) c.read.ensures.means
