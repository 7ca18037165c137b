use Rattle.std.proofs.Common.{◌≡◌, true, rules}
use Rattle.write_buffer.proofs.Passed.{bars_then}
use Rattle.write_buffer.proofs.WriteBufferMemberStore.barrier.Goals as goal

pub returns-clause-means : goal.returns-clause-means
returns-clause-means g c =
    let on : (g.S.MemberStore.meaning c.args.self.now.below).on ≡ true = search rules in
    let told = c.in_ok-pass_all.ensures in
    rw told.none (bars_then _ _ _ c.barrier.result on (rw told.none at told.means) c.barrier.ensures.means)
