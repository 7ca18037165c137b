use Rattle.member_store.proofs.Refusals.{refused_went}
use Rattle.std.proofs.lemmas.Result.{err_from_is_err_and}
use Rattle.write_buffer.proofs.Passed.{cut_store, stored_then}
use Rattle.write_buffer.proofs.WriteBufferMemberStore.store.Goals as goal

pub returns-in_err-make_room-clause-means : goal.returns-in_err-make_room-clause-means
returns-in_err-make_room-clause-means g c =
    let told = c.in_err-make_room.ensures in
    let p = err_from_is_err_and c.from_residual-in_err-make_room.result c.from_residual-in_err-make_room.ensures.1 in
    rw (p.1, p.2) (refused_went _ _ _ _ c.in_ok-check_access.ensures (told.means.0, cut_store _ _ _ _ _ told.means.1))

pub returns-clause-means : goal.returns-clause-means
returns-clause-means g c = (c.in_ok-check_access.ensures, stored_then _ _ _ c.in_ok-make_room.ensures.means _ _ _ c.hold.ensures.stored)
