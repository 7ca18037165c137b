use Rattle.std.proofs.Common.{◌≡◌, ◌+◌, ◌-◌, ◌*◌, ◌≤◌, length, vec_items, sym, ap, ◌∙◌, arith}
use borrow.Rule.Slice.PartMut.{put_mid}
use Rattle.std.proofs.lemmas.List.{with_items_is}
use Rattle.memory_store.specs.Row.{offset}
use Rattle.memory_store.proofs.Written.{stored, length_written}
use Rattle.memory_store.proofs.memory.MemoryStore.put.Goals as goal

pub returns-clause-stored : goal.returns-clause-stored
returns-clause-stored c =
    let s = c.args.self.now in
    let m = c.args.at.member in
    let b = c.args.at.block in
    let x = c.args.bytes.now in
    let xs = vec_items s.bytes in
    let a = c.offset-start.result in
    let p = c.requires in
    let room : s.members * s.blocks * 512 ≤ length xs = omega (arith, s.bytes.ok.0, s.room) in
    let size : a + 512 - a ≡ 512 = omega arith in
    let w : put_mid a (a + 512 - a) c.deref_mut.result.now c.copy_from_slice.new.self ≡ put_mid (offset s.blocks m b) 512 xs x = cc in
    let long = ap length w ∙ length_written s.members s.blocks m b xs x (p.member, p.block) room p.whole ∙ sym s.bytes.ok.0 in
    stored s.members s.blocks m b xs x (p.member, p.block) room p.whole _ (with_items_is s.bytes _ long ∙ w)
