use Rattle.std.proofs.Common.{◌≡◌, ◌+◌, ◌-◌, length, take, drop, vec_items, ap, ◌∙◌, arith, length-drop, length-take}
use Rattle.memory_store.specs.Row.{offset, block_at}
use Rattle.memory_store.specs.Rooms.{within}
use Rattle.memory_store.proofs.memory.MemoryStore.block_bytes.Goals as goal

pub returns : goal.returns
returns c =
    let s = c.args.self.now in
    let m = c.args.at.member in
    let b = c.args.at.block in
    let begin = c.offset-begin.result in
    let xs = c.deref.result.now in
    let ys = vec_items s.bytes in
    let size : begin + 512 - begin ≡ 512 = omega arith in
    let is = ap (λ n. take n (drop begin xs)) size ∙ ap (λ n. take 512 (drop n xs)) c.offset-begin.ensures.value ∙ ap (λ zs. take 512 (drop (offset s.blocks m b) zs)) c.deref.ensures.value in
    let room = within s.members s.blocks m b (length ys) (omega arith) (omega arith) (omega (arith, s.room, s.bytes.ok.0)) in
    let long : length (block_at ys s.blocks m b) ≡ 512 = simp (length-take, length-drop) (omega arith) in
    ((omega arith, omega arith), is, ap length is ∙ long)
