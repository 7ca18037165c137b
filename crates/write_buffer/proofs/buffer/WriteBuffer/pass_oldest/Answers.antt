use Rattle.std.proofs.Common.{◌<◌, length, vec_items, sym, refl, arith}
use Rattle.std.specs.List.{remove}
use Rattle.write_buffer.proofs.Orders.{first_out, oldest_gone, oldest_kept}
use Rattle.write_buffer.proofs.Passed.{gone_fewer, kept_cut}
use Rattle.write_buffer.proofs.buffer.WriteBuffer.pass_oldest.Goals as goal

pub returns-then-not-powered : goal.returns-then-not-powered
returns-then-not-powered g c =
    let w = c.args.self.now in
    let mean = g.S.MemberStore.meaning in
    let h = c.index.result.now in
    let hs = vec_items w.held in
    let t = c.store-answer.new.self in
    let r = c.store-answer.result in
    let later = remove hs 0 in
    let some : 0 < length hs = omega (arith, w.held.ok.0, c.requires.some) in
    let first = first_out hs later h some c.index.ensures refl in
    let down = sym c.if-not-powered.ensures in
    let cut = kept_cut h (mean w.below) (mean t) c.requires.on hs later r first c.store-answer.ensures.means down in
    record {
      passes = oldest_kept mean g.S.MemberStore.storing h w.below t r c.store-answer.ensures.means c.store-answer.ensures.own hs later cut.0 first down cut.1;
      means = simp cut.1 (cut.2, cut.3);
      len = simp cut.1;
    }

pub returns : goal.returns
returns g c =
    let w = c.args.self.now in
    let mean = g.S.MemberStore.meaning in
    let h = c.index.result.now in
    let hs = vec_items w.held in
    let t = c.store-answer.new.self in
    let r = c.store-answer.result in
    let left = vec_items c.remove.new.self in
    let some : 0 < length hs = omega (arith, w.held.ok.0, c.requires.some) in
    let first = first_out hs left h some c.index.ensures c.remove.ensures.items in
    let up = sym c.if-not-powered.ensures in
    record {
      passes = oldest_gone mean g.S.MemberStore.storing h w.below t r c.store-answer.ensures.means c.store-answer.ensures.own hs left first up;
      means = gone_fewer h (mean w.below) (mean t) c.requires.on hs left r first h.whole c.store-answer.ensures.means up;
      len = c.remove.ensures.len;
    }
