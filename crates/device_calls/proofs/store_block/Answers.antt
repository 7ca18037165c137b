use Rattle.std.proofs.Common.{◌≡◌, length, arith}
use Rattle.device_calls.proofs.Single.{store_answers}
use Rattle.device_calls.proofs.store_block.Goals as goal

pub returns : goal.returns
returns g c =
    let s = g.S.MemberStore.meaning c.args.store.now in
    let t = g.S.MemberStore.meaning c.store.new.self in
    let long : length c.args.bytes.now ≡ 512 = omega arith in
    store_answers c.args.at.member c.args.at.block c.args.bytes.now s t c.store.result long c.store.ensures.means
