use Rattle.std.proofs.Common.{◌≡◌, ◌+◌, ◌<◌, true, length, get_or, Some, None, vec_items, refl, rules}
use Rattle.write_buffer.specs.Replay.{is_to}
use Rattle.write_buffer.specs.Buffer.{Newest}
use Rattle.write_buffer.specs.declared.held.HeldStore.{HeldStore}
use Rattle.write_buffer.proofs.Newest.{ElsewhereFrom, none_held, newest_at}
use Rattle.write_buffer.proofs.buffer.WriteBuffer.newest.Goals as goal

pub returns : goal.returns
returns g c =
    let hs = vec_items c.args.self.now.held in
    let m = c.args.at.member in
    let b = c.args.at.block in
    elim c.rposition.result as (λ r. c.rposition.result ≡ r → Newest hs m b r) [
      | None ↦ λ e. let none : ElsewhereFrom m b 0 hs = search rules in none_held m b hs none
      | Some i ↦ λ e.
          let within : i < length hs = search rules in
          let hit : (d : HeldStore) → is_to (get_or hs i d) m b ≡ true = search rules in
          let later : ElsewhereFrom m b (i + 1) hs = search rules in
          newest_at m b hs i within hit later
    ] refl
