use Rattle.std.proofs.Common.{◌≡◌, rules}
use Rattle.write_buffer.proofs.Passed.{held_last}
use Rattle.write_buffer.proofs.buffer.WriteBuffer.hold.Goals as goal

pub returns-clause-stored : goal.returns-clause-stored
returns-clause-stored g c =
    let copied : c.unwrap-bytes.result ≡ c.args.bytes.now = search rules in
    held_last _ _ _ c.args.bytes.now _ c.requires.on c.push_reserved.ensures.items copied
