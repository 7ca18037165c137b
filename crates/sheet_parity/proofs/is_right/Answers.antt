use Rattle.std.proofs.Common.{rules}
use Rattle.memory_store.specs.Memory.{memory_means}
use Rattle.sheet_parity.proofs.Blocks.{copied}
use Rattle.sheet_parity.proofs.is_right.Goals as goal

pub returns : goal.returns
returns c =
    let found = c.in-Some-Some-Some-Some in
    copied (memory_means c.args.memory.now) c.args.stripe found.a found.b found.c found.d c.cancel_out.result (search rules) (search rules) (search rules) (search rules) (search rules) c.cancel_out.ensures
