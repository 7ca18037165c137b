use Rattle.std.proofs.Common.{sym, arith}
use lib.Seq.{set_out}
use Rattle.sheet_book.proofs.set_base.Goals as goal

pub returns-else-block-bases : goal.returns-else-block-bases
returns-else-block-bases c = sym (set_out c.args.bases.now c.args.block c.args.bytes (omega arith))
