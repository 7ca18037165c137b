use Rattle.memory_store.specs.Rooms.{tells_fits}
use Rattle.memory_store.proofs.fits.Goals as goal

pub returns-then-blocks-gt0 : goal.returns-then-blocks-gt0
returns-then-blocks-gt0 c = tells_fits c.args.members c.args.blocks c.args.len c.if-blocks-gt0.true.0 c.if-blocks-gt0.true.1
