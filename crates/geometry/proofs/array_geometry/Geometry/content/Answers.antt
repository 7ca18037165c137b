use Rattle.std.proofs.Common.{sym, ◌∙◌, arith}
use Rattle.geometry.specs.Counts.{members_of, blocks_of}
use Rattle.geometry.proofs.Numbers.{contents}
use Rattle.geometry.proofs.array_geometry.Geometry.content.Goals as goal

pub returns-in-Some-clause-undone : goal.returns-in-Some-clause-undone
returns-in-Some-clause-undone g c =
    let m = members_of c.args.self.now.shape in
    let lawful = g.met.L.Layout.lawful m c.args.at.block (omega arith) (omega arith) in
    (contents m (blocks_of c.args.self.now.shape) (omega arith) g.L.Layout.arrangement c.args.at c.positions.result c.in-Some.position lawful c.positions.ensures (omega arith) (omega arith) (sym c.position_on.ensures ∙ c.in-Some.is)).2
