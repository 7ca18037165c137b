use Rattle.std.proofs.Common.{◌≡◌, ◌+◌, ◌≤◌, length, arith, ap, ◌∙◌, subst}
use Rattle.std.specs.Prelude.{IfSome}
use Rattle.program_parts.proofs.Taken.{whole}
use Rattle.program_parts.proofs.input.read_input.Goals as goal

pub returns-clause-all : goal.returns-clause-all
returns-clause-all g c =
    let buf = c.read_to_end.new.buf in
    let few : length buf.items ≤ c.args.most = omega (arith, buf.ok.0, c.len.ensures, c.if-len-most.false) in
    let at : c.take-source.result.limit ≡ c.args.most + 1 = omega (arith, c.take-source.ensures.limit, c.from.ensures) in
    subst (λ s. IfSome (g.R.Read.remaining s) (λ all. buf.items ≡ all)) c.take-source.ensures.inner (whole (g.R.Read.remaining c.take-source.result.inner) _ c.args.most _ _ at c.new-bytes.ensures.items (c.in_ok-read_to_end.ensures.bytes) few)
