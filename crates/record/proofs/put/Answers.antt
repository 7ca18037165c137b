use Rattle.std.proofs.Common.{◌≡◌, ◌+◌, length, ap, ◌∙◌, arith}
use Rattle.leb128.specs.Encoding.{encoding}
use Rattle.leb128.proofs.Groups.{length_groups, length_positive}
use Rattle.record.proofs.Writing.{copied}
use Rattle.record.proofs.put.Goals as goal

pub returns : goal.returns
returns c =
    let e : c.as_slice-digits.result.now ≡ encoding c.args.n = c.as_slice-digits.ensures ∙ c.encode-number.ensures.bytes in
    let k : length c.as_slice-digits.result.now ≡ length (encoding c.args.n) = ap length e in
    let p = length_positive 4 c.args.n in
    let q = length_groups 4 c.args.n in
    record {
      end = omega arith;
      room = (omega arith, omega arith);
      bytes = copied c.args.buf.now (encoding c.args.n) c.copy_from_slice.new.self c.args.at (c.args.at + length c.as_slice-digits.result.now) (c.copy_from_slice.ensures.after ∙ e) (omega arith) (omega arith);
    }
