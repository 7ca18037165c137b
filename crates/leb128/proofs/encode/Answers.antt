use Rattle.std.proofs.Common.{◌≡◌, ℕ, List, length, replicate, sym, refl, ap, ◌∙◌, subst, arith, length-set}
use Rattle.leb128.specs.Encoding.{encoding}
use Rattle.leb128.specs.RoundTrip.{ReadBack}
use Rattle.leb128.proofs.Groups.{length_groups, length_positive, encoding_long, groups_short, put_more, all_put}
use Rattle.leb128.proofs.Trips.{there}
use Rattle.leb128.proofs.encode.Goals as goal

pub bounds-bytes-i : goal.bounds-bytes-i
bounds-bytes-i c = omega (arith, length_groups 4 c.args.n, length_positive 4 c.loop-rest.rest)

pub overflow_add-i : goal.overflow_add-i
overflow_add-i c = record { fits = omega (arith, length_groups 4 c.args.n, length_positive 4 c.loop-rest.rest) }

pub loop-rest-preserved : goal.loop-rest-preserved
loop-rest-preserved c = (
  omega arith,
  omega (arith, ap length (encoding_long c.loop-rest.rest (omega arith) (omega arith))),
  length-set c.loop-rest.bytes c.loop-rest.i _ ∙ c.loop-rest.invariant.2,
  put_more c.loop-rest.bytes c.loop-rest.i c.loop-rest.rest (omega arith) (omega arith) ∙ c.loop-rest.invariant.3,
)

pub bounds-bytes-i-2 : goal.bounds-bytes-i-2
bounds-bytes-i-2 c = omega (arith, length_groups 4 c.args.n, length_positive 4 c.loop-rest.rest)

pub overflow_add-result : goal.overflow_add-result
overflow_add-result c = record { fits = omega (arith, length_groups 4 c.args.n, length_positive 4 c.loop-rest.rest) }

pub invariant_of-result : goal.invariant_of-result
invariant_of-result c =
    let one : length (encoding c.loop-rest.rest) ≡ 1 = ap length (groups_short 4 c.loop-rest.rest c.loop-rest-test.false) in
    record { whole = length-set c.loop-rest.bytes c.loop-rest.i c.loop-rest.rest ∙ c.loop-rest.invariant.2; least = omega arith; most = omega (arith, length_groups 4 c.args.n) }

pub returns : goal.returns
returns c =
    let e = all_put (replicate 5 0) c.loop-rest.bytes c.loop-rest.i c.args.n c.loop-rest.rest refl c.loop-rest-test.false c.loop-rest.invariant.1 c.loop-rest.invariant.3 in
    let P : List ℕ → Type 0 = λ bs. ReadBack c.args.n bs in
    record { bytes = e; reads_back = subst P (sym e) (there c.args.n (omega arith)) }
