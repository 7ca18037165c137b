use Rattle.std.proofs.Common.{◌≡◌, ℕ, ◌+◌, ◌*◌, ◌%◌, ◌^◌, ◌<◌, ◌≤◌, cond, ltb, get_or, Ok, Err, Result, sym, ap, ◌∙◌, ⊎_elim, rules, arith, below_more}
use lib.Bits.{and_mask}
use Rattle.std.proofs.lemmas.Bool.Decides.{nat_tests}
use Rattle.leb128.specs.declared.decoded.DecodeError.{DecodeError}
use Rattle.leb128.specs.declared.decoded.DecodeError.TheVariants.{Overflow}
use Rattle.leb128.specs.Decoding.{number, decoding}
use Rattle.leb128.proofs.Groups.{top_bit, low_byte}
use Rattle.leb128.proofs.Reading.{placed, placed_lt, turn_more, turn_last, kept, too_large, too_long, sixth, ended}
use Rattle.leb128.proofs.Trips.{back}
use Rattle.leb128.proofs.decode.Goals as goal

abbrev limit : ℕ → Result ℕ DecodeError
limit n = cond (ltb n 4294967296) (Ok n) (Err Overflow)

above_limit : (n : ℕ) (e : DecodeError) → Err e ≡ limit n → (e ≡ Overflow) × (4294967296 ≤ n)
above_limit n e h = grind (arith, nat_tests)

below_limit_ok : (n v : ℕ) → Ok v ≡ limit n → (v ≡ n) × (n < 4294967296)
below_limit_ok n v h = grind (arith, nat_tests)

pub returns-then-group-eq0-clause-value : goal.returns-then-group-eq0-clause-value
returns-then-group-eq0-clause-value c =
    let b = get_or c.args.bytes.now c.loop-i.i 0 in
    too_long c.loop-i.i (b % 128) _ c.if-i-gt0.true (omega (arith, and_mask b 7))
    ∙ sym (turn_last c.args.bytes.now c.loop-i.i c.loop-i.n (omega arith) c.loop-i-test.true (low_byte b (omega arith) c.if-b-eq0.true) c.loop-i.invariant.3)

pub returns-in_err-value-clause-value : goal.returns-in_err-value-clause-value
returns-in_err-value-clause-value c =
    let b = get_or c.args.bytes.now c.loop-i.i 0 in
    let p = placed c.loop-i.n b c.loop-i.i c.loop-i.shift c.loop-i.invariant.1 (omega arith) c.loop-i.invariant.2 in
    let m = and_mask b 7 in
    let q = above_limit _ _ c.in_err-value.ensures in
    let r : c.from_residual.result ≡ Err c.in_err-value.field-0.0 = search rules in
    r ∙ ap Err q.0
    ∙ too_large c.loop-i.i (b % 128) _ (omega (arith, p)) (λ h z. ⊎_elim (λ w. w.1 (omega arith)) (λ w. omega arith) c.else-i-gt0.either)
    ∙ sym (turn_last c.args.bytes.now c.loop-i.i c.loop-i.n (omega arith) c.loop-i-test.true (low_byte b (omega arith) c.if-b-eq0.true) c.loop-i.invariant.3)

pub returns-then-b-eq0 : goal.returns-then-b-eq0
returns-then-b-eq0 c =
    let bs = c.args.bytes.now in
    let i : ℕ = c.loop-i.i in
    let b = get_or c.args.bytes.now c.loop-i.i 0 in
    let p = placed c.loop-i.n b c.loop-i.i c.loop-i.shift c.loop-i.invariant.1 (omega arith) c.loop-i.invariant.2 in
    let m = and_mask b 7 in
    let n : ℕ = c.loop-i.n + 2 ^ (7 * i) * (b % 128) in
    let here : get_or c.args.bytes.now c.loop-i.i 0 < 256 = omega arith in
    let q = below_limit_ok _ _ c.in_ok-value.ensures in
    let e : Ok (number n (i + 1)) ≡ decoding c.args.bytes.now =
    kept c.loop-i.i (b % 128) n (omega (arith, p)) (λ h z. ⊎_elim (λ w. w.1 (omega arith)) (λ w. omega arith) c.else-i-gt0.either)
    ∙ sym (turn_last c.args.bytes.now c.loop-i.i c.loop-i.n (omega arith) c.loop-i-test.true (low_byte b (omega arith) c.if-b-eq0.true) c.loop-i.invariant.3) in
    record {
      value = rw (q.0, p) e;
      inside = omega arith;
      shortest = rw (q.0, p) (back bs (number n (i + 1)) (below_more _ i c.loop-i.invariant.4 here) (sym e));
    }

pub returns-then-i-eq-LAST-clause-value : goal.returns-then-i-eq-LAST-clause-value
returns-then-i-eq-LAST-clause-value c =
    let b = get_or c.args.bytes.now c.loop-i.i 0 in
    sixth c.args.bytes.now c.loop-i.i c.loop-i.n c.if-i-eq-LAST.true c.loop-i-test.true (omega (arith, top_bit b)) (omega arith) c.loop-i.invariant.3

pub loop-i-preserved : goal.loop-i-preserved
loop-i-preserved c =
    let b = get_or c.args.bytes.now c.loop-i.i 0 in
    let here : get_or c.args.bytes.now c.loop-i.i 0 < 256 = omega arith in
    let p = placed c.loop-i.n b c.loop-i.i c.loop-i.shift c.loop-i.invariant.1 (omega arith) c.loop-i.invariant.2 in (
      omega arith,
      omega arith,
      rw p (placed_lt c.loop-i.n (b % 128) c.loop-i.i c.loop-i.invariant.2 (omega arith)),
      rw p (turn_more c.args.bytes.now c.loop-i.i c.loop-i.n (omega arith) c.loop-i-test.true (omega (arith, top_bit b)) (omega arith) c.loop-i.invariant.3),
      below_more _ c.loop-i.i c.loop-i.invariant.4 here,
    )

pub returns-clause-value : goal.returns-clause-value
returns-clause-value c = ended c.args.bytes.now c.loop-i.i c.loop-i.n c.loop-i.invariant.0 c.loop-i-test.false c.loop-i.invariant.3
