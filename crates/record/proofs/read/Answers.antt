use Rattle.std.proofs.Common.{◌≡◌, ℕ, ◌+◌, ◌≤◌, List, length, take, Some, None, sym, ap, ◌∙◌, arith}
use Rattle.std.proofs.lemmas.List.{take_rest, length-take-le}
use Rattle.stripe_set.specs.Stripes.{stripes}
use Rattle.record.specs.Form.{block}
use Rattle.zero_bytes.specs.Zeros.{zeros}
use Rattle.record.proofs.Steps.{some≢none, some_same, number_is, shut, no_version, no_count, refused, no_stripes, not_zero, all_read, read_rising, set_holds, allowed_count}
use Rattle.record.proofs.RoundTrip.{rewritten}
use Rattle.record.proofs.read.Goals as goal

pub returns-then-not-is_opened : goal.returns-then-not-is_opened
returns-then-not-is_opened c =
    let bs = c.args.bytes.now in
    record { value = sym (shut bs (sym c.is_opened.ensures ∙ c.if-not-is_opened.true)); only_form = tt }

pub returns-in_err-version-clause-value : goal.returns-in_err-version-clause-value
returns-in_err-version-clause-value c =
    let bs = c.args.bytes.now in
    rw c.from_residual.ensures (sym (no_version bs (sym c.is_opened.ensures ∙ c.if-not-is_opened.false) c.in_err-version.ensures.value))

pub returns-in_err-count-clause-value : goal.returns-in_err-count-clause-value
returns-in_err-count-clause-value c =
    let bs = c.args.bytes.now in
    let v = c.in_ok-version.version in
    rw c.from_residual-in_err-count.ensures (sym (no_count bs (sym c.is_opened.ensures ∙ c.if-not-is_opened.false) v (number_is bs 4 v c.in_ok-version.ensures.value) c.in_err-count.ensures.value))

pub returns-then-not-is_allowed-clause-value : goal.returns-then-not-is_allowed-clause-value
returns-then-not-is_allowed-clause-value c =
    let bs = c.args.bytes.now in
    let v = c.in_ok-version.version in
    let n = c.in_ok-count.count in
    sym (refused bs (sym c.is_opened.ensures ∙ c.if-not-is_opened.false) v (number_is bs 4 v c.in_ok-version.ensures.value) n (number_is bs (4 + v.taken) n c.in_ok-count.ensures.value) (sym c.is_allowed.ensures ∙ c.if-not-is_allowed.true))

pub returns-in_err-end-clause-value : goal.returns-in_err-end-clause-value
returns-in_err-end-clause-value c =
    let bs = c.args.bytes.now in
    let v = c.in_ok-version.version in
    let n = c.in_ok-count.count in
    rw c.from_residual-in_err-end.ensures
    (sym (no_stripes bs (sym c.is_opened.ensures ∙ c.if-not-is_opened.false) v (number_is bs 4 v c.in_ok-version.ensures.value) n (number_is bs (4 + v.taken) n c.in_ok-count.ensures.value) (sym c.is_allowed.ensures ∙ c.if-not-is_allowed.false) c.in_err-end.ensures.value))

pub returns-then-not-all_zero-clause-value : goal.returns-then-not-all_zero-clause-value
returns-then-not-all_zero-clause-value c =
    let bs = c.args.bytes.now in
    let v = c.in_ok-version.version in
    let n = c.in_ok-count.count in
    sym (not_zero bs (sym c.is_opened.ensures ∙ c.if-not-is_opened.false) v (number_is bs 4 v c.in_ok-version.ensures.value) n (number_is bs (4 + v.taken) n c.in_ok-count.ensures.value) (sym c.is_allowed.ensures ∙ c.if-not-is_allowed.false) (take n.value c.read_stripes.new.out) c.in_ok-end.end c.in_ok-end.ensures.value (ap zeros (sym (take_rest bs c.in_ok-end.end)) ∙ sym c.all_zero.ensures ∙ c.if-not-all_zero.true))

pub returns-in_err-stripes-clause-value : goal.returns-in_err-stripes-clause-value
returns-in_err-stripes-clause-value c =
    let bs = c.args.bytes.now in
    let n : ℕ = c.in_ok-count.count.value in
    let few : n ≤ 64 = allowed_count c.in_ok-version.version.value n (sym c.is_allowed.ensures ∙ c.if-not-is_allowed.false) in
    absurd (some≢none (sym (set_holds None c.read_stripes.new.out n c.in_err-stripes.ensures few c.read_stripes.auto.out (read_rising n 0 0 bs _ _ c.in_ok-end.ensures.value))))

pub returns : goal.returns
returns c =
    let bs = c.args.bytes.now in
    let v = c.in_ok-version.version in
    let count = c.in_ok-count.count in
    let n : ℕ = c.in_ok-count.count.value in
    let items = c.read_stripes.new.out in
    let few : n ≤ 64 = allowed_count c.in_ok-version.version.value n (sym c.is_allowed.ensures ∙ c.if-not-is_allowed.false) in
    let open' = sym c.is_opened.ensures ∙ c.if-not-is_opened.false in
    let zero' = ap zeros (sym (take_rest bs c.in_ok-end.end)) ∙ sym c.all_zero.ensures ∙ c.if-not-all_zero.false in
    let all = all_read bs open' v (number_is bs 4 v c.in_ok-version.ensures.value) count (number_is bs (4 + v.taken) count c.in_ok-count.ensures.value) (sym c.is_allowed.ensures ∙ c.if-not-is_allowed.false) (take n items) c.in_ok-end.end c.in_ok-end.ensures.value zero' in
    let held : stripes c.in_ok-stripes.stripes ≡ take n items = some_same (set_holds (Some (stripes c.in_ok-stripes.stripes)) items n c.in_ok-stripes.ensures few c.read_stripes.auto.out (read_rising n 0 0 bs _ _ c.in_ok-end.ensures.value)) in
    let wide : length items ≡ 64 = c.read_stripes.auto.out in
    let size : n ≡ length (take n items) = sym (length-take-le n items (omega arith)) in
    record {
      value = ap (λ (ss : List ℕ). Some (record { version = v.value; stripes = ss })) held ∙ sym all;
      only_form = rewritten bs v.value (4 + v.taken) n (4 + v.taken + count.taken) c.in_ok-end.end (take n items) c.requires open' c.in_ok-version.ensures.spelt c.in_ok-count.ensures.spelt size c.in_ok-end.ensures.spelt zero' ∙ ap (λ (ss : List ℕ). block (record { version = v.value; stripes = ss })) (sym held);
    }
