use Rattle.std.proofs.Common.{◌≡◌, ℕ, ◌-◌, length, take, drop, ap, ◌∙◌, subst, arith}
use Rattle.std.proofs.lemmas.List.{take_rest}
use Rattle.zero_bytes.specs.Zeros.{zeros}
use Rattle.flag_log.specs.Blocks.{by_parts}
use Rattle.flag_log.proofs.record_in.Goals as goal

pub returns : goal.returns
returns c =
    let bs = c.args.bytes.now in
    let long : length bs ≡ 512 = omega arith in
    let rest : take 511 (drop 1 bs) ≡ drop 1 bs = subst (λ (n : ℕ). take (n - 1) (drop 1 bs) ≡ drop 1 bs) long (take_rest bs 1) in
    c.record_of.ensures ∙ by_parts bs c.all_zero.result (c.all_zero.ensures ∙ ap zeros rest)
