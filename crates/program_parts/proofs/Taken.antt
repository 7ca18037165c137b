-- What a source gives up to a limit, where that is fewer bytes.
use Rattle.std.proofs.Common.{◌≡◌, ℕ, ◌+◌, ◌≤◌, List, [], ◌++◌, length, take, ap, ◌∙◌, arith}
use Rattle.std.specs.Prelude.{Option, None, Some, IfSome}
use Rattle.std.specs.Option.{option_map}
use Rattle.std.proofs.lemmas.List.{take_all, length-take}

pub whole : (source : Option (List ℕ)) (limit n : ℕ) (before taken : List ℕ) → limit ≡ n + 1 → before ≡ [] → IfSome (option_map (take limit) source) (λ ys. taken ≡ before ++ ys) → length taken ≤ n → IfSome source (λ all. taken ≡ all)
whole None limit n before taken at empty gives few = tt
whole (Some all) limit n before taken at empty gives few =
    let is_part : taken ≡ take limit all = gives ∙ ap (λ xs. xs ++ take limit all) empty in
    let fewer : length all ≤ limit = omega (arith, at, few, ap length is_part, length-take limit all) in
    is_part ∙ take_all limit all fewer
