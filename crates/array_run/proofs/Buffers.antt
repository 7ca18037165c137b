-- What a buffer holds after a read into it, and how many tokens there are where a last one was found. Assumes nothing.
use Rattle.std.proofs.Common.{◌≡◌, ℕ, ◌≤◌, List, ◌++◌, length, take, ◌∙◌, arith, take_all}
use lib.Seq.{take-append-le}

-- a buffer of n bytes that was filled whole
pub filled : (n : ℕ) (new rest : List ℕ) → length new ≡ n → take n (new ++ rest) ≡ new
filled n new rest e =
    let le : n ≤ length new = omega arith in
    let ge : length new ≤ n = omega arith in
    take-append-le n new rest le ∙ take_all n new ge
