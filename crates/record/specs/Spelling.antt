-- The bytes between two places of a block are those that are written of a number, or of a list of stripes.
use Rattle.std.specs.Prelude.{◌≡◌, ℕ, List, ◌++◌, drop}
use Rattle.std.specs.List.{flat_map}
use Rattle.leb128.specs.Encoding.{encoding}
use Rattle.record.specs.Form.{distances}

abbrev pub Spelt : List ℕ → ℕ → ℕ → ℕ → Type 0
Spelt bs at end n = drop at bs ≡ encoding n ++ drop end bs

abbrev pub SpeltAll : List ℕ → ℕ → ℕ → ℕ → List ℕ → Type 0
SpeltAll bs at end from ss = drop at bs ≡ flat_map encoding (distances from ss) ++ drop end bs
