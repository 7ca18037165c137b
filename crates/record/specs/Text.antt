-- What a record says to a user: its version and its stripes, as 'version 2 stripes 3 5 300'.
use Rattle.std.specs.Prelude.{ℕ, List, ◌++◌, codes, decimal}
use Rattle.std.specs.List.{flat_map}
use Rattle.record.specs.Contents.{Contents}

-- each after a space
abbrev pub stripes_text : List ℕ → List ℕ
stripes_text ss = flat_map (λ s. codes " " ++ decimal s) ss

abbrev pub record_text : Contents → List ℕ
record_text r = codes "version " ++ (decimal r.version ++ (codes " stripes" ++ stripes_text r.stripes))
