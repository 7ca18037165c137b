-- The form of a record: the four opening bytes, then version, count, first stripe and distances as numbers in
-- groups of seven bits, then zeros to the end of the block.
use Rattle.std.specs.Prelude.{ℕ, ◌-◌, List, [], ◌∷◌, ◌++◌, length, replicate}
use Rattle.std.specs.List.{flat_map}
use Rattle.leb128.specs.Encoding.{encoding}
use Rattle.record.specs.Contents.{Contents}

abbrev pub opening : List ℕ
opening = 0x49 ∷ 0x4C ∷ 0x30 ∷ 0x31 ∷ []

-- the distance of each stripe from the one before, the first from `from`
abbrev pub distances : ℕ → List ℕ → List ℕ
distances from [] = []
distances from (s ∷ ss) = (s - from) ∷ distances s ss

unfoldable pub body : ℕ → List ℕ → List ℕ
body v ss = opening ++ (encoding v ++ (encoding (length ss) ++ flat_map encoding (distances 0 ss)))

abbrev pub filled : List ℕ → List ℕ
filled bs = bs ++ replicate (512 - length bs) 0

abbrev pub block : Contents → List ℕ
block r = filled (body r.version r.stripes)
