use Rattle.std.proofs.Common.{◌≡◌, ℕ, ◌-◌, ◌≤◌, List, ◌++◌, length, take}
use Rattle.record.specs.Reading.{stripes_from}
use Rattle.record.specs.Spelling.{SpeltAll}
use Rattle.record.proofs.Stripes.{front}
use Rattle.record.proofs.read_stripes.Given as goal

-- what is left to read gives what is promised
abbrev pub invariant-loop-place : goal.invariant-loop-place
invariant-loop-place l =
    (l.pos ≤ length l.bytes)
    × (length l.place-items ≡ l.n)
    × (stripes_from l.n 0 0 l.bytes l.at ≡ front (take l.place-index l.place-items) (stripes_from (l.n - l.place-index) l.least l.from l.bytes l.pos))
    × ((ss : List ℕ) (end : ℕ) → SpeltAll l.bytes l.pos end l.from ss → SpeltAll l.bytes l.at end 0 (take l.place-index l.place-items ++ ss))
