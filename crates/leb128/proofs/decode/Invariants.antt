use Rattle.std.proofs.Common.{◌≡◌, ◌-◌, ◌*◌, ◌^◌, ◌<◌, ◌≤◌, drop}
use Rattle.leb128.specs.Decoding.{ungrouped}
use Rattle.leb128.proofs.Reading.{lifted}
use Rattle.leb128.proofs.Trips.{Bytes}
use Rattle.leb128.proofs.decode.Given as goal

-- what is left of the bytes gives what is promised
abbrev pub invariant-loop-i : goal.invariant-loop-i
invariant-loop-i l =
    (l.i ≤ 4) × (l.shift ≡ 7 * l.i) × (l.n < 2 ^ (7 * l.i))
    × (ungrouped 5 l.bytes ≡ lifted l.i l.n (ungrouped (5 - l.i) (drop l.i l.bytes)))
    × Bytes l.bytes l.i
