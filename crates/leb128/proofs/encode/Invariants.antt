use Rattle.std.proofs.Common.{◌≡◌, ◌+◌, ◌<◌, length}
use lib.Seq.{sets}
use Rattle.leb128.specs.Encoding.{encoding}
use Rattle.leb128.proofs.encode.Given as goal

-- what is left of the number, written from here on, gives what is promised
abbrev pub invariant-loop-rest : goal.invariant-loop-rest
invariant-loop-rest l =
    (l.rest < 4294967296)
    × (l.i + length (encoding l.rest) ≡ length (encoding l.n))
    × (length l.bytes ≡ 5)
    × (sets l.bytes l.i (encoding l.rest) ≡ sets l.initial.bytes 0 (encoding l.n))

abbrev pub decreases-loop-rest : goal.decreases-loop-rest
decreases-loop-rest l = l.rest
