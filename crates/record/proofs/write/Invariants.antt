use Rattle.std.proofs.Common.{◌≡◌, ◌+◌, ◌*◌, ◌≤◌, true, length, drop, replicate}
use lib.Seq.{sets}
use Rattle.std.specs.List.{flat_map}
use Rattle.leb128.specs.Encoding.{encoding}
use Rattle.stripe_set.specs.Rising.{rising}
use Rattle.record.specs.Form.{distances, body}
use Rattle.record.proofs.write.Given as goal

-- what is left of the stripes, written from here on, gives what is promised
abbrev pub invariant-loop-s : goal.invariant-loop-s
invariant-loop-s l =
    (length l.buf ≡ 512)
    × (l.at ≤ 14 + 5 * l.s-index)
    × (rising l.before (drop l.s-index l.stripes) ≡ true)
    × (sets l.buf l.at (flat_map encoding (distances l.before (drop l.s-index l.stripes))) ≡ sets (replicate 512 0) 0 (body l.version l.stripes))
