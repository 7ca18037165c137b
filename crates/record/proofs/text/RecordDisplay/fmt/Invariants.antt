use Rattle.std.proofs.Common.{◌≡◌, ℕ, List, ◌++◌, drop}
use Rattle.std.specs.Fmt.{HasWritten, IsPlainFormatter}
use Rattle.record.specs.Text.{stripes_text}
use Rattle.record.proofs.text.RecordDisplay.fmt.Given as goal

-- what is written of the stripes, and what is left of them
abbrev pub invariant-loop-stripe : goal.invariant-loop-stripe
invariant-loop-stripe g l =
    IsPlainFormatter l.initial.f → (done : List ℕ) × HasWritten g.W.Write.write_str_gives l.initial.f done l.f × (done ++ stripes_text (drop l.stripe-index l.stripe-items) ≡ stripes_text l.stripe-items)
