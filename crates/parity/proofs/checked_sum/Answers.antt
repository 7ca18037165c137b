use Rattle.std.proofs.Common.{sym, ap, ◌∙◌}
use Rattle.parity.specs.Xor.{parity_of}
use Rattle.parity.proofs.Others.{any_block}
use Rattle.parity.proofs.checked_sum.Goals as goal

pub returns-clause-regains : goal.returns-clause-regains
returns-clause-regains c = λ blocks p i w h e k same. c.sum_into.ensures ∙ ap parity_of same ∙ sym (any_block blocks p i w h e k)
