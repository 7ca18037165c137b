-- The checks that every log makes first, in their order: the first that fails is the refusal.
use Rattle.std.specs.Prelude.{◌≡◌, ℕ, Bool, true, false, cond, List, length, Some, None, Option, Result}
use Rattle.std.specs.Result as results
use Rattle.intent_log.specs.Meaning.{listed}
use Rattle.intent_log.specs.declared.refusal.LogRefusal.{LogRefusal}
use Rattle.intent_log.specs.declared.refusal.LogRefusal.TheVariants.{Off, NoRecord, WrongList}

-- of a list, by whether power is on and a record stands
abbrev pub list_checks : Bool → Bool → List ℕ → Option LogRefusal
list_checks on stands w = cond on (cond stands (cond (listed w) None (Some (WrongList (length w)))) (Some NoRecord)) (Some Off)

module _ {U : Type 0} where
  -- what the check of power answers
  abbrev pub Powered : Bool → Result U LogRefusal → Type 0
  Powered on r = results.MatchResult r (λ _. on ≡ true) (λ e. (on ≡ false) × (e ≡ Off))

  -- what the checks of a list answer
  abbrev pub TakesList : Bool → Bool → List ℕ → Result U LogRefusal → Type 0
  TakesList on stands w r = results.MatchResult r (λ _. (on ≡ true) × (stands ≡ true) × (listed w ≡ true)) (λ e. list_checks on stands w ≡ Some e)
