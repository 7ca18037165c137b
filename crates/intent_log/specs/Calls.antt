-- What each call of a log does, as a relation between what it meant before (l) and means after (m).
use Rattle.std.specs.Prelude.{◌≡◌, ℕ, true, false, cond, ◌⊎◌, List, length, Some, None, Ok, Err, Option, Result}
use Rattle.std.specs.Option as options
use Rattle.std.specs.Result as results
use Rattle.member_store.specs.Meaning.{In}
use Rattle.stripe_set.specs.Named.{LeastFrom}
use Rattle.intent_log.specs.Meaning.{Meaning, Standing, MayStand, listed}
use Rattle.intent_log.specs.Refusals.{PowerWent}
use Rattle.intent_log.specs.declared.refusal.LogRefusal.{LogRefusal}
use Rattle.intent_log.specs.declared.refusal.LogRefusal.TheVariants.{Off, TooSmall, NoRecord, WrongList, Spent, DoesNotFit}

-- The checks, in their order: the first that fails is the refusal.
abbrev pub power_checks : Meaning → Option LogRefusal
power_checks l = cond l.on None (Some Off)

abbrev pub fresh_checks : Meaning → List ℕ → Option LogRefusal
fresh_checks l w =
    cond l.on (cond l.standing.stands (cond (listed w) (cond l.spent (Some Spent) None) (Some (WrongList (length w)))) (Some NoRecord)) (Some Off)

abbrev pub mark_checks : Meaning → List ℕ → Option LogRefusal
mark_checks l w =
    cond l.on
    (cond l.standing.stands
    (cond (listed w) (cond l.spent (Some Spent) (cond (l.fits w) None (Some (DoesNotFit (length w))))) (Some (WrongList (length w))))
    (Some NoRecord))
    (Some Off)

abbrev pub size_checks : Option (ℕ × ℕ) → Option LogRefusal
size_checks None = None
size_checks (Some x) = Some (TooSmall x.0 x.1)

-- Power is on, and just one thing may stand, of which P holds.
pub record ChangeDone (P : Standing → Type 0) (l m : Meaning) : Type 0 where
  pub on : m.on ≡ true
  pub same_size : m.too_small ≡ l.too_small
  pub single : (c : Standing) → MayStand m c → c ≡ m.standing
  pub holds : P m.standing

-- Power went, and P holds of all that may stand.
pub record CutShort (P : Standing → Type 0) (l m : Meaning) : Type 0 where
  pub off : m.on ≡ false
  pub same_size : m.too_small ≡ l.too_small
  pub holds : (c : Standing) → MayStand m c → P c

-- c names every stripe that d names
abbrev pub Includes : Standing → Standing → Type 0
Includes c d = (s : ℕ) → d.names s ≡ true → c.names s ≡ true

abbrev pub NamesList : Standing → List ℕ → Type 0
NamesList c w = (s : ℕ) → In s w → c.names s ≡ true

abbrev pub NamesNothing : Standing → Type 0
NamesNothing c = (s : ℕ) → c.names s ≡ false

-- The refusal e is the one that the checks c name, and nothing changed; where they name none, power went.
abbrev pub Refused : Option LogRefusal → LogRefusal → Type 0 → Type 0 → Type 0
Refused c e same went = options.MatchOption c (PowerWent e × went) (λ d. (e ≡ d) × same)

-- A question is answered with a while power is on.
abbrev pub Answers : {A : Type 0} → Meaning → A → Result A LogRefusal → Type 0
Answers l a r = r ≡ cond l.on (Ok a) (Err Off)

-- The next named stripe at or above a number, while power is on.
abbrev pub FindsNext : Meaning → ℕ → Result (Option ℕ) LogRefusal → Type 0
FindsNext l a r = results.MatchResult r (λ o. (l.on ≡ true) × LeastFrom l.standing.names a o) (λ e. (l.on ≡ false) × (e ≡ Off))

module _ {U : Type 0} where
  -- Where the checks pass, P holds of what stands then, and Q of all that may stand if power went.
  abbrev pub Changes : Option LogRefusal → (Standing → Type 0) → (Standing → Type 0) → Meaning → Result U LogRefusal → Meaning → Type 0
  Changes checks P Q l r m =
      results.MatchResult r (λ _. (checks ≡ None) × ChangeDone P l m) (λ e. Refused checks e (m ≡ l) (CutShort Q l m))

  abbrev pub Marks : List ℕ → Meaning → Result U LogRefusal → Meaning → Type 0
  Marks w l r m =
      Changes (mark_checks l w) (λ c. (c.stands ≡ true) × Includes c l.standing × NamesList c w) (λ c. (c.stands ≡ true) × Includes c l.standing) l r m

  abbrev pub Freshens : List ℕ → Meaning → Result U LogRefusal → Meaning → Type 0
  Freshens w l r m = Changes (fresh_checks l w) (λ c. (c.stands ≡ true) × NamesList c w) (λ c. c.stands ≡ true) l r m

  abbrev pub Clears : Meaning → Result U LogRefusal → Meaning → Type 0
  Clears l r m =
      Changes (power_checks l) (λ c. (c.stands ≡ true) × NamesNothing c) (λ c. l.standing.stands ≡ true → (c.stands ≡ true) × Includes l.standing c) l r m

  abbrev pub Blanks : Meaning → Result U LogRefusal → Meaning → Type 0
  Blanks l r m = Changes (power_checks l) (λ c. (c.stands ≡ false) × NamesNothing c) (λ c. (c ≡ l.standing) ⊎ ((c.stands ≡ false) × NamesNothing c)) l r m

  abbrev pub PowersOn : Meaning → Result U LogRefusal → Meaning → Type 0
  PowersOn l r m = Changes (size_checks l.too_small) (MayStand l) (MayStand l) l r m
