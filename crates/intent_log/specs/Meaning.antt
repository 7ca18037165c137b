-- What a log means: whether power is on, what stands, what may stand after a cut, whether it is spent, and which
-- lists fit.
use Rattle.std.specs.Prelude.{◌≡◌, ℕ, Bool, ◌&&◌, ◌⊎◌, List, length, Option, nat_le, nat_lt}
use Rattle.member_store.specs.Meaning.{In}
use Rattle.stripe_set.specs.Rising.{rising}

-- What stands: a record with the stripes that it names, or none.
pub record Standing : Type 0 where
  pub stands : Bool
  pub names : ℕ → Bool

pub record Meaning : Type 0 where
  pub on : Bool
  -- what stands while power is on
  pub standing : Standing
  -- what else may stand after a cut
  pub others : List Standing
  pub spent : Bool
  pub fits : List ℕ → Bool
  -- the counts of a store on which power-on is refused
  pub too_small : Option (ℕ × ℕ)

-- c may stand after a cut
abbrev pub MayStand : Meaning → Standing → Type 0
MayStand l c = (c ≡ l.standing) ⊎ In c l.others

-- a list: 1 to 32 rising stripe numbers
abbrev pub listed : List ℕ → Bool
listed w = nat_lt 0 (length w) && (nat_le (length w) 32 && rising 0 w)
