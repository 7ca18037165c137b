-- What a fuse over a store means, and what it says of its own calls: a valid store or barrier uses up one of the
-- setting, or, where none is left, loses power and is not passed below; all else is what the store below does.
-- A fuse is spoken of by its parts: what is left of the setting, whether it has blown, and the store below.
use Rattle.std.specs.Prelude.{◌≡◌, ℕ, ◌-◌, Bool, true, false, cond, Some, None, Err, MatchBool, Option, Result, ◌==◌}
use Rattle.std.specs.Option as options
use Rattle.member_store.specs.Meaning.{Meaning}
use Rattle.member_store.specs.declared.refusal.Refusal.{Refusal}

-- The store below, without power where the fuse has blown.
abbrev pub fused : Bool → Meaning → Meaning
fused blown s = record {
  on = cond blown false s.on;
  members = s.members;
  blocks = s.blocks;
  versions = s.versions;
}

-- Does the next valid store or barrier lose power?
abbrev pub blows : Option ℕ → Bool
blows None = false
blows (Some n) = n == 0

-- What is left of the setting when a valid store or barrier has acted.
abbrev pub less : Option ℕ → Option ℕ
less None = None
less (Some n) = Some (n - 1)

-- One of the setting is used up, and the call acted below as Q says.
pub record Acted (left : Option ℕ) (blown : Bool) (left' : Option ℕ) (blown' : Bool) (Q : Type 0) : Type 0 where
  pub left_less : left' ≡ less left
  pub blown_same : blown' ≡ blown
  pub acts : Q

module _ {S : Type 0} where
  -- Nothing changed.
  pub record Kept (left : Option ℕ) (blown : Bool) (below : S) (left' : Option ℕ) (blown' : Bool) (below' : S) : Type 0 where
    pub left_same : left' ≡ left
    pub blown_same : blown' ≡ blown
    pub below_same : below' ≡ below

  -- The fuse has blown, and the store below is as it was.
  pub record Blown (left : Option ℕ) (below : S) (left' : Option ℕ) (blown' : Bool) (below' : S) : Type 0 where
    pub left_same : left' ≡ left
    pub has_blown : blown' ≡ true
    pub below_same : below' ≡ below

  -- A store or barrier, by what its checks c say: refused, blowing with the refusal off, or acting below as Q says.
  abbrev pub Counts : Option Refusal → Refusal → Result (Unit {0}) Refusal → Type 0 → Option ℕ → Bool → S → Option ℕ → Bool → S → Type 0
  Counts c off r Q left blown below left' blown' below' =
      options.MatchOption c
      (MatchBool (blows left)
      ((r ≡ Err off) × Blown left below left' blown' below')
      (Acted left blown left' blown' Q))
      (λ e. (r ≡ Err e) × Kept left blown below left' blown' below')

  -- A call that does not count: with the fuse blown refused, and else what the store below does, as Q says.
  abbrev pub Passes : Refusal → Result (Unit {0}) Refusal → Type 0 → Option ℕ → Bool → S → Option ℕ → Bool → S → Type 0
  Passes off r Q left blown below left' blown' below' =
      MatchBool blown ((r ≡ Err off) × Kept left blown below left' blown' below') ((left' ≡ left) × (blown' ≡ blown) × Q)
