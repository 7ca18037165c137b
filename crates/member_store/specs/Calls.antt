-- What each call of a member store does, as a relation between what it meant before (s) and means after (t).
use Rattle.std.specs.Prelude.{◌≡◌, ℕ, Bool, true, false, cond, ◌⊎◌, List, length, Some, None, Option, Result, ◌==◌, nat_lt}
use Rattle.std.specs.Option as options
use Rattle.std.specs.Result as results
use Rattle.member_store.specs.Meaning.{Meaning, current, Version, HasBlock}
use Rattle.member_store.specs.Refusals.{IsPowerOff, off_at, off_at_barrier}
use Rattle.member_store.specs.declared.refusal.Refusal.{Refusal}
use Rattle.member_store.specs.declared.refusal.Refusal.TheVariants.{NoMember, NoBlock, WrongLength}

-- The checks of a read or a store of n bytes, in their order: the first that fails is the refusal.
abbrev pub checked : Bool → ℕ → ℕ → ℕ → ℕ → ℕ → Option Refusal
checked on members blocks m b n =
    cond on
    (cond (nat_lt m members)
    (cond (nat_lt b blocks) (cond (n == 512) None (Some (WrongLength n))) (Some (NoBlock b)))
    (Some (NoMember m)))
    (Some (off_at m b))

abbrev pub checks : Meaning → ℕ → ℕ → ℕ → Option Refusal
checks s m b n = checked s.on s.members s.blocks m b n

-- The check of a barrier.
abbrev pub barrier_checks : Meaning → Option Refusal
barrier_checks s = cond s.on None (Some off_at_barrier)

-- The counts stay.
pub record SameCounts (s t : Meaning) : Type 0 where
  pub members : t.members ≡ s.members
  pub blocks : t.blocks ≡ s.blocks

-- Power went in a read or a barrier: no block has gained a version.
pub record Cut (s t : Meaning) : Type 0 where
  pub off : t.on ≡ false
  pub sized : SameCounts s t
  pub former : (m b : ℕ) (v : List ℕ) → HasBlock s m b → Version t m b v → Version s m b v

-- Power went in a store of the bytes x: its block may have gained x, and no block another version.
pub record CutStore (s : Meaning) (m b : ℕ) (x : List ℕ) (t : Meaning) : Type 0 where
  pub off : t.on ≡ false
  pub sized : SameCounts s t
  pub former : (i j : ℕ) (v : List ℕ) → HasBlock s i j → Version t i j v → Version s i j v ⊎ ((i ≡ m) × (j ≡ b) × (v ≡ x))

-- The bytes x are current at their block, whose other versions are former ones; other blocks may lose versions,
-- never the current one.
pub record Stored (s : Meaning) (m b : ℕ) (x : List ℕ) (t : Meaning) : Type 0 where
  pub on : t.on ≡ true
  pub sized : SameCounts s t
  pub here : current t m b ≡ x
  pub elsewhere : (i j : ℕ) → HasBlock s i j → ((i ≡ m) × (j ≡ b) → ⊥) → current t i j ≡ current s i j
  pub former : (i j : ℕ) (v : List ℕ) → HasBlock s i j → Version t i j v → Version s i j v ⊎ ((i ≡ m) × (j ≡ b) × (v ≡ x))

-- Every block has its current version only.
pub record Barred (s t : Meaning) : Type 0 where
  pub on : t.on ≡ true
  pub sized : SameCounts s t
  pub same : (m b : ℕ) → HasBlock s m b → current t m b ≡ current s m b
  pub only : (m b : ℕ) (v : List ℕ) → HasBlock s m b → Version t m b v → v ≡ current s m b
  pub former : (m b : ℕ) (v : List ℕ) → HasBlock s m b → Version t m b v → Version s m b v

-- Power is on, and every block has one of its former versions, which alone remains.
pub record PoweredOn (s t : Meaning) : Type 0 where
  pub on : t.on ≡ true
  pub sized : SameCounts s t
  pub picked : (m b : ℕ) → HasBlock s m b → Version s m b (current t m b)
  pub only : (m b : ℕ) (v : List ℕ) → HasBlock s m b → Version t m b v → v ≡ current t m b

-- The refusal e is the one that the checks c name, and nothing changed; where they name none, power went.
abbrev pub Refused : Option Refusal → Refusal → Type 0 → Type 0 → Type 0
Refused c e same went = options.MatchOption c went (λ d. (e ≡ d) × same)

module _ {U : Type 0} where
  -- A read into a buffer that held `old` and holds `new` after it.
  abbrev pub Reads : Meaning → ℕ → ℕ → List ℕ → Result U Refusal → List ℕ → Meaning → Type 0
  Reads s m b old r new t =
      results.MatchResult r
      (λ _. (checks s m b (length old) ≡ None) × (new ≡ current s m b) × (t ≡ s))
      (λ e. (new ≡ old) × Refused (checks s m b (length old)) e (t ≡ s) ((e ≡ off_at m b) × Cut s t))

  -- A store of the bytes x. Power may go at another block, which a store in between passes down first.
  abbrev pub Stores : Meaning → ℕ → ℕ → List ℕ → Result U Refusal → Meaning → Type 0
  Stores s m b x r t =
      results.MatchResult r
      (λ _. (checks s m b (length x) ≡ None) × Stored s m b x t)
      (λ e. Refused (checks s m b (length x)) e (t ≡ s) (IsPowerOff e × CutStore s m b x t))

  -- A barrier, in which stores that were held back may be passed down first.
  abbrev pub Bars : Meaning → Result U Refusal → Meaning → Type 0
  Bars s r t =
      results.MatchResult r
      (λ _. (barrier_checks s ≡ None) × Barred s t)
      (λ e. Refused (barrier_checks s) e (t ≡ s) (IsPowerOff e × Cut s t))
