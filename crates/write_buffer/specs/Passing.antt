-- Passing held stores below, oldest first, until one is refused for want of power: that one and those after it stay held.
use Rattle.std.specs.Prelude.{◌≡◌, ℕ, Bool, true, false, List, [], ◌∷◌, Ok, Err, Result}
use Rattle.std.specs.Result as results
use Rattle.member_store.specs.Meaning.{Meaning, Version, current, HasBlock}
use Rattle.member_store.specs.Calls.{SameCounts, Cut, Stores}
use Rattle.member_store.specs.Refusals.{IsPowerOff}
use Rattle.member_store.specs.declared.refusal.Refusal.{Refusal}
use Rattle.write_buffer.specs.declared.held.HeldStore.{HeldStore}

-- Blocks may have lost versions, never the current one.
pub record FewerVersions (s t : Meaning) : Type 0 where
  pub on : t.on ≡ s.on
  pub sized : SameCounts s t
  pub same : (m b : ℕ) → HasBlock s m b → current t m b ≡ current s m b
  pub former : (m b : ℕ) (v : List ℕ) → HasBlock s m b → Version t m b v → Version s m b v

-- Versions were only lost, with the power or without.
abbrev pub OnlyLoses : Result (Unit {0}) Refusal → Meaning → Meaning → Type 0
OnlyLoses r s t = results.MatchResult r (λ _. FewerVersions s t) (λ e. IsPowerOff e × Cut s t)

-- What comes up of an answer r: a refusal only where power is off after it.
abbrev pub power_answer : Bool → Result (Unit {0}) Refusal → Result (Unit {0}) Refusal
power_answer true r = Ok tt
power_answer false r = r

-- What stays held of h and the later stores: h goes unless power went.
abbrev pub remaining : Result (Unit {0}) Refusal → HeldStore → List HeldStore → List HeldStore
remaining (Ok _) h later = later
remaining (Err e) h later = h ∷ later

module _ {S : Type 0} (meaning : S → Meaning) (storing : S → ℕ → ℕ → List ℕ → Result (Unit {0}) Refusal → S → Type 0) where
  -- h is passed below, from s to t; o is what comes up, a refusal if power went.
  abbrev pub PassesOne : HeldStore → S → Result (Unit {0}) Refusal → S → Type 0
  PassesOne h s o t =
      (r : Result (Unit {0}) Refusal)
      × Stores (meaning s) h.at.member h.at.block h.bytes r (meaning t)
      × storing s h.at.member h.at.block h.bytes r t
      × (o ≡ power_answer (meaning t).on r)

  -- Exactly the oldest of the held stores is passed below.
  abbrev pub PassesOldest : List HeldStore → S → Result (Unit {0}) Refusal → List HeldStore → S → Type 0
  PassesOldest [] s o left t = ⊥
  PassesOldest (h ∷ later) s o left t = PassesOne h s o t × (left ≡ remaining o h later)

  -- All are passed below in order, until power goes.
  abbrev pub PassesAll : List HeldStore → S → Result (Unit {0}) Refusal → List HeldStore → S → Type 0
  PassesAll [] s o left t = (o ≡ Ok tt) × (left ≡ []) × (t ≡ s)
  PassesAll (h ∷ later) s o left t =
      (p : Result (Unit {0}) Refusal)
      × (u : S)
      × PassesOne h s p u
      × results.MatchResult p (λ _. PassesAll later u o left t) (λ e. (o ≡ Err e) × (left ≡ h ∷ later) × (t ≡ u))
