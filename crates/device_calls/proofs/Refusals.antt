-- Refusals where the checks pass, and stores whose current versions may stand. Assumes nothing.
use Rattle.std.proofs.Common.{◌≡◌, ℕ, None, Option, sym, ◌∙◌, subst, ⊎_elim}
use Rattle.member_store.specs.Meaning.{Meaning, current, Version, HasBlock}
use Rattle.member_store.specs.Refusals.{IsPowerOff, off_at}
use Rattle.member_store.specs.Calls.{Refused}
use Rattle.member_store.specs.declared.refusal.Refusal.{Refusal}
use Rattle.member_store.proofs.Refusals.{refused_cases}
use Rattle.std.proofs.lemmas.Option.{none-some}

-- the current version of each block may stand
abbrev pub CurrentStands : Meaning → Type 0
CurrentStands s = (m b : ℕ) → HasBlock s m b → Version s m b (current s m b)

-- a refusal where the checks pass: power went
pub went : (same cut : Type 0) (c : Option Refusal) (e : Refusal) → c ≡ None → Refused c e same cut → cut
went same cut c e n h = ⊎_elim (λ a. a.1) (λ a. absurd (none-some e (sym n ∙ a.0))) (refused_cases c e same cut h)

pub off_is_power : (e : Refusal) (m b : ℕ) → e ≡ off_at m b → IsPowerOff e
off_is_power e m b q = subst IsPowerOff (sym q) tt
