-- The cases of a refused call.
use Rattle.std.proofs.Common.{◌≡◌, ◌⊎◌, Some, None, Option, refl, inl, inr}
use Rattle.member_store.specs.Calls.{Refused}
use Rattle.member_store.specs.declared.refusal.Refusal.{Refusal}

-- The checks passed and power went, or they did not and nothing changed.
pub refused_cases : (c : Option Refusal) (e : Refusal) (same went : Type 0) → Refused c e same went → ((c ≡ None) × went) ⊎ ((c ≡ Some e) × same)
refused_cases None e same went h = inl (refl, h)
refused_cases (Some d) e same went h = inr (cc h.0, h.1)

pub refused_went : (c : Option Refusal) (e : Refusal) (same went : Type 0) → c ≡ None → went → Refused c e same went
refused_went c e same went n h = rw n h

pub refused_weaker : (c : Option Refusal) (e : Refusal) {same same' went went' : Type 0} → (same → same') → (went → went') → Refused c e same went → Refused c e same' went'
refused_weaker None e f g h = g h
refused_weaker (Some d) e f g h = (h.0, f h.1)
