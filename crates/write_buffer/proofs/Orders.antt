-- Passing held stores below, one by one.
use Rattle.std.proofs.Common.{◌≡◌, ℕ, ◌<◌, true, false, List, [], ◌∷◌, length, get_or, Ok, Err, Result, sym, refl, ap, arith}
use Rattle.std.specs.List.{remove}
use Rattle.member_store.specs.Meaning.{Meaning}
use Rattle.member_store.specs.Calls.{Stores}
use Rattle.member_store.specs.declared.refusal.Refusal.{Refusal}
use Rattle.write_buffer.specs.Passing.{power_answer, remaining, PassesOldest, PassesAll}
use Rattle.write_buffer.specs.declared.held.HeldStore.{HeldStore}

-- the first of a list, and the rest
pub first_out : (hs rest : List HeldStore) (h : HeldStore) → 0 < length hs → h ≡ get_or hs 0 h → rest ≡ remove hs 0 → hs ≡ h ∷ rest
first_out [] rest h some e f = absurd (let z : ⊥ = omega arith in z)
first_out (x ∷ xs) rest h some e f = cc

module _ {S : Type 0} (meaning : S → Meaning) (storing : S → ℕ → ℕ → List ℕ → Result (Unit {0}) Refusal → S → Type 0) where
  module _ (h : HeldStore) (s t : S) (r : Result (Unit {0}) Refusal) (means : Stores (meaning s) h.at.member h.at.block h.bytes r (meaning t)) (own : storing s h.at.member h.at.block h.bytes r t) where
    pub oldest_gone : (hs left : List HeldStore) → hs ≡ h ∷ left → (meaning t).on ≡ true → PassesOldest meaning storing hs s (Ok tt) left t
    oldest_gone hs left e up = rw e ((r, means, own, sym (ap (λ q. power_answer q r) up)), refl)

    pub oldest_kept : (hs later : List HeldStore) (e : Refusal) → hs ≡ h ∷ later → (meaning t).on ≡ false → r ≡ Err e → PassesOldest meaning storing hs s r hs t
    oldest_kept hs later e is down fails =
        let same : h ∷ later ≡ remaining r h later = sym (ap (λ p. remaining p h later) fails) in
        rw is ((r, means, own, sym (ap (λ q. power_answer q r) down)), same)

  -- nothing is held
  pub passes_none : (hs : List HeldStore) (s : S) → hs ≡ [] → PassesAll meaning storing hs s (Ok tt) hs s
  passes_none hs s e = rw e (refl, refl, refl)

  -- the oldest, and then the others
  pub oldest_then_all : (hs mid left : List HeldStore) (s u t : S) (o : Result (Unit {0}) Refusal) → PassesOldest meaning storing hs s (Ok tt) mid u → PassesAll meaning storing mid u o left t → PassesAll meaning storing hs s o left t
  oldest_then_all [] mid left s u t o p q = absurd p
  oldest_then_all (h ∷ later) mid left s u t o p q = (Ok tt, u, p.0, rw (← p.1) q)

  -- the oldest, in which power went
  pub oldest_stops : (hs left : List HeldStore) (s t : S) (e : Refusal) → PassesOldest meaning storing hs s (Err e) left t → PassesAll meaning storing hs s (Err e) left t
  oldest_stops [] left s t e p = absurd p
  oldest_stops (h ∷ later) left s t e p = (Err e, t, p.0, (refl, p.1, refl))
