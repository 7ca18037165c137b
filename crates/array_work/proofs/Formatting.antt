-- Zeroing as a list of device calls, and formatting as a list of actions. Assumes nothing.
use Rattle.std.proofs.Common.{ℕ, [], ◌∷◌, ◌++◌, Ok, Err, refl, inl, inr}
use lib.ListN.{length-replicate}
use Rattle.parity.specs.Xor.{zeros}
use Rattle.member_store.specs.Meaning as members
use Rattle.member_store.specs.Calls.{Stores, Bars}
use Rattle.member_store.specs.declared.refusal.Refusal.{Refusal}
use Rattle.device_calls.specs.Lists.{store, barrier, Completed, Stopped}
use Rattle.device_calls.proofs.Append.{completed_then, stopped_first, stopped_then}
use Rattle.device_calls.proofs.Single.{store_performs, barrier_performs}
use Rattle.intent_log.specs.Meaning as intent
use Rattle.intent_log.specs.Calls.{Blanks, Clears}
use Rattle.intent_log.specs.declared.refusal.LogRefusal.{LogRefusal}
use Rattle.array_model.specs.Meaning.{Geometry}
use Rattle.array_model.specs.Work.{AllAccepted, FirstRefused}
use Rattle.array_model.specs.Calls.{format_actions, zero_calls}
use Rattle.array_model.specs.declared.refusal.ArrayRefusal.TheVariants.{Members, Log}

-- block b of member m is zeroed
pub zeroed : (m b : ℕ) (s t : members.Meaning) → Stores {U = Unit {0}} s m b zeros (Ok tt) t → Completed (store m b zeros ∷ []) s t
zeroed m b s t d = store_performs {U = Unit {0}} m b zeros s t (Ok tt) (length-replicate {A = ℕ} 512 0) d

pub not_zeroed : (m b : ℕ) (s : members.Meaning) (e : Refusal) (t : members.Meaning) → Stores {U = Unit {0}} s m b zeros (Err e) t → Stopped (store m b zeros ∷ []) s e t
not_zeroed m b s e t d = store_performs {U = Unit {0}} m b zeros s t (Err e) (length-replicate {A = ℕ} 512 0) d

-- the format, by where it ends
module _ (g : Geometry) (m : members.Meaning) (l k : intent.Meaning) (blanked : Blanks {U = Unit {0}} l (Ok tt) k) where
  pub stopped_zeroing : (e : Refusal) (n : members.Meaning) → Stopped (zero_calls g) m e n → FirstRefused (format_actions g) m l (Members e) n k
  stopped_zeroing e n d = inr (m, k, (refl, blanked), inl (e, refl, stopped_first (zero_calls g) (barrier ∷ []) m e n d, refl))

  module _ (u : members.Meaning) (zeroes : Completed (zero_calls g) m u) where
    pub stopped_barring : (e : Refusal) (n : members.Meaning) → Bars {U = Unit {0}} u (Err e) n → FirstRefused (format_actions g) m l (Members e) n k
    stopped_barring e n d =
        inr (m, k, (refl, blanked), inl (e, refl, stopped_then (zero_calls g) (barrier ∷ []) m u e n zeroes (barrier_performs {U = Unit {0}} u n (Err e) d), refl))

    module _ (n : members.Meaning) (barred : Bars {U = Unit {0}} u (Ok tt) n) where
      stored : Completed (zero_calls g ++ barrier ∷ []) m n
      stored = completed_then (zero_calls g) (barrier ∷ []) m u n zeroes (barrier_performs {U = Unit {0}} u n (Ok tt) barred)

      pub stopped_clearing : (e : LogRefusal) (j : intent.Meaning) → Clears {U = Unit {0}} k (Err e) j → FirstRefused (format_actions g) m l (Log e) n j
      stopped_clearing e j d = inr (m, k, (refl, blanked), inr (n, k, (stored, refl), inl (e, refl, refl, d)))

      pub formatted : (j : intent.Meaning) → Clears {U = Unit {0}} k (Ok tt) j → AllAccepted (format_actions g) m l n j
      formatted j d = (m, k, (refl, blanked), (n, k, (stored, refl), (n, j, (refl, d), (refl, refl))))
