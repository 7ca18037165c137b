-- The laws of lists of device calls.
use Rattle.std.specs.Prelude.{◌≡◌, ℕ, true, ◌⊎◌, List, [], ◌∷◌, ◌++◌}
use Rattle.member_store.specs.Meaning.{Meaning, current, HasBlock, Version}
use Rattle.member_store.specs.Calls.{SameCounts, Cut}
use Rattle.member_store.specs.declared.refusal.Refusal.{Refusal}
use Rattle.device_calls.specs.Lists.{DeviceCall, store, barrier, Completed, Stopped}
use Rattle.device_calls.specs.Effects.{Every, InRange, Spares, Reading, Gains, CutShort}

pub record Laws : Type 0 where
  -- one list after the other
  pub append : (xs ys : List DeviceCall) (s u t : Meaning) → Completed xs s u → Completed ys u t → Completed (xs ++ ys) s t
  pub split : (xs ys : List DeviceCall) (s t : Meaning) → Completed (xs ++ ys) s t → (u : Meaning) × Completed xs s u × Completed ys u t
  pub stopped_in_first : (xs ys : List DeviceCall) (s : Meaning) (e : Refusal) (t : Meaning) → Stopped xs s e t → Stopped (xs ++ ys) s e t
  pub stopped_in_second : (xs ys : List DeviceCall) (s u : Meaning) (e : Refusal) (t : Meaning) → Completed xs s u → Stopped ys u e t → Stopped (xs ++ ys) s e t
  pub where_stopped : (xs ys : List DeviceCall) (s : Meaning) (e : Refusal) (t : Meaning) → Stopped (xs ++ ys) s e t → Stopped xs s e t ⊎ ((u : Meaning) × Completed xs s u × Stopped ys u e t)
  -- a completed list
  pub same_counts : (os : List DeviceCall) (s t : Meaning) → Completed os s t → SameCounts s t
  pub stays_on : (os : List DeviceCall) (s t : Meaning) → s.on ≡ true → Completed os s t → t.on ≡ true
  pub was_in_range : (os : List DeviceCall) (s t : Meaning) → Completed os s t → Every (InRange s) os
  pub gains : (os : List DeviceCall) (s t : Meaning) → Completed os s t → Gains os s t
  pub spared : (os : List DeviceCall) (s t : Meaning) (m b : ℕ) → HasBlock s m b → Every (Spares m b) os → Completed os s t → current t m b ≡ current s m b
  pub last_stored : (xs ys : List DeviceCall) (s t : Meaning) (m b : ℕ) (x : List ℕ) → Every (Spares m b) ys → Completed (xs ++ store m b x ∷ ys) s t → current t m b ≡ x
  pub barred : (os : List DeviceCall) (s t : Meaning) (m b : ℕ) (v : List ℕ) → HasBlock s m b → Completed (os ++ barrier ∷ []) s t → Version t m b v → v ≡ current t m b
  pub unchanged : (os : List DeviceCall) (s t : Meaning) → Every Reading os → Completed os s t → t ≡ s
  -- a stopped one
  pub cut_short : (os : List DeviceCall) (s : Meaning) (e : Refusal) (t : Meaning) → Stopped os s e t → CutShort (Every (InRange s) os) os s e t
  pub cut_reading : (os : List DeviceCall) (s : Meaning) (e : Refusal) (t : Meaning) → Every Reading os → Stopped os s e t → (t ≡ s) ⊎ Cut s t
