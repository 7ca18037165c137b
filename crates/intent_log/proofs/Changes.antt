-- What a change comes to, accepted and refused; and what may stand, by a list.
use Rattle.std.proofs.Common.{◌≡◌, List, [], ◌∷◌, map, IfOk, IsErrAnd, Some, None, Ok, Err, Option, Result, refl, ap, inl, inr}
use Rattle.member_store.specs.Meaning.{Meaning, In}
use Rattle.device_calls.specs.Lists.{DeviceCall}
use Rattle.intent_log.specs.Refusals.{PowerWent}
use Rattle.intent_log.specs.Calls.{Refused}
use Rattle.intent_log.specs.Devices.{Makes, MakesChange}
use Rattle.intent_log.specs.declared.refusal.LogRefusal.{LogRefusal}

-- a refusal that the checks name
pub refused_by : (c : Option LogRefusal) (e : LogRefusal) (same cut : Type 0) → c ≡ Some e → same → Refused c e same cut
refused_by c e same cut n h = rw n (refl, h)

-- a refusal with power going
pub refused_went : (c : Option LogRefusal) (e : LogRefusal) (same cut : Type 0) → c ≡ None → PowerWent e → cut → Refused c e same cut
refused_went c e same cut n w h = rw n (w, h)

-- what `?` hands up, where the error that it makes is known
pub handed_up : {T E : Type 0} (r : Result T E) (e : E) → IsErrAnd r (λ d. d ≡ e) → r ≡ Err e
handed_up (Ok x) e h = elim h [ ]
handed_up (Err d) e h = ap Err h

module _ {U : Type 0} where
  pub makes_passed : (checks : Option LogRefusal) (calls : List DeviceCall) (after : Type 0) (s : Meaning) (r : Result U LogRefusal) (t : Meaning) → checks ≡ None → Makes calls s r t → IfOk r (λ _. after) → MakesChange checks calls after s r t
  makes_passed checks calls after s r t n h k = record { made_calls = rw n h; stands = k }

  pub makes_refused : (checks : Option LogRefusal) (calls : List DeviceCall) (after : Type 0) (s : Meaning) (d : LogRefusal) → checks ≡ Some d → MakesChange {U = U} checks calls after s (Err d) s
  makes_refused checks calls after s d n = record { made_calls = rw n (refl, refl); stands = tt }

module _ {X Y : Type 0} where
  pub in_map : (f : X → Y) (y : Y) (xs : List X) → In y (map f xs) → (x : X) × (In x xs × (y ≡ f x))
  in_map f y [] h = elim h [ ]
  in_map f y (x ∷ xs) (inl e) = (x, (inl refl, e))
  in_map f y (x ∷ xs) (inr h) = let r = in_map f y xs h in (r.0, (inr r.1.0, r.1.1))

  pub map_in : (f : X → Y) (x : X) (xs : List X) → In x xs → In (f x) (map f xs)
  map_in f x [] h = elim h [ ]
  map_in f x (y ∷ xs) (inl e) = inl (ap f e)
  map_in f x (y ∷ xs) (inr h) = inr (map_in f x xs h)
