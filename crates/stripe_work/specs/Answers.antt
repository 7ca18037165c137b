-- What the work on a stripe answers, and which device calls it made: a place that the array lacks is refused before any.
use Rattle.std.specs.Prelude.{◌≡◌, ℕ, cond, List, Some, None, Option, Result, nat_lt}
use Rattle.std.specs.Result as results
use Rattle.geometry.specs.Places.{stripes, stripe_of_block}
use Rattle.block_address.specs.declared.Address.{Address}
use Rattle.member_store.specs.Meaning.{Meaning}
use Rattle.device_calls.specs.Lists.{DeviceCall, Completed, Stopped}
use Rattle.device_calls.specs.Effects.{CutShort}
use Rattle.stripe_work.specs.declared.refusal.StripeRefusal.{StripeRefusal}
use Rattle.stripe_work.specs.declared.refusal.StripeRefusal.TheVariants.{NoStripe, NoMember, NoBlock, Device}

-- Has an array with n blocks a member a stripe k; has it, with m members, such an address? Else the refusal.
abbrev pub stripe_check : ℕ → ℕ → Option StripeRefusal
stripe_check n k = cond (nat_lt k (stripes n)) None (Some (NoStripe k))

abbrev pub address_check : ℕ → ℕ → Address → Option StripeRefusal
address_check m n at =
    cond (nat_lt at.member m)
    (cond (nat_lt (stripe_of_block at.block) (stripes n)) None (Some (NoBlock at.block)))
    (Some (NoMember at.member))

-- Refused: by the check, and then no device call was made; or a device call of the list was.
abbrev pub Fails : Option StripeRefusal → List DeviceCall → Meaning → StripeRefusal → Meaning → Type 0
Fails check os s (Device e) t = (check ≡ None) × Stopped os s e t
Fails check os s (NoStripe k) t = (check ≡ Some (NoStripe k)) × (t ≡ s)
Fails check os s (NoMember k) t = (check ≡ Some (NoMember k)) × (t ≡ s)
Fails check os s (NoBlock k) t = (check ≡ Some (NoBlock k)) × (t ≡ s)

-- The check passes, and the list is performed, stopping at the first refusal, which is handed up unchanged.
abbrev pub Answers : {U : Type 0} → Option StripeRefusal → List DeviceCall → Meaning → Result U StripeRefusal → Meaning → Type 0
Answers check os s r t = results.MatchResult r (λ _. (check ≡ None) × Completed os s t) (λ e. Fails check os s e t)

-- What a refusal leaves.
abbrev pub Unfinished : Type 0 → List DeviceCall → Meaning → StripeRefusal → Meaning → Type 0
Unfinished in_store os s (Device e) t = CutShort in_store os s e t
Unfinished in_store os s (NoStripe k) t = t ≡ s
Unfinished in_store os s (NoMember k) t = t ≡ s
Unfinished in_store os s (NoBlock k) t = t ≡ s
