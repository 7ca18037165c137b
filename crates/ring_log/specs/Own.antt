-- What the ring log says of its own calls: the device calls that each makes, in order, and which record stands then.
use Rattle.std.specs.Prelude.{◌≡◌, ℕ, ◌+◌, Bool, true, false, cond, List, [], ◌∷◌, ◌++◌, length, replicate, Some, None, Err, Option, Result, ◌==◌}
use Rattle.std.specs.Option as options
use Rattle.std.specs.Result as results
use Rattle.member_store.specs.Meaning.{Meaning}
use Rattle.member_store.specs.Calls.{PoweredOn}
use Rattle.device_calls.specs.Lists as device
use Rattle.device_calls.specs.Lists.{DeviceCall, for_each}
use Rattle.stripe_set.specs.Union.{merged}
use Rattle.record.specs.Contents.{Contents, contained}
use Rattle.record.specs.declared.form.Record.{Record}
use Rattle.record.specs.Form.{block}
use Rattle.intent_log.specs.Calls.{mark_checks, fresh_checks, power_checks, size_checks}
use Rattle.intent_log.specs.Devices.{Makes, MakesChange}
use Rattle.intent_log.specs.declared.refusal.LogRefusal.{LogRefusal}
use Rattle.intent_log.specs.declared.refusal.LogRefusal.TheVariants.{Off}
use Rattle.ring_log.specs.Slots.{slots, slot_member, slot_block, slot_for}
use Rattle.ring_log.specs.Highest.{slot_or, version_of, stripes_of}
use Rattle.ring_log.specs.Ring.{stands_in, ring}

abbrev pub contents_of : ℕ → List ℕ → Contents
contents_of v ss = record { version = v; stripes = ss }

-- a record in the slot of its version
abbrev pub put_record : ℕ → ℕ → Contents → Option (ℕ × Contents)
put_record m b r = Some (slot_for m b r.version, r)

-- a record is stored in the slot of its version, and barred
abbrev pub put_calls : ℕ → ℕ → Contents → List DeviceCall
put_calls m b r = device.store (slot_member m (slot_for m b r.version)) (slot_block m (slot_for m b r.version)) (block r) ∷ device.barrier ∷ []

-- the next version, with these stripes
abbrev pub next_record : Option (ℕ × Contents) → List ℕ → Contents
next_record x ss = contents_of (version_of x + 1) ss

-- a clear of a standing, empty record stores nothing
abbrev pub clear_calls : ℕ → ℕ → Option (ℕ × Contents) → List DeviceCall
clear_calls m b None = put_calls m b (next_record None [])
clear_calls m b (Some x) = cond (length x.1.stripes == 0) [] (put_calls m b (next_record (Some x) []))

abbrev pub cleared : ℕ → ℕ → Option (ℕ × Contents) → Option (ℕ × Contents)
cleared m b None = put_record m b (next_record None [])
cleared m b (Some x) = cond (length x.1.stripes == 0) (Some x) (put_record m b (next_record (Some x) []))

abbrev pub zero_block : List ℕ
zero_block = replicate 512 0

-- zeros to slot i, unless it is `keep`
abbrev pub zero_slot : ℕ → ℕ → ℕ → List DeviceCall
zero_slot m keep i = cond (i == keep) [] (device.store (slot_member m i) (slot_block m i) zero_block ∷ [])

-- zeros to the standing slot, and a barrier
abbrev pub zero_standing : ℕ → Option (ℕ × Contents) → List DeviceCall
zero_standing m None = []
zero_standing m (Some x) = device.store (slot_member m x.0) (slot_block m x.0) zero_block ∷ device.barrier ∷ []

-- zeros to all slots but the standing one, a barrier, and then that one
abbrev pub blank_calls : ℕ → ℕ → Option (ℕ × Contents) → List DeviceCall
blank_calls m b x = for_each (zero_slot m (slot_or (slots m b) x)) (slots m b) ++ (device.barrier ∷ zero_standing m x)

-- each slot is read, in order
abbrev pub read_slot : ℕ → ℕ → List DeviceCall
read_slot m i = device.read (slot_member m i) (slot_block m i) ∷ []

-- on the store's counts
abbrev pub standing : Meaning → Option (ℕ × Contents)
standing s = stands_in s.members s.blocks s

module _ {U : Type 0} where
  abbrev Puts : Option LogRefusal → Meaning → List ℕ → Result U LogRefusal → Meaning → Type 0
  Puts checks s ss r t =
      MakesChange checks (put_calls s.members s.blocks (next_record (standing s) ss)) (standing t ≡ put_record s.members s.blocks (next_record (standing s) ss)) s r t

  abbrev pub OwnMark : Bool → Meaning → List ℕ → Result U LogRefusal → Meaning → Type 0
  OwnMark awake s w r t = Puts (mark_checks (ring awake s) w) s (merged (stripes_of (standing s)) w) r t

  abbrev pub OwnFresh : Bool → Meaning → List ℕ → Result U LogRefusal → Meaning → Type 0
  OwnFresh awake s w r t = Puts (fresh_checks (ring awake s) w) s w r t

  abbrev pub OwnClear : Bool → Meaning → Result U LogRefusal → Meaning → Type 0
  OwnClear awake s r t =
      MakesChange (power_checks (ring awake s)) (clear_calls s.members s.blocks (standing s)) (standing t ≡ cleared s.members s.blocks (standing s)) s r t

  abbrev pub OwnBlank : Bool → Meaning → Result U LogRefusal → Meaning → Type 0
  OwnBlank awake s r t =
      MakesChange (power_checks (ring awake s)) (blank_calls s.members s.blocks (standing s)) (standing t ≡ None) s r t

  -- the store is powered, and then every slot is read; on one slot it is not even powered
  abbrev pub OwnPower : Bool → Meaning → Result U LogRefusal → Meaning → Type 0
  OwnPower awake s r t =
      options.MatchOption (size_checks (ring awake s).too_small)
      ((u : Meaning) × (PoweredOn s u × Makes (for_each (read_slot s.members) (slots s.members s.blocks)) u r t))
      (λ d. (r ≡ Err d) × (t ≡ s))

abbrev pub without_slot : Option (ℕ × Contents) → Option Contents
without_slot None = None
without_slot (Some x) = Some x.1

-- the record that stands is shown while power is on
abbrev pub Shows : Bool → Meaning → Result (Option Record) LogRefusal → Type 0
Shows on s r = results.MatchResult r (λ o. (on ≡ true) × (contained o ≡ without_slot (standing s))) (λ e. (on ≡ false) × (e ≡ Off))
