-- What a ring on a member store means.
use Rattle.std.specs.Prelude.{◌≡◌, ℕ, ◌<◌, ◌≤◌, Bool, true, cond, ◌&&◌, List, map, length, Some, None, Option, nat_le, nat_lt}
use Rattle.member_store.specs.Meaning.{Meaning, current, Version}
use Rattle.stripe_set.specs.Named.{named}
use Rattle.stripe_set.specs.Union.{merged}
use Rattle.record.specs.Contents.{Contents}
use Rattle.record.specs.Reading.{recorded}
use Rattle.intent_log.specs.Meaning as log
use Rattle.intent_log.specs.Meaning.{Standing, listed}
use Rattle.ring_log.specs.Slots.{slots, slot_member, slot_block}
use Rattle.ring_log.specs.Highest.{highest, candidates, version_of, stripes_of, present}

-- the record in slot i now, and those that it may hold after a cut
abbrev pub slot_record : ℕ → Meaning → ℕ → Option Contents
slot_record m s i = recorded (current s (slot_member m i) (slot_block m i))

abbrev pub slot_records : ℕ → Meaning → ℕ → List (Option Contents)
slot_records m s i = map recorded (s.versions (slot_member m i) (slot_block m i))

-- what stands on m members with b blocks each
abbrev pub stands_in : ℕ → ℕ → Meaning → Option (ℕ × Contents)
stands_in m b s = highest (slot_record m s) (slots m b)

abbrev pub standing_of : Option (ℕ × Contents) → Standing
standing_of x = record { stands = present x; names = λ s. named s (stripes_of x) }

-- a ring is spent from version 4,294,967,294, a list fits that leaves at most 64 stripes named, and one slot is too few
abbrev pub ring_on : ℕ → ℕ → Bool → Meaning → log.Meaning
ring_on m b awake s = record {
  on = awake && s.on;
  standing = standing_of (stands_in m b s);
  others = map standing_of (candidates (slot_records m s) (slots m b));
  spent = nat_le 4294967294 (version_of (stands_in m b s));
  fits = λ w. listed w && nat_le (length (merged (stripes_of (stands_in m b s)) w)) 64;
  too_small = cond (nat_lt (slots m b) 2) (Some (m, b)) None;
}

abbrev pub ring : Bool → Meaning → log.Meaning
ring awake s = ring_on s.members s.blocks awake s

-- there are slots enough, each has one version, and what is kept in memory is what stands
pub record Steady (m b : ℕ) (s : Meaning) (memory : Option (ℕ × Contents)) : Type 0 where
  pub wide : 2 ≤ slots m b
  pub single : (i : ℕ) (v : List ℕ) → i < slots m b → Version s (slot_member m i) (slot_block m i) v → v ≡ current s (slot_member m i) (slot_block m i)
  pub same : memory ≡ stands_in m b s

-- while power is on
abbrev pub Sound : Bool → Meaning → Option (ℕ × Contents) → Type 0
Sound awake s memory = (awake && s.on) ≡ true → Steady s.members s.blocks s memory
