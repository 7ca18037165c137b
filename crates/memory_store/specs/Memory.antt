-- What a memory store means, the number of its refusal, and what it says of its own calls: it refuses as the checks
-- say and in no other case, and only a store alters anything, the 512 bytes of its block.
use Rattle.std.specs.Prelude.{◌≡◌, ℕ, Bool, true, false, List, length, Some, None, vec_items, Option, Result}
use Rattle.std.specs.Result as results
use Rattle.member_store.specs.Meaning.{Meaning}
use Rattle.member_store.specs.Calls.{checks, barrier_checks}
use Rattle.member_store.specs.declared.refusal.Refusal.{Refusal}
use Rattle.memory_store.specs.Row.{laid, after_store}
use Rattle.memory_store.specs.declared.memory.BadCounts.{BadCounts}
use Rattle.memory_store.specs.declared.memory.MemoryStore.{MemoryStore}

abbrev pub memory_means : MemoryStore → Meaning
memory_means s = laid s.members s.blocks (vec_items s.bytes)

abbrev pub number : BadCounts → ℕ
number e = 2

-- The answer r says whether P holds.
abbrev pub Tells : Bool → Type 0 → Type 0
Tells true P = P
Tells false P = P → ⊥

-- Refused exactly as the checks say.
abbrev pub Answers : Option Refusal → Result (Unit {0}) Refusal → Type 0
Answers c r = results.MatchResult r (λ _. c ≡ None) (λ e. c ≡ Some e)

abbrev pub MemoryReads : MemoryStore → ℕ → ℕ → List ℕ → Result (Unit {0}) Refusal → List ℕ → MemoryStore → Type 0
MemoryReads s m b old r new t = Answers (checks (memory_means s) m b (length old)) r × (t ≡ s)

abbrev pub MemoryStores : MemoryStore → ℕ → ℕ → List ℕ → Result (Unit {0}) Refusal → MemoryStore → Type 0
MemoryStores s m b x r t =
    Answers (checks (memory_means s) m b (length x)) r
    × (vec_items t.bytes ≡ after_store (checks (memory_means s) m b (length x)) (vec_items s.bytes) s.blocks m b x)

abbrev pub MemoryBars : MemoryStore → Result (Unit {0}) Refusal → MemoryStore → Type 0
MemoryBars s r t = Answers (barrier_checks (memory_means s)) r × (t ≡ s)

abbrev pub MemoryPowers : MemoryStore → MemoryStore → Type 0
MemoryPowers s t = t ≡ s
