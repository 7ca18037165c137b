-- What a write buffer says of its own calls: what is held after each, and what goes below. A buffer is spoken of by
-- the stores that it holds and the store below.
use Rattle.std.specs.Prelude.{◌≡◌, ℕ, ◌<◌, true, false, List, [], ◌∷◌, ◌++◌, map, length, Ok, Err, MatchBool, Option, Result, nat_lt, slice_index_or}
use Rattle.std.specs.Option as options
use Rattle.std.specs.Result as results
use Rattle.member_store.specs.Meaning.{Meaning, current}
use Rattle.member_store.specs.Calls.{checks, barrier_checks, Bars}
use Rattle.member_store.specs.declared.refusal.Refusal.{Refusal}
use Rattle.write_buffer.specs.Replay.{holds, buffered}
use Rattle.write_buffer.specs.Passing.{PassesOldest, PassesAll}
use Rattle.write_buffer.specs.declared.held.HeldStore.{HeldStore}

-- What a held store says: member, block and bytes.
abbrev pub content : HeldStore → ℕ × ℕ × List ℕ
content h = (h.at.member, h.at.block, h.bytes)

-- r is the place of the newest held store to block b of member m, which has its current bytes, if there is one.
abbrev pub Newest : List HeldStore → ℕ → ℕ → Option ℕ → Type 0
Newest held m b r =
    options.MatchOption r
    (holds held m b ≡ false)
    (λ k. (k < length held) × (holds held m b ≡ true) × ((s : Meaning) (d : HeldStore) → current (buffered held s) m b ≡ (slice_index_or held k d).bytes))

-- A store of x is held after the others.
abbrev pub Appended : List HeldStore → ℕ → ℕ → List ℕ → List HeldStore → Type 0
Appended held m b x more = map content more ≡ map content held ++ (m, b, x) ∷ []

-- The refusal e, and nothing changed.
abbrev pub Refuses : {S : Type 0} → Refusal → Result (Unit {0}) Refusal → List HeldStore → S → List HeldStore → S → Type 0
Refuses e r held s held' t = (r ≡ Err e) × (held' ≡ held) × (t ≡ s)

module _ {S : Type 0} (meaning : S → Meaning) where
  -- A valid read: of a held block it asks nothing of the store below, and else that one reads, as Q says.
  abbrev pub BufferReads : ℕ → ℕ → List ℕ → Result (Unit {0}) Refusal → Type 0 → List HeldStore → S → List HeldStore → S → Type 0
  BufferReads m b old r Q held s held' t =
      options.MatchOption (checks (buffered held (meaning s)) m b (length old))
      ((held' ≡ held) × MatchBool (holds held m b) ((r ≡ Ok tt) × (t ≡ s)) Q)
      (λ e. Refuses e r held s held' t)

module _ {S : Type 0} (meaning : S → Meaning) (storing : S → ℕ → ℕ → List ℕ → Result (Unit {0}) Refusal → S → Type 0) where
  -- Room for one more: with 8 held exactly the oldest is passed below, else nothing is.
  abbrev pub MakesRoom : Result (Unit {0}) Refusal → List HeldStore → S → List HeldStore → S → Type 0
  MakesRoom o held s left t =
      MatchBool (nat_lt (length held) 8) ((o ≡ Ok tt) × (left ≡ held) × (t ≡ s)) (PassesOldest meaning storing held s o left t)

  -- A store: it is held last once there is room, and refused where power went on the way.
  abbrev pub BufferStores : ℕ → ℕ → List ℕ → Result (Unit {0}) Refusal → List HeldStore → S → List HeldStore → S → Type 0
  BufferStores m b x r held s held' t =
      options.MatchOption (checks (buffered held (meaning s)) m b (length x))
      ((o : Result (Unit {0}) Refusal) × (left : List HeldStore) × MakesRoom o held s left t
      × results.MatchResult o (λ _. (r ≡ Ok tt) × Appended left m b x held') (λ e. (r ≡ Err e) × (held' ≡ left)))
      (λ e. Refuses e r held s held' t)

  -- A barrier: all are passed below in order, and then there is a barrier below, unless power went on the way.
  abbrev pub BufferBars : (S → Result (Unit {0}) Refusal → S → Type 0) → Result (Unit {0}) Refusal → List HeldStore → S → List HeldStore → S → Type 0
  BufferBars barring r held s held' t =
      options.MatchOption (barrier_checks (buffered held (meaning s)))
      ((o : Result (Unit {0}) Refusal) × (u : S) × PassesAll meaning storing held s o held' u
      × results.MatchResult o (λ _. Bars (meaning u) r (meaning t) × barring u r t) (λ e. (r ≡ Err e) × (t ≡ u)))
      (λ e. Refuses e r held s held' t)
