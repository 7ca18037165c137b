-- The newest held store to a block, and what is current under it.
use Rattle.std.proofs.Common.{◌≡◌, ℕ, suc, zero, ◌+◌, ◌<◌, ◌≤◌, true, false, cond, List, [], ◌∷◌, ◌++◌, length, get_or, Some, refl, ap, ◌∙◌, arith}
use Rattle.member_store.specs.Meaning.{Meaning, current, last_or}
use Rattle.member_store.proofs.Versions.{last_push}
use Rattle.write_buffer.specs.Replay.{is_to, holds, replay, buffered}
use Rattle.write_buffer.specs.Buffer.{Newest}
use Rattle.write_buffer.specs.declared.held.HeldStore.{HeldStore}
use Rattle.write_buffer.specs.Replays.{replay_none}

module _ (m b : ℕ) where
  -- the held stores from place i on are to other blocks
  abbrev pub ElsewhereFrom : ℕ → List HeldStore → Type 0
  ElsewhereFrom i hs = (d : HeldStore) (k : ℕ) → i ≤ k → k < length hs → is_to (get_or hs k d) m b ≡ false

  pub none_held : (hs : List HeldStore) → ElsewhereFrom 0 hs → holds hs m b ≡ false
  none_held [] f = refl
  none_held (h ∷ hs) f = rw (f h 0 (omega arith) (omega arith)) (none_held hs (λ d k _ l. f d (suc k) (omega arith) (omega arith)))

  module _ (d : HeldStore) where
    held_at : (hs : List HeldStore) (i : ℕ) → i < length hs → is_to (get_or hs i d) m b ≡ true → holds hs m b ≡ true
    held_at [] i l hit = absurd (omega arith)
    held_at (h ∷ hs) zero l hit = rw hit
    held_at (h ∷ hs) (suc i) l hit = elim (is_to h m b) as (λ q. cond q true (holds hs m b) ≡ true) [ true ↦ refl | false ↦ held_at hs i (omega arith) hit ]

    last_at : (hs : List HeldStore) (i : ℕ) (vs : List (List ℕ)) → i < length hs → is_to (get_or hs i d) m b ≡ true → ElsewhereFrom (i + 1) hs → last_or [] (replay m b hs vs) ≡ (get_or hs i d).bytes
    last_at [] i vs l hit later = absurd (omega arith)
    last_at (h ∷ hs) zero vs l hit later =
        let none = none_held hs (λ e k _ j. later e (suc k) (omega arith) (omega arith)) in
        rw hit (ap (last_or []) (replay_none m b hs (vs ++ h.bytes ∷ []) none) ∙ last_push [] vs h.bytes)
    last_at (h ∷ hs) (suc i) vs l hit later = last_at hs i _ (omega arith) hit (λ e k o j. later e (suc k) (omega arith) (omega arith))

  pub newest_at : (hs : List HeldStore) (i : ℕ) → i < length hs → ((d : HeldStore) → is_to (get_or hs i d) m b ≡ true) → ElsewhereFrom (i + 1) hs → Newest hs m b (Some i)
  newest_at [] i l hit later = absurd (omega arith)
  newest_at (h ∷ hs) i l hit later = (l, held_at h (h ∷ hs) i l (hit h), λ s d. last_at d (h ∷ hs) i (s.versions m b) l (hit d) later)

-- no held store to a block: what is current below is current
pub current_below : (hs : List HeldStore) (s : Meaning) (m b : ℕ) → holds hs m b ≡ false → current (buffered hs s) m b ≡ current s m b
current_below hs s m b e = ap (last_or []) (replay_none m b hs (s.versions m b) e)
