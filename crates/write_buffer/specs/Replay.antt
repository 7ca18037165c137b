-- What a store means under stores that are held back: each held store adds a version to its block.
use Rattle.std.specs.Prelude.{ℕ, Bool, true, false, cond, ◌&&◌, List, [], ◌∷◌, ◌++◌, ◌==◌}
use Rattle.member_store.specs.Meaning.{Meaning}
use Rattle.write_buffer.specs.declared.held.HeldStore.{HeldStore}

-- Is h a store to block b of member m?
abbrev pub is_to : HeldStore → ℕ → ℕ → Bool
is_to h m b = h.at.member == m && h.at.block == b

-- Is a store to block b of member m held?
abbrev pub holds : List HeldStore → ℕ → ℕ → Bool
holds [] m b = false
holds (h ∷ hs) m b = cond (is_to h m b) true (holds hs m b)

-- The versions vs of block b of member m, under held stores, oldest first.
abbrev pub replay : ℕ → ℕ → List HeldStore → List (List ℕ) → List (List ℕ)
replay m b [] vs = vs
replay m b (h ∷ hs) vs = replay m b hs (cond (is_to h m b) (vs ++ h.bytes ∷ []) vs)

-- The held stores over the store below.
abbrev pub buffered : List HeldStore → Meaning → Meaning
buffered hs s = record {
  on = s.on;
  members = s.members;
  blocks = s.blocks;
  versions = λ m b. replay m b hs (s.versions m b);
}
