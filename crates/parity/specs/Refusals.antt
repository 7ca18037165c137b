-- What the parity functions answer. Assumes nothing.
use Rattle.std.specs.Prelude.{◌≡◌, ℕ, ◌/◌, ◌%◌, ◌<◌, Bool, cond, ◌&&◌, List, [], length, Some, None, MatchBool, Option, Result, ◌==◌, nat_le, slice_index_or}
use Rattle.std.specs.Result as results
use Rattle.std.specs.Simd.{first_chunks}
use Rattle.parity.specs.Xor.{parity_of, Whole, without, OthersGive}
use Rattle.parity.specs.declared.refusal.Refusal.{Refusal}
use Rattle.parity.specs.declared.refusal.Refusal.TheVariants.{BlockCount, WrongLength}

-- 2 to 7 blocks, and a buffer of 512 bytes: the first that fails is the refusal.
abbrev pub checks : ℕ → ℕ → Option Refusal
checks count len = cond (nat_le 2 count && nat_le count 7) (cond (len == 512) None (Some (WrongLength len))) (Some (BlockCount count))

module _ {U : Type 0} where
  -- The buffer, which held `old`, now holds the exclusive or of the blocks; a refusal leaves it.
  abbrev pub Gives : List (List ℕ) → List ℕ → Result U Refusal → List ℕ → Type 0
  Gives blocks old r new =
      results.MatchResult r
      (λ _. (checks (length blocks) (length old) ≡ None) × (new ≡ parity_of blocks))
      (λ e. (checks (length blocks) (length old) ≡ Some e) × (new ≡ old))

  -- Of whatever stripe with right parity these are the others of the block at i, the buffer now holds that block.
  abbrev pub Regains : List (List ℕ) → Result U Refusal → List ℕ → Type 0
  Regains others r new =
      results.MatchResult r
      (λ _. (blocks : List (List ℕ)) (p i : ℕ) → Whole blocks → p < length blocks → OthersGive blocks p → i < length blocks → others ≡ without i blocks → new ≡ slice_index_or blocks i [])
      (λ _. Unit {0})

-- The same of blocks that lie one after the other: whole ones, of which the checks name nothing.
abbrev pub FlatFits : List ℕ → List ℕ → Type 0
FlatFits bytes old = (length bytes % 512 ≡ 0) × (checks (length bytes / 512) (length old) ≡ None)

abbrev pub FlatGives : List ℕ → List ℕ → Bool → List ℕ → Type 0
FlatGives bytes old r new =
    MatchBool r (FlatFits bytes old × (new ≡ parity_of (first_chunks 512 (length bytes / 512) bytes))) ((FlatFits bytes old → ⊥) × (new ≡ old))
