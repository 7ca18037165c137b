-- The blocks of a stripe, by position. Assumes nothing.
use Rattle.std.proofs.Common.{◌≡◌, ℕ, zero, suc, ◌+◌, ◌-◌, ◌<◌, ◌≤◌, cond, ltb, List, length, get_or, Some, None, Option, sym, ap, ◌∙◌, subst, ⊎_elim, arith}
use native.Mathlib.Decide.{ℕ_discrete}
use denote.Param.Members.{Mut}
use Rattle.std.specs.Fn.{Called}
use Rattle.std.specs.Array.{IsFromFnResultFrom}
use Rattle.std.proofs.lemmas.List.{get_or_past}
use Rattle.std.proofs.lemmas.Bool.{le-ltb, cases_lt}
use Rattle.geometry.specs.Places.{block_number}
use Rattle.cache.specs.Contents.{Blocks}
use Rattle.cache.specs.Stripes.{looked_up, by_position}
use Rattle.cache.proofs.Places.{cond_none}

-- no stripe has more positions than 7
no_position : (m n : ℕ) (f : Blocks) (s j : ℕ) → m - 1 ≤ j → by_position m n f s j ≡ None
no_position m n f s j l = ap (looked_up f) (ap (λ q. cond (ltb s n) (cond q (Some (block_number m s j)) None) None) (le-ltb j (m - 1) l) ∙ cond_none (ltb s n))

pub all_positions : (m n : ℕ) (f : Blocks) (s : ℕ) (ys : List (Option (List ℕ))) → m ≤ 8 → length ys ≡ 7 → ((j : ℕ) → j < 7 → get_or ys j None ≡ by_position m n f s j) → (j : ℕ) → get_or ys j None ≡ by_position m n f s j
all_positions m n f s ys h w c j = ⊎_elim (λ l. c j l) (λ l. get_or_past ys j None (omega arith) ∙ sym (no_position m n f s j (omega arith))) (cases_lt j 7)

-- an array made by a function of the index
pub made_at : {F B : Type 0} (g : Mut F (ℕ × Unit {0}) B) (h : ℕ → B) (f : F) → ((x : ℕ) (y : B) (q : F) → Called g f (x, tt) y q → (q ≡ f) × (y ≡ h x)) → (ys : List B) (n i : ℕ) → IsFromFnResultFrom g f ys i n → (j : ℕ) (d : B) → i ≤ j → j < i + n → get_or ys j d ≡ h j
made_at g h f pure ys zero i z j d a b = absurd (omega arith)
made_at {F} {B} g h f pure ys (suc n) i z j d a b = go (ℕ_discrete j i) (λ c e. made_at g h f pure ys n (i + 1) (subst (λ (p : F). IsFromFnResultFrom g p ys (i + 1) n) (pure i z.1 z.0 z.3).0 z.4) j d c e)
  where
    go : Dec (j ≡ i) → (i + 1 ≤ j → j < i + 1 + n → get_or ys j d ≡ h j) → get_or ys j d ≡ h j
    go (yes e) more = ap (λ (k : ℕ). get_or ys k d) e ∙ z.2.1 d ∙ (pure i z.1 z.0 z.3).1 ∙ ap h (sym e)
    go (no e) more = more (omega arith) (omega arith)
