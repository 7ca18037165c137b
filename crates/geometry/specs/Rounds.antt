-- Data that continues round the members: the way out and the way back undo each other. Assumes nothing.
use Rattle.std.specs.Prelude.{◌≡◌, ℕ, ◌+◌, ◌-◌, ◌%◌, ◌<◌, ◌≤◌, ◌⊎◌, ◌≢◌}
use Rattle.std.proofs.Common.{ap, ◌∙◌, sym, ⊎_elim, inl, inr, mod-eq_of_lt, mod-lt, arith}
use Rattle.std.proofs.Math.Nat.{mod-eq-sub-mod}
use Rattle.std.proofs.lemmas.Bool.{cases_lt}
use Rattle.geometry.specs.Layouts.{falling, continued, continued_back, left_symmetric, Lawful}

-- less than twice round: at most one turn is taken off
round : (a m : ℕ) → a < m + m → ((a < m) × (a % m ≡ a)) ⊎ ((m ≤ a) × (a % m ≡ a - m))
round a m h =
    ⊎_elim
    (λ l. inl (l, mod-eq_of_lt l))
    (λ l. let k : a - m < m = omega arith in inr (l, mod-eq-sub-mod l ∙ mod-eq_of_lt k))
    (cases_lt a m)

falling_lt : (m s : ℕ) → 3 ≤ m → falling m s < m
falling_lt m s h = omega arith

out_lt : (m p j : ℕ) → 3 ≤ m → continued m p j < m
out_lt m p j h = let z : 0 < m = omega arith in mod-lt (p + 1 + j) z

out_apart : (m p j : ℕ) → 3 ≤ m → p < m → j < m - 1 → continued m p j ≢ p
out_apart m p j h k l e = ⊎_elim (λ r. omega arith) (λ r. omega arith) (round (p + 1 + j) m (omega arith))

out_back : (m p j : ℕ) → 3 ≤ m → p < m → j < m - 1 → continued_back m p (continued m p j) ≡ j
out_back m p j h k l =
    ⊎_elim
    (λ r. ⊎_elim (λ q. omega arith) (λ q. omega arith) (round (continued m p j + (m - 1 - p)) m (omega arith)))
    (λ r. ⊎_elim (λ q. omega arith) (λ q. omega arith) (round (continued m p j + (m - 1 - p)) m (omega arith)))
    (round (p + 1 + j) m (omega arith))

back_lt : (m p t : ℕ) → 3 ≤ m → p < m → t < m → (t ≢ p) → continued_back m p t < m - 1
back_lt m p t h k l ne = ⊎_elim (λ r. omega arith) (λ r. omega arith) (round (t + (m - 1 - p)) m (omega arith))

back_out : (m p t : ℕ) → 3 ≤ m → p < m → t < m → (t ≢ p) → continued m p (continued_back m p t) ≡ t
back_out m p t h k l ne =
    ⊎_elim
    (λ r. ⊎_elim (λ q. omega arith) (λ q. omega arith) (round (p + 1 + continued_back m p t) m (omega arith)))
    (λ r. ⊎_elim (λ q. omega arith) (λ q. omega arith) (round (p + 1 + continued_back m p t) m (omega arith)))
    (round (t + (m - 1 - p)) m (omega arith))

pub left_symmetric_lawful : (m s : ℕ) → 3 ≤ m → m ≤ 8 → Lawful m (left_symmetric m s)
left_symmetric_lawful m s h _ =
    let p = falling_lt m s h in
    record {
      parity_below = p;
      member_below = λ j l. out_lt m (falling m s) j h;
      apart = λ j l. out_apart m (falling m s) j h p l;
      differ = λ i j k l e. sym (out_back m (falling m s) i h p k) ∙ ap (continued_back m (falling m s)) e ∙ out_back m (falling m s) j h p l;
      position_of_member = λ j l. out_back m (falling m s) j h p l;
      position_below = λ t l ne. back_lt m (falling m s) t h p l ne;
      member_of_position = λ t l ne. back_out m (falling m s) t h p l ne;
    }
