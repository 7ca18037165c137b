-- Slots lie in places, different ones in different places.
use Rattle.std.specs.Prelude.{◌≡◌, ℕ, ◌+◌, ◌*◌, ◌/◌, ◌%◌, ◌<◌, ◌≤◌, ◌≢◌}
use Rattle.std.proofs.Common.{sym, ap, ◌∙◌, arith, mod-lt, mul_comm}
use Rattle.std.proofs.Math.Nat.{div-add-mod, min-le_right}
use Rattle.std.proofs.lemmas.Nat.{div_below}
use Rattle.ring_log.specs.Slots.{slots}

pub place : (m b i : ℕ) → 1 ≤ m → i < slots m b → (i % m < m) × (i / m < b)
place m b i l h =
    let p : i < m * b = omega (arith, min-le_right 64 (m * b)) in
    (mod-lt i (omega arith), div_below i m b (omega arith) (rw (mul_comm b m) p))

pub apart : (m i k : ℕ) → (i ≢ k) → (i % m ≡ k % m) × (i / m ≡ k / m) → ⊥
apart m i k d e = d (sym (div-add-mod i m) ∙ ap (λ q. m * q + i % m) e.1 ∙ ap (λ q. m * (k / m) + q) e.0 ∙ div-add-mod k m)
