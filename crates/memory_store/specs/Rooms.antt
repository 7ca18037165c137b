-- A place lies within its row of bytes.
use Rattle.std.specs.Prelude.{◌≡◌, ℕ, ◌+◌, ◌*◌, ◌/◌, ◌<◌, ◌≤◌, Bool, true, false, nat_le, refl}
use Rattle.std.proofs.Common.{arith, mul_comm, ⊎_elim}
use Rattle.std.proofs.lemmas.Bool.{cases_lt, leb-true, leb-false}
use Rattle.std.proofs.lemmas.Nat.{mul-add-lt, le-div, div-add-mod', mul-le}
use Rattle.memory_store.specs.Row.{offset, Fits}
use Rattle.memory_store.specs.Memory.{Tells}

pub within : (members blocks m b n : ℕ) → m < members → b < blocks → members * blocks * 512 ≤ n → offset blocks m b + 512 ≤ n
within members blocks m b n h k room = omega (arith, mul-add-lt m blocks b members h k, mul_comm members blocks)

pub too_few : (members blocks n : ℕ) → 0 < blocks → n / 512 / blocks < members → n < members * blocks * 512
too_few members blocks n some h =
    ⊎_elim (λ l. omega (arith, div-add-mod' n 512)) (λ l. omega (arith, le-div members (n / 512) blocks some l))
    (cases_lt (n / 512) (members * blocks))

pub enough : (members blocks n : ℕ) → members ≤ n / 512 / blocks → members * blocks * 512 ≤ n
enough members blocks n h =
    omega (arith, div-add-mod' n 512, div-add-mod' (n / 512) blocks, mul-le members blocks (n / 512 / blocks) blocks h (omega arith))

tells_from : (b : Bool) (P : Type 0) → (b ≡ true → P) → (b ≡ false → P → ⊥) → Tells b P
tells_from true P f g = f refl
tells_from false P f g = g refl

pub tells_fits : (members blocks n : ℕ) → 0 < members → 0 < blocks → Tells (nat_le members (n / 512 / blocks)) (Fits members blocks n)
tells_fits members blocks n some few =
    tells_from (nat_le members (n / 512 / blocks)) (Fits members blocks n)
    (λ e. (omega arith, omega arith, enough members blocks n (leb-true members (n / 512 / blocks) e)))
    (λ e fits. let l = too_few members blocks n few (leb-false members (n / 512 / blocks) e) in omega (arith, l, fits.2))
