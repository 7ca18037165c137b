-- The conversions undo each other. Assumes nothing.
use Rattle.std.proofs.Common.{◌≡◌, ℕ, ◌+◌, ◌-◌, ◌*◌, ◌/◌, ◌%◌, ◌<◌, ◌≤◌, false, eqb, Some, ap, ◌∙◌, ⊎_elim, mul-le-mul_right, mul_comm, arith}
use Rattle.std.proofs.lemmas.Bool.{lt-ltb, eqb-false, cases_Bool}
use Rattle.std.proofs.lemmas.Nat.{div-mul-add, mod-mul-add, div_below, mod_below, div-add-mod'}
use Rattle.geometry.specs.Layouts.{Arrangement, Lawful, position_at}
use Rattle.geometry.specs.Places.{stripe_of, position_of, block_number, data_blocks, located, numbered, data_address, content_at}
use Rattle.geometry.specs.declared.place.Location.{Location}
use Rattle.block_address.specs.declared.Address.{Address}
use Rattle.geometry.specs.declared.place.Content.TheVariants.{Data}

module _ (m n : ℕ) (h : 3 ≤ m) where
  -- a block of the data lies in a stripe of the array, at one of its positions
  pub stripe_below : (k : ℕ) → k < data_blocks m n → stripe_of m k < n
  stripe_below k l =
      let w : 0 < m - 1 = omega arith in
      let e : (m - 1) * n ≡ n * (m - 1) = mul_comm (m - 1) n in
      div_below k (m - 1) n w (omega arith)

  pub position_below : (k : ℕ) → position_of m k < m - 1
  position_below k = mod_below k (m - 1) (omega arith)

  -- and a place in the array has a number below the count of blocks
  pub number_below : (s j : ℕ) → s < n → j < m - 1 → block_number m s j < data_blocks m n
  number_below s j l k =
      let e : (m - 1) * n ≡ n * (m - 1) = mul_comm (m - 1) n in
      let f : (s + 1) * (m - 1) ≤ n * (m - 1) = mul-le-mul_right (m - 1) (omega arith) in
      let g : (s + 1) * (m - 1) ≡ s * (m - 1) + (m - 1) = omega arith in
      omega arith

  -- what locate returns, with w positions a stripe
  pub locates : (k w : ℕ) → w ≡ m - 1 → k < data_blocks m n → (Some (record { stripe = k / w; position = k % w }) ≡ located m n k) × (numbered m n (record { stripe = k / w; position = k % w }) ≡ Some k)
  locates k w p l =
      let a = lt-ltb k (data_blocks m n) l in
      let b = lt-ltb (stripe_of m k) n (stripe_below k l) in
      let d = lt-ltb (position_of m k) (m - 1) (position_below k) in
      let e : block_number m (stripe_of m k) (position_of m k) ≡ k = div-add-mod' k (m - 1) in
      (rw (p, a), rw (p, b, d, e))

  -- what block_number returns
  pub numbers : (at : Location) (w : ℕ) → w ≡ m - 1 → at.stripe < n → at.position < w → (Some (at.stripe * w + at.position) ≡ numbered m n at) × (located m n (at.stripe * w + at.position) ≡ Some at)
  numbers at w p l k =
      let j : at.position < m - 1 = omega arith in
      let a = lt-ltb (block_number m at.stripe at.position) (data_blocks m n) (number_below at.stripe at.position l j) in
      let e = div-mul-add at.stripe (m - 1) at.position j in
      let f = mod-mul-add at.stripe (m - 1) at.position j in
      let b = lt-ltb at.stripe n l in
      let d = lt-ltb at.position (m - 1) j in
      (rw (p, b, d), rw (p, a, e, f))

  -- a member that has a position does not hold the parity
  pub has_position : (a : Arrangement) (t p : ℕ) → t < m → position_at m a t ≡ Some p → (eqb t a.parity ≡ false) × (p ≡ a.position t)
  has_position a t p l e =
      let b = lt-ltb t m l in
      ⊎_elim
      (λ q. let z : ◌≡◌ {A = ℕ} 0 1 = cc in absurd (omega arith))
      (λ q. (q, cc))
      (cases_Bool (eqb t a.parity))

  -- what content returns for data
  pub contents : (arrange : ℕ → ℕ → Arrangement) (at : Address) (w p : ℕ) → Lawful m (arrange m at.block) → w ≡ m - 1 → at.member < m → at.block < n → position_at m (arrange m at.block) at.member ≡ Some p
      → (p < m - 1) × (Some (Data (at.block * w + p)) ≡ content_at arrange m n at) × (data_address arrange m n (at.block * w + p) ≡ Some at)
  contents arrange at w p laws v l k e =
      let a = arrange m at.block in
      let q = has_position a at.member p l e in
      let ne = eqb-false at.member a.parity q.0 in
      let below : p < m - 1 = omega (arith, laws.position_below at.member l ne) in
      let b = lt-ltb at.member m l in
      let d = lt-ltb at.block n k in
      let f = lt-ltb (block_number m at.block p) (data_blocks m n) (number_below at.block p k below) in
      let s = div-mul-add at.block (m - 1) p below in
      let j = mod-mul-add at.block (m - 1) p below in
      let back : a.member p ≡ at.member = ap a.member q.1 ∙ laws.member_of_position at.member l ne in
      (below, rw (v, b, d, q.0, q.1), rw (v, f, s, j, back))
