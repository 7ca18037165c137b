-- What a write of one block leaves of a row of blocks.
use Rattle.std.proofs.Common.{◌≡◌, ℕ, ◌+◌, ◌*◌, ◌/◌, ◌%◌, ◌<◌, ◌≤◌, ◌⊎◌, List, ◌++◌, length, take, drop, sym, refl, ap, ◌∙◌, inl, inr, ⊎_elim, arith, length-append, length-drop, length-take}
use borrow.Rule.Slice.PartMut.{put_mid}
use Rattle.std.proofs.lemmas.Nat.{div-mul-add, mod-mul-add}
use Rattle.std.proofs.lemmas.List.{drop-take, drop_at, take_at, length-take-le}
use Rattle.std.proofs.lemmas.Slice.{drop-put_mid, take-put_mid_below}
use Rattle.std.proofs.lemmas.Bool.{cases_eq, cases_order}
use Rattle.member_store.specs.Calls.{Stored}
use Rattle.memory_store.specs.Row.{offset, block_at, laid}
use Rattle.memory_store.specs.Rooms.{within}

-- Two places that differ have different numbers.
pub apart : (blocks i j m b : ℕ) → j < blocks → b < blocks → ((i ≡ m) × (j ≡ b) → ⊥) → i * blocks + j ≡ m * blocks + b → ⊥
apart blocks i j m b h k differ e =
    differ
    (sym (div-mul-add i blocks j h) ∙ ap (λ n. n / blocks) e ∙ div-mul-add m blocks b k, sym (mod-mul-add i blocks j h) ∙ ap (λ n. n % blocks) e ∙ mod-mul-add m blocks b k)

-- A part that ends before the written one, or begins after it, is as it was.
before : (xs x : List ℕ) (a o : ℕ) → a + 512 ≤ length xs → length x ≡ 512 → o + 512 ≤ a → take 512 (drop o (put_mid a 512 xs x)) ≡ take 512 (drop o xs)
before xs x a o room long h = sym (drop-take o 512 (put_mid a 512 xs x)) ∙ ap (drop o) (take-put_mid_below a 512 xs x (o + 512) h (omega arith)) ∙ drop-take o 512 xs

after : (xs x : List ℕ) (a o : ℕ) → a + 512 ≤ length xs → length x ≡ 512 → a + 512 ≤ o → take 512 (drop o (put_mid a 512 xs x)) ≡ take 512 (drop o xs)
after xs x a o room long h = ap (take 512) (drop-put_mid a 512 xs x o h (omega arith) long)

module _ (members blocks m b : ℕ) (xs x : List ℕ) (at : (m < members) × (b < blocks)) (room : members * blocks * 512 ≤ length xs) (long : length x ≡ 512) where
  ends : offset blocks m b + 512 ≤ length xs
  ends = within members blocks m b (length xs) at.0 at.1 room

  other : (i j : ℕ) → (i < members) × (j < blocks) → ((i ≡ m) × (j ≡ b) → ⊥) → block_at (put_mid (offset blocks m b) 512 xs x) blocks i j ≡ block_at xs blocks i j
  other i j h differ =
      ⊎_elim (λ e. absurd (apart blocks i j m b h.1 at.1 differ e))
      (⊎_elim (λ l. before xs x (offset blocks m b) (offset blocks i j) ends long (omega arith)) (λ l. after xs x (offset blocks m b) (offset blocks i j) ends long (omega arith)))
      (cases_order (i * blocks + j) (m * blocks + b))

  same : (i j : ℕ) → ((i ≡ m) × (j ≡ b)) ⊎ ((i ≡ m) × (j ≡ b) → ⊥)
  same i j = ⊎_elim (λ e. ⊎_elim (λ f. inl (e, f)) (λ f. inr (λ p. f p.1)) (cases_eq j b)) (λ e. inr (λ p. e p.0)) (cases_eq i m)

  mine : block_at (put_mid (offset blocks m b) 512 xs x) blocks m b ≡ x
  mine =
      let a = offset blocks m b in
      ap (take 512) (drop_at (take a xs) (x ++ drop 512 (drop a xs)) a (length-take-le a xs (let e = ends in omega arith))) ∙ take_at x (drop 512 (drop a xs)) 512 long

  pub stored : (ys : List ℕ) → ys ≡ put_mid (offset blocks m b) 512 xs x → Stored (laid members blocks xs) m b x (laid members blocks ys)
  stored ys e = record {
    on = refl;
    sized = record { members = refl; blocks = refl };
    here = ap (λ zs. block_at zs blocks m b) e ∙ mine;
    elsewhere = λ i j h differ. ap (λ zs. block_at zs blocks i j) e ∙ other i j h differ;
    former = λ i j v h k.
        ⊎_elim
        (λ f. ⊎_elim (λ g. inr (g.0, g.1, f ∙ ap (λ zs. block_at zs blocks i j) e ∙ ap (λ n. block_at (put_mid (offset blocks m b) 512 xs x) blocks n j) g.0 ∙ ap (λ n. block_at (put_mid (offset blocks m b) 512 xs x) blocks m n) g.1 ∙ mine)) (λ g. inl (inl (f ∙ ap (λ zs. block_at zs blocks i j) e ∙ other i j h g))) (same i j))
        (λ f. absurd f)
        k;
  }

  pub length_written : length (put_mid (offset blocks m b) 512 xs x) ≡ length xs
  length_written =
      let e = ends in
      simp (length-append, length-take, length-drop) (omega arith)
