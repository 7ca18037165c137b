-- Blocks and stripes in what a store holds now, and counts of named stripes.
use Rattle.std.proofs.Common.{◌≡◌, ℕ, ◌+◌, ◌<◌, zero, suc, Bool, true, false, cond, List, length, Some, None, sym, refl, ap, ◌∙◌, subst, add-one, arith}
use Rattle.std.proofs.lemmas.Bool.{false≢true}
use Rattle.std.proofs.lemmas.List.FromFn.{sum_by-map-range_with_len_more}
use Rattle.std.proofs.lemmas.List.Sums.{length-filter}
use Rattle.std.proofs.lemmas.List.{map-id}
use Rattle.std.specs.List.{filter, sum_by, count_by, range_with_len}
use Rattle.geometry.specs.Layouts.{Arrangement, Lawful}
use Rattle.stripe_work.specs.Stripe.{stripe_at, InStore}
use Rattle.simulate.specs.Counts.{named_below}
use Rattle.member_store.specs.Meaning.{Meaning, HasBlock, current}
use Rattle.write_buffer.specs.Replay.{holds, buffered}
use Rattle.write_buffer.specs.declared.held.HeldStore.{HeldStore}
use Rattle.write_buffer.proofs.Newest.{current_below}

-- under a write buffer that holds no store to a block
pub under : (hs : List HeldStore) (s : Meaning) (m b : ℕ) (x : List ℕ) → holds hs m b ≡ false → (HasBlock s m b → x ≡ current s m b) → HasBlock s m b → x ≡ current (buffered hs s) m b
under hs s m b x e h k = h k ∙ sym (current_below hs s m b e)

module _ (s : Meaning) (a b m n : ℕ) (p : a ≡ m) (q : b ≡ n) (has : HasBlock s m n) where
  pub has_place : HasBlock s a b
  has_place =
      let P : ℕ → Type 0 = λ i. i < s.members in
      let Q : ℕ → Type 0 = λ i. i < s.blocks in
      (subst P (sym p) has.0, subst Q (sym q) has.1)

  -- at the place that an address was found to be
  pub at_place : (x : List ℕ) → (HasBlock s a b → x ≡ current s a b) → x ≡ current s m n
  at_place x h = h has_place ∙ ap (λ (i : ℕ). current s i b) p ∙ ap (λ (i : ℕ). current s m i) q

-- the members have every block of a stripe
pub in_store : (arrange : ℕ → ℕ → Arrangement) (m k : ℕ) (s : Meaning) → Lawful m (arrange m k) → m ≡ s.members → k < s.blocks → InStore (stripe_at arrange m k) s
in_store arrange m k s lawful e l =
    let P : ℕ → ℕ → Type 0 = λ t n. t < n in
    record {
      parity = (subst (P (arrange m k).parity) e lawful.parity_below, l);
      member = λ j h. (subst (P ((arrange m k).member j)) e (lawful.member_below j h), l);
    }

module _ (names : ℕ → Bool) where
  below : (n : ℕ) → count_by names (range_with_len 0 n) ≡ named_below names n
  below zero = refl
  below (suc k) =
      let test : ℕ → ℕ = λ x. cond (names x) 1 0 in
      let from_zero : 0 + k ≡ k = omega arith in
      sym (ap (λ n. sum_by test (range_with_len 0 n)) (add-one k))
      ∙ ap (sum_by test) (sym (map-id (range_with_len 0 (k + 1))))
      ∙ sum_by-map-range_with_len_more test (λ (x : ℕ). x) 0 k k from_zero
      ∙ ap (λ xs. sum_by test xs + test k) (map-id (range_with_len 0 k))
      ∙ ap (λ (i : ℕ). i + test k) (below k)

  -- how many of the first numbers pass the test
  pub named : (n : ℕ) → length (filter names (range_with_len 0 n)) ≡ named_below names n
  named n = length-filter names (range_with_len 0 n) ∙ below n

-- the answer by power and record
pub found : (on stands : Bool) (x k : ℕ) → cond on stands false ≡ true → (on ≡ true → k ≡ x) → Some k ≡ cond on (cond stands (Some x) None) None
found true true x k e h = ap Some (h refl)
found true false x k e h = absurd (false≢true e)
found false stands x k e h = absurd (false≢true e)

pub not_found : (on stands : Bool) (x : ℕ) → cond on stands false ≡ false → None ≡ cond on (cond stands (Some x) None) None
not_found true true x e = absurd (false≢true (sym e))
not_found true false x e = refl
not_found false stands x e = refl
