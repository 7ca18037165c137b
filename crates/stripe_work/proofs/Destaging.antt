-- A destage, put together, and what it leaves. Assumes nothing.
use Rattle.std.proofs.Common.{◌≡◌, ℕ, zero, suc, ◌-◌, ◌<◌, ◌≤◌, List, [], ◌∷◌, ◌++◌, Result, sym, ap, ◌∙◌, subst, arith}
use native.Mathlib.Decide.{ℕ_discrete}
use Rattle.std.proofs.lemmas.Result.{MatchResult-weaker}
use Rattle.geometry.specs.Layouts.{Arrangement}
use Rattle.parity.specs.Xor.{parity_of}
use Rattle.member_store.specs.Meaning.{Meaning, HasBlock}
use Rattle.member_store.specs.declared.refusal.Refusal.{Refusal}
use Rattle.device_calls.specs.Lists.{DeviceCall, read, store, Completed, Stopped, Performs, for_each}
use Rattle.device_calls.specs.Effects.{Every, InRange, Spares, Reading, Gains, CutShort}
use Rattle.device_calls.proofs.Append.{for_each_same, completed_then, completed_split, stopped_first, stopped_then, performs_then}
use Rattle.device_calls.proofs.Properties.{every_then, every_first, every_second, every_turn}
use Rattle.device_calls.proofs.Left.{still_has, completed_counts, completed_range, completed_spares, completed_gains, completed_reading, cut_short, cut_weaker}
use Rattle.stripe_work.specs.Stripe.{Stripe, stripe_at, data_at, parity_at, InStore}
use Rattle.stripe_work.specs.Work.{CachedBlocks, or_else, merged, merged_data, uncached_read, cached_store, data_reads, data_stores, parity_store, destage_calls}
use Rattle.stripe_work.specs.Answers.{stripe_check, Answers, Unfinished}
use Rattle.stripe_work.specs.Outcomes.{Destaged, OthersSpared}
use Rattle.stripe_work.specs.Promises.{Destages}
use Rattle.stripe_work.specs.declared.refusal.StripeRefusal.{StripeRefusal}
use Rattle.stripe_work.proofs.Rows.{listed_same}
use Rattle.stripe_work.proofs.Turns.{moved}
use Rattle.stripe_work.proofs.Parts.{Distinct, cached_spares, either_in_range, stored_here, reads_every, stores_every, others_spared}

module _ (w : Stripe) (c : CachedBlocks) (s : Meaning) where
  abbrev sum : List ℕ
  sum = parity_of (merged_data w c s)

  pub destage_stops_reading : (e : Refusal) (t : Meaning) → Stopped (data_reads w c) s e t → Stopped (destage_calls w c s) s e t
  destage_stops_reading e t h = stopped_first (data_reads w c ++ data_stores w c) (parity_store w sum) s e t (stopped_first (data_reads w c) (data_stores w c) s e t h)

  pub destage_stops_storing : (u : Meaning) (e : Refusal) (t : Meaning) → Completed (data_reads w c) s u → Stopped (data_stores w c) u e t → Stopped (destage_calls w c s) s e t
  destage_stops_storing u e t d h = stopped_first (data_reads w c ++ data_stores w c) (parity_store w sum) s e t (stopped_then (data_reads w c) (data_stores w c) s u e t d h)

  -- the parity is stored at an address that was found, and as it was worked out
  pub destage_ends : {U : Type 0} (a b : ℕ) (x : List ℕ) (u v t : Meaning) (r : Result U Refusal) → Completed (data_reads w c) s u → Completed (data_stores w c) u v
      → a ≡ w.parity → b ≡ w.block → x ≡ sum → Performs (store a b x ∷ []) v r t → Performs (destage_calls w c s) s r t
  destage_ends a b x u v t r d k p q e h =
      performs_then (data_reads w c ++ data_stores w c) (parity_store w sum) s v t r
      (completed_then (data_reads w c) (data_stores w c) s u v d k)
      (subst (λ y. Performs (store w.parity w.block y ∷ []) v r t) e (moved (λ os. Performs os v r t) (λ m n. store m n x) a b w.parity w.block p q h))

  destage_every : (P : DeviceCall → Type 0) → ((j : ℕ) → j < w.positions → P (read (w.member j) w.block)) → ((j : ℕ) (x : List ℕ) → j < w.positions → P (store (w.member j) w.block x)) → ((x : List ℕ) → P (store w.parity w.block x)) → Every P (destage_calls w c s)
  destage_every P h k l =
      every_then P (data_reads w c ++ data_stores w c) (parity_store w sum)
      (every_then P (data_reads w c) (data_stores w c) (reads_every P w c h) (stores_every P w c k))
      (l sum, tt)

  destage_in_range : InStore w s → Every (InRange s) (destage_calls w c s)
  destage_in_range h = destage_every (InRange s) h.member (λ j x l. h.member j l) (λ x. h.parity)

  destage_spares : (m b : ℕ) → (b ≡ w.block → ⊥) → Every (Spares m b) (destage_calls w c s)
  destage_spares m b ne = destage_every (Spares m b) (λ j l. tt) (λ j x l q. ne q.1) (λ x q. ne q.1)

  -- the store has the blocks of a destage that was completed
  in_store : (t : Meaning) → Completed (destage_calls w c s) s t → InStore w s
  in_store t d =
      let all = completed_range (destage_calls w c s) s t d in
      let both = every_first (InRange s) (data_reads w c ++ data_stores w c) (parity_store w sum) all in
      record {
        parity = (every_second (InRange s) (data_reads w c ++ data_stores w c) (parity_store w sum) all).0;
        member = λ j l. either_in_range s (c j) (w.member j) w.block
            (every_turn (InRange s) (λ i. uncached_read (c i) (w.member i) w.block) w.positions j l (every_first (InRange s) (data_reads w c) (data_stores w c) both))
            (every_turn (InRange s) (λ i. cached_store (c i) (w.member i) w.block) w.positions j l (every_second (InRange s) (data_reads w c) (data_stores w c) both));
      }

below_or : (P : ℕ → Type 0) (n : ℕ) → ((k : ℕ) → k < n → P k) → P n → (k : ℕ) → k < suc n → P k
below_or P n f p k l = at_last (ℕ_discrete k n)
  where
    at_last : Dec (k ≡ n) → P k
    at_last (yes e) = subst P (sym e) p
    at_last (no e) = f k (omega arith)

module _ (w : Stripe) (apart : Distinct w) (c : CachedBlocks) where
  abbrev stores : ℕ → List DeviceCall
  stores j = cached_store (c j) (w.member j) w.block

  -- the store of one position leaves the others
  beside : (n k : ℕ) (u t : Meaning) → n < w.positions → k < w.positions → (k ≡ n → ⊥) → HasBlock u (w.member k) w.block → Completed (stores n) u t → data_at w t k ≡ data_at w u k
  beside n k u t l h ne p d = completed_spares (stores n) u t (w.member k) w.block p (cached_spares (c n) (w.member n) w.block (w.member k) w.block (λ q. ne (apart.differ k n h l q.0))) d

  -- the stores of the positions below n
  stored_below : (n : ℕ) (s t : Meaning) → n ≤ w.positions → ((j : ℕ) → j < w.positions → HasBlock s (w.member j) w.block) → Completed (for_each stores n) s t
      → ((k : ℕ) → k < n → data_at w t k ≡ merged w c s k) × ((k : ℕ) → n ≤ k → k < w.positions → data_at w t k ≡ data_at w s k)
  stored_below zero s t l p d = ((λ k h. absurd (omega arith)), λ k h i. ap (λ u. data_at w u k) d)
  stored_below (suc n) s t l p d =
      let r = completed_split (for_each stores n) (stores n) s t d in
      let ih = stored_below n s r.0 (omega arith) p r.1 in
      let z = completed_counts (for_each stores n) s r.0 r.1 in (
        below_or (λ k. data_at w t k ≡ merged w c s k) n
            (λ k h. beside n k r.0 t (omega arith) (omega arith) (λ e. omega arith) (still_has s r.0 (w.member k) w.block z (p k (omega arith))) r.2 ∙ ih.0 k h)
            (stored_here (c n) (w.member n) w.block (data_at w s n) r.0 t (ih.1 n (omega arith) (omega arith)) r.2),
        λ k h i. beside n k r.0 t (omega arith) i (λ e. omega arith) (still_has s r.0 (w.member k) w.block z (p k i)) r.2 ∙ ih.1 k (omega arith) i,
      )

  pub destaged : (s t : Meaning) → Completed (destage_calls w c s) s t → Destaged w c s t
  destaged s t d =
      let last = parity_store w (parity_of (merged_data w c s)) in
      let have = in_store w c s t d in
      let a = completed_split (data_reads w c ++ data_stores w c) last s t d in
      let b = completed_split (data_reads w c) (data_stores w c) s a.0 a.1 in
      let e : b.0 ≡ s = completed_reading (data_reads w c) s b.0 (reads_every Reading w c (λ j l. tt)) b.1 in
      let k = stored_below w.positions s a.0 (omega arith) have.member (subst (λ u. Completed (data_stores w c) u a.0) e b.2) in
      let z = completed_counts (data_reads w c ++ data_stores w c) s a.0 a.1 in
      let merges : (j : ℕ) → j < w.positions → data_at w t j ≡ merged w c s j = (λ j l. completed_spares last a.0 t (w.member j) w.block (still_has s a.0 (w.member j) w.block z (have.member j l)) ((λ q. apart.apart j l q.0), tt) a.2 ∙ k.0 j l) in
      record {
        on = ap (λ u. u.on) a.2.2 ∙ a.2.1.1.on;
        counts = completed_counts (destage_calls w c s) s t d;
        right = ap (parity_at w) a.2.2 ∙ a.2.1.1.here ∙ ap parity_of (sym (listed_same (data_at w t) (merged w c s) w.positions merges));
        merges = merges;
        elsewhere = λ m n p ne. completed_spares (destage_calls w c s) s t m n p (destage_spares w c s m n ne) d;
        gains = completed_gains (destage_calls w c s) s t d;
      }

module _ (w : Stripe) (c : CachedBlocks) (s : Meaning) where
  pub destage_cut : (e : Refusal) (t : Meaning) → Stopped (destage_calls w c s) s e t → CutShort (InStore w s) (destage_calls w c s) s e t
  destage_cut e t d = cut_weaker (Every (InRange s) (destage_calls w c s)) (InStore w s) (destage_calls w c s) (destage_calls w c s) s e t (destage_in_range w c s) (λ m b v k. k) (cut_short (destage_calls w c s) s e t d)

  pub destage_others : (t : Meaning) → Completed (destage_calls w c s) s t → OthersSpared w s t
  destage_others t d = others_spared w (destage_calls w c s) s t (destage_spares w c s) (completed_gains (destage_calls w c s) s t d)

  pub destage_cut_others : (e : Refusal) (t : Meaning) → Stopped (destage_calls w c s) s e t → OthersSpared w s t
  destage_cut_others e t d = others_spared w (destage_calls w c s) s t (destage_spares w c s) (cut_short (destage_calls w c s) s e t d).gains

-- cached blocks that are the same at the stripe's positions

module _ (w : Stripe) (c k : CachedBlocks) (same : (j : ℕ) → j < w.positions → c j ≡ k j) where
  same_merged : (s : Meaning) (j : ℕ) → j < w.positions → merged w c s j ≡ merged w k s j
  same_merged s j l = ap (λ o. or_else o (data_at w s j)) (same j l)

  same_calls : (s : Meaning) → destage_calls w c s ≡ destage_calls w k s
  same_calls s =
      ap (λ os. os ++ data_stores w c ++ parity_store w (parity_of (merged_data w c s)))
      (for_each_same (λ j. uncached_read (c j) (w.member j) w.block) (λ j. uncached_read (k j) (w.member j) w.block) w.positions (λ j l. ap (λ o. uncached_read o (w.member j) w.block) (same j l)))
      ∙ ap (λ os. data_reads w k ++ os ++ parity_store w (parity_of (merged_data w c s)))
      (for_each_same (λ j. cached_store (c j) (w.member j) w.block) (λ j. cached_store (k j) (w.member j) w.block) w.positions (λ j l. ap (λ o. cached_store o (w.member j) w.block) (same j l)))
      ∙ ap (λ xs. data_reads w k ++ data_stores w k ++ parity_store w (parity_of xs)) (listed_same (merged w c s) (merged w k s) w.positions (same_merged s))

  same_destaged : (s t : Meaning) → Destaged w c s t → Destaged w k s t
  same_destaged s t d = record {
    on = d.on;
    counts = d.counts;
    right = d.right;
    merges = λ j l. d.merges j l ∙ same_merged s j l;
    elsewhere = d.elsewhere;
    gains = subst (λ os. Gains os s t) (same_calls s) d.gains;
  }

pub destages_same : {U : Type 0} (arrange : ℕ → ℕ → Arrangement) (m n i : ℕ) (c k : CachedBlocks) (s : Meaning) (r : Result U StripeRefusal) (t : Meaning)
    → ((j : ℕ) → j < m - 1 → c j ≡ k j) → Destages arrange m n i c s r t → Destages arrange m n i k s r t
destages_same arrange m n i c k s r t same d =
    let w = stripe_at arrange m i in
    let e = same_calls w c k same s in
    record {
      calls = subst (λ os. Answers (stripe_check n i) os s r t) e d.calls;
      leaves = MatchResult-weaker r d.leaves (λ u h. same_destaged w c k same s t h) (λ f h. subst (λ os. Unfinished (InStore w s) os s f t) e h);
      elsewhere = d.elsewhere;
    }
