-- What the lists of device calls and the changes of a log leave. Assumes nothing.
use Rattle.std.proofs.Common.{◌≡◌, ℕ, zero, suc, ◌+◌, ◌<◌, ◌≤◌, Bool, true, false, cond, ◌⊎◌, List, [], ◌∷◌, ◌++◌, map, length, Some, None, Option, sym, refl, ap, ◌∙◌, subst, inl, inr, arith}
use native.Mathlib.Decide.{ℕ_discrete}
use Rattle.std.specs.List.{range_with_len}
use Rattle.std.proofs.lemmas.List.{length-replicate}
use Rattle.parity.specs.Xor.{zeros, parity_of, Whole}
use Rattle.parity.proofs.Others.{parity_length}
use Rattle.member_store.specs.Meaning as store
use Rattle.member_store.specs.Meaning.{current, Version, HasBlock}
use Rattle.member_store.specs.Calls.{Barred}
use Rattle.member_store.specs.Refusals as device
use Rattle.member_store.specs.declared.refusal.Refusal.{Refusal}
use Rattle.member_store.specs.declared.refusal.Refusal.TheVariants as device_cause
use Rattle.device_calls.specs.Lists.{DeviceCall, read, store, barrier, Accepted, Completed, Stopped, for_each}
use Rattle.device_calls.specs.Effects.{Every, InRange, Written}
use Rattle.device_calls.proofs.Append.{completed_split}
use Rattle.device_calls.proofs.Properties.{every_then, every_for_each}
use Rattle.device_calls.proofs.Left.{completed_counts, completed_gains, completed_barred, cut_short, still_has}
use Rattle.intent_log.specs.Meaning as intent
use Rattle.intent_log.specs.Calls as log
use Rattle.intent_log.specs.Refusals as log_refusal
use Rattle.intent_log.specs.declared.refusal.LogRefusal.{LogRefusal}
use Rattle.intent_log.specs.declared.refusal.LogRefusal.TheVariants as log_cause
use Rattle.stripe_work.specs.Stripe.{Stripe, listed, data_at, stripe_data, parity_right}
use Rattle.stripe_work.specs.Work.{CachedBlocks, merged, merged_data, cached_store, data_reads, data_stores, parity_store, destage_calls, check_calls, resync_calls}
use Rattle.stripe_work.proofs.Parts.{reads_every, check_every}
use Rattle.array_model.specs.Refusals.{number}
use Rattle.array_model.specs.Meaning.{Geometry}
use Rattle.array_model.specs.Calls.{zero_calls}
use Rattle.array_model.specs.declared.refusal.ArrayRefusal.TheVariants.{Members, Log}
use Rattle.array_model.proofs.Inv.{On, has, on_then, Each, Grows, Sized}

-- what a call stores is one of Q
abbrev pub Storing : (ℕ → ℕ → List ℕ → Type 0) → DeviceCall → Type 0
Storing Q (read i j) = Unit {0}
Storing Q (store i j x) = Q i j x
Storing Q barrier = Unit {0}

moved_along : (Q : ℕ → ℕ → List ℕ → Type 0) (i j m b : ℕ) (x v : List ℕ) → (m ≡ i) × (b ≡ j) × (v ≡ x) → Q i j x → Q m b v
moved_along Q i j m b x v e h =
    subst (λ (k : ℕ). Q k b v) (sym e.0) (subst (λ (k : ℕ). Q i k v) (sym e.1) (subst (λ (y : List ℕ). Q i j y) (sym e.2) h))

written_by : (Q : ℕ → ℕ → List ℕ → Type 0) (os : List DeviceCall) (m b : ℕ) (v : List ℕ) → Every (Storing Q) os → Written os m b v → Q m b v
written_by Q [] m b v h w = absurd w
written_by Q (read i j ∷ os) m b v h (inl w) = absurd w
written_by Q (store i j x ∷ os) m b v h (inl w) = moved_along Q i j m b x v w h.0
written_by Q (barrier ∷ os) m b v h (inl w) = absurd w
written_by Q (o ∷ os) m b v h (inr w) = written_by Q os m b v h.1 w

module _ (g : Geometry) (Q : ℕ → ℕ → List ℕ → Type 0) (os : List DeviceCall) (m n : store.Meaning) (on : On g m) (every : Every (Storing Q) os) where
  pub completed_grows : Completed os m n → Grows g Q m n
  completed_grows d i b v p q w = elim (completed_gains os m n d i b v (has g m on i b p q) w) [ inl u ↦ inl u | inr u ↦ inr (written_by Q os i b v every u) ]

  pub stopped_grows : (e : Refusal) → Stopped os m e n → Grows g Q m n
  stopped_grows e d i b v p q w = elim ((cut_short os m e n d).gains i b v (has g m on i b p q) w) [ inl u ↦ inl u | inr u ↦ inr (written_by Q os i b v every u) ]

pub stopped_on : (g : Geometry) (os : List DeviceCall) (m n : store.Meaning) (e : Refusal) → On g m → Stopped os m e n → On g n
stopped_on g os m n e o d = on_then g m n o (cut_short os m e n d).counts

pub completed_has : (g : Geometry) (os : List DeviceCall) (m n : store.Meaning) → On g m → Completed os m n → On g n
completed_has g os m n o d = on_then g m n o (completed_counts os m n d)

-- a barrier

one_barrier : (m n : store.Meaning) → Completed (barrier ∷ []) m n → Barred m n
one_barrier m n d = subst (Barred m) (sym d.2) d.1.1

pub barrier_current : (g : Geometry) (m n : store.Meaning) → On g m → Completed (barrier ∷ []) m n → (i b : ℕ) → i < g.members → b < g.blocks → current n i b ≡ current m i b
barrier_current g m n o d i b p q = (one_barrier m n d).same i b (has g m o i b p q)

pub barrier_only : (g : Geometry) (m n : store.Meaning) → On g m → Completed (barrier ∷ []) m n → Each g n (λ i b v. v ≡ current m i b)
barrier_only g m n o d i b v p q w = (one_barrier m n d).only i b v (has g m o i b p q) w

pub barrier_sized : (g : Geometry) (m n : store.Meaning) → On g m → Completed (barrier ∷ []) m n → Sized g m → Sized g n
barrier_sized g m n o d z i b p q = ap length (barrier_current g m n o d i b p q) ∙ z i b p q

pub barrier_cut : (g : Geometry) (m n : store.Meaning) (e : Refusal) → On g m → Stopped (barrier ∷ []) m e n → Each g n (λ i b v. Version m i b v)
barrier_cut g m n e o d i b v p q w =
    elim (stopped_grows g (λ _ _ _. ⊥) (barrier ∷ []) m n o (tt, tt) e d i b v p q w) [ inl u ↦ u | inr u ↦ absurd u ]

-- reads

pub reading_cut : (g : Geometry) (os : List DeviceCall) (m n : store.Meaning) (e : Refusal) → On g m → Every (Storing (λ _ _ _. ⊥)) os → Stopped os m e n → Each g n (λ i b v. Version m i b v)
reading_cut g os m n e o every d i b v p q w = elim (stopped_grows g (λ _ _ _. ⊥) os m n o every e d i b v p q w) [ inl u ↦ u | inr u ↦ absurd u ]

-- whole blocks

whole_from : (f : ℕ → List ℕ) (a n : ℕ) → ((j : ℕ) → a ≤ j → j < a + n → length (f j) ≡ 512) → Whole (map f (range_with_len a n))
whole_from f a zero h = tt
whole_from f a (suc n) h = (h a (omega arith) (omega arith), whole_from f (a + 1) n (λ j p q. h j (omega arith) (omega arith)))

pub whole_listed : (f : ℕ → List ℕ) (n : ℕ) → ((j : ℕ) → j < n → length (f j) ≡ 512) → Whole (listed f n)
whole_listed f n h = whole_from f 0 n (λ j p q. h j (omega arith))

pub parity_sized : (f : ℕ → List ℕ) (n : ℕ) → ((j : ℕ) → j < n → length (f j) ≡ 512) → length (parity_of (listed f n)) ≡ 512
parity_sized f n h = parity_length (listed f n) (whole_listed f n h)

-- a destage stores cached blocks at their places, and parity

abbrev pub Destages : Stripe → CachedBlocks → ℕ → ℕ → List ℕ → Type 0
Destages w c i k v = (k ≡ w.block) × (((i ≡ w.parity) × (length v ≡ 512)) ⊎ ((j : ℕ) × (j < w.positions) × (i ≡ w.member j) × (c j ≡ Some v)))

pub destage_stores : (w : Stripe) (c : CachedBlocks) (m : store.Meaning) → ((j : ℕ) → j < w.positions → length (merged w c m j) ≡ 512) → Every (Storing (Destages w c)) (destage_calls w c m)
destage_stores w c m size =
    every_then (Storing (Destages w c)) (data_reads w c ++ data_stores w c) (parity_store w (parity_of (merged_data w c m)))
    (every_then (Storing (Destages w c)) (data_reads w c) (data_stores w c)
    (reads_every (Storing (Destages w c)) w c (λ j h. tt))
    (every_for_each (Storing (Destages w c)) (λ j. cached_store (c j) (w.member j) w.block) w.positions (λ j h. one j h (c j) refl)))
    ((refl, inl (refl, parity_sized (merged w c m) w.positions size)), tt)
  where
    one : (j : ℕ) → j < w.positions → (o : Option (List ℕ)) → c j ≡ o → Every (Storing (Destages w c)) (cached_store o (w.member j) w.block)
    one j h None e = tt
    one j h (Some x) e = ((refl, inr (j, h, refl, e)), tt)

-- a step of a resynchronization stores parity

abbrev pub Mends : Stripe → ℕ → ℕ → List ℕ → Type 0
Mends w i k v = (i ≡ w.parity) × (k ≡ w.block) × (length v ≡ 512)

pub resync_stores : (w : Stripe) (m : store.Meaning) → ((j : ℕ) → j < w.positions → length (data_at w m j) ≡ 512) → Every (Storing (Mends w)) (resync_calls w m)
resync_stores w m size =
    every_then (Storing (Mends w)) (check_calls w) (cond (parity_right w m) [] (parity_store w (parity_of (stripe_data w m))))
    (check_every (Storing (Mends w)) w (λ j h. tt) tt) (go (parity_right w m))
  where
    go : (q : Bool) → Every (Storing (Mends w)) (cond q [] (parity_store w (parity_of (stripe_data w m))))
    go true = tt
    go false = ((refl, refl, parity_sized (data_at w m) w.positions size), tt)

-- zeroing

abbrev pub IsZeros : ℕ → ℕ → List ℕ → Type 0
IsZeros i k v = v ≡ zeros

pub zero_stores : (g : Geometry) → Every (Storing IsZeros) (zero_calls g ++ barrier ∷ [])
zero_stores g =
    every_then (Storing IsZeros) (zero_calls g) (barrier ∷ [])
    (every_for_each (Storing IsZeros) (λ m. for_each (λ b. store m b zeros ∷ []) g.blocks) g.members
    (λ m h. every_for_each (Storing IsZeros) (λ b. store m b zeros ∷ []) g.blocks (λ b k. (refl, tt))))
    (tt, tt)

pub zero_range : (g : Geometry) (m : store.Meaning) → On g m → Every (InRange m) (zero_calls g ++ barrier ∷ [])
zero_range g m o =
    every_then (InRange m) (zero_calls g) (barrier ∷ [])
    (every_for_each (InRange m) (λ i. for_each (λ b. store i b zeros ∷ []) g.blocks) g.members
    (λ i h. every_for_each (InRange m) (λ b. store i b zeros ∷ []) g.blocks (λ b k. (has g m o i b h k, tt))))
    (tt, tt)

kept_one : (o : DeviceCall) (s t : store.Meaning) (i b : ℕ) → HasBlock s i b → Storing IsZeros o → Accepted o s t → current s i b ≡ zeros → current t i b ≡ zeros
kept_one (read m k) s t i b p z a e = ap (λ (u : store.Meaning). current u i b) a.1 ∙ e
kept_one (store m k x) s t i b p z a e = go (ℕ_discrete i m) (ℕ_discrete b k)
  where
    go : Dec (i ≡ m) → Dec (b ≡ k) → current t i b ≡ zeros
    go (yes u) (yes v) = ap (λ (n : ℕ). current t n b) u ∙ ap (current t m) v ∙ a.1.here ∙ z
    go (yes u) (no v) = a.1.elsewhere i b p (λ r. v r.1) ∙ e
    go (no u) v = a.1.elsewhere i b p (λ r. u r.0) ∙ e
kept_one barrier s t i b p z a e = a.1.same i b p ∙ e

zeros_kept : (os : List DeviceCall) (s t : store.Meaning) (i b : ℕ) → HasBlock s i b → Every (Storing IsZeros) os → Completed os s t → current s i b ≡ zeros → current t i b ≡ zeros
zeros_kept [] s t i b p z d e = ap (λ (u : store.Meaning). current u i b) d ∙ e
zeros_kept (o ∷ os) s t i b p z d e =
    zeros_kept os d.0 t i b (still_has s d.0 i b (completed_counts (o ∷ []) s d.0 (d.0, d.1, refl)) p) z.1 d.2 (kept_one o s d.0 i b p z.0 d.1 e)

row_calls : ℕ → ℕ → List DeviceCall
row_calls i n = for_each (λ b. store i b zeros ∷ []) n

row_zeros : (i n : ℕ) → Every (Storing IsZeros) (row_calls i n)
unfolding row_calls
row_zeros i n = every_for_each (Storing IsZeros) (λ b. store i b zeros ∷ []) n (λ b k. (refl, tt))

row_zeroed : (i n b : ℕ) (s t : store.Meaning) → b < n → HasBlock s i b → Completed (row_calls i n) s t → current t i b ≡ zeros
unfolding row_calls
row_zeroed i zero b s t h p d = absurd (omega arith)
row_zeroed i (suc n) b s t h p d =
    let a = completed_split (for_each (λ b. store i b zeros ∷ []) n) (store i n zeros ∷ []) s t d in
    go a.0 a.1 a.2 (λ l. row_zeroed i n b s a.0 l p a.1) (ℕ_discrete b n)
  where
    go : (u : store.Meaning) → Completed (row_calls i n) s u → Completed (store i n zeros ∷ []) u t → (b < n → current u i b ≡ zeros) → Dec (b ≡ n) → current t i b ≡ zeros
    go u d e ih (yes q) = ap (current t i) q ∙ ap (λ (v : store.Meaning). current v i n) e.2 ∙ e.1.1.here
    go u d e ih (no q) =
        zeros_kept (store i n zeros ∷ []) u t i b (still_has s u i b (completed_counts (row_calls i n) s u d) p) (refl, tt) e
        (ih (omega arith))

all_zeroed : (m n i b : ℕ) (s t : store.Meaning) → i < m → b < n → HasBlock s i b → Completed (for_each (λ k. row_calls k n) m) s t → current t i b ≡ zeros
all_zeroed zero n i b s t h k p d = absurd (omega arith)
all_zeroed (suc m) n i b s t h k p d =
    let a = completed_split (for_each (λ k. row_calls k n) m) (row_calls m n) s t d in
    go a.0 a.1 a.2 (λ l. all_zeroed m n i b s a.0 l k p a.1) (ℕ_discrete i m)
  where
    go : (u : store.Meaning) → Completed (for_each (λ k. row_calls k n) m) s u → Completed (row_calls m n) u t → (i < m → current u i b ≡ zeros) → Dec (i ≡ m) → current t i b ≡ zeros
    go u d e ih (yes q) =
        subst (λ (j : ℕ). current t j b ≡ zeros) (sym q)
        (row_zeroed m n b u t k (subst (λ (j : ℕ). HasBlock u j b) q (still_has s u i b (completed_counts (for_each (λ k. row_calls k n) m) s u d) p)) e)
    go u d e ih (no q) =
        zeros_kept (row_calls m n) u t i b (still_has s u i b (completed_counts (for_each (λ k. row_calls k n) m) s u d) p) (row_zeros m n) e
        (ih (omega arith))

-- after the barrier zeros are all there is
pub zeroed_only : (g : Geometry) (m n : store.Meaning) → On g m → Completed (zero_calls g ++ barrier ∷ []) m n → Each g n (λ i b v. v ≡ zeros)
unfolding row_calls
zeroed_only g m n o d i b v p q w =
    let a = completed_split (zero_calls g) (barrier ∷ []) m n d in
    completed_barred (zero_calls g) m n i b v (has g m o i b p q) d w
    ∙ barrier_current g a.0 n (completed_has g (zero_calls g) m a.0 o a.1) a.2 i b p q
    ∙ all_zeroed g.members g.blocks i b m a.0 p q (has g m o i b p q) a.1

pub zeroed_current : (g : Geometry) (m n : store.Meaning) → On g m → Completed (zero_calls g ++ barrier ∷ []) m n → (i b : ℕ) → i < g.members → b < g.blocks → current n i b ≡ zeros
unfolding row_calls
zeroed_current g m n o d i b p q =
    let a = completed_split (zero_calls g) (barrier ∷ []) m n d in
    barrier_current g a.0 n (completed_has g (zero_calls g) m a.0 o a.1) a.2 i b p q
    ∙ all_zeroed g.members g.blocks i b m a.0 p q (has g m o i b p q) a.1

pub zeros_length : length zeros ≡ 512
zeros_length = length-replicate {A = ℕ} 512 0

-- refusals with 1

pub off_one : (e : Refusal) → device.IsPowerOff e → number (Members e) ≡ 1
off_one (device_cause.PowerOff p) h = refl
off_one (device_cause.NoMember k) h = absurd h
off_one (device_cause.NoBlock k) h = absurd h
off_one (device_cause.WrongLength k) h = absurd h

went_one : (e : LogRefusal) → log_refusal.PowerWent e → number (Log e) ≡ 1
went_one (log_cause.Store e) h = off_one e h
went_one log_cause.Off h = refl
went_one (log_cause.TooSmall m n) h = absurd h
went_one log_cause.NoRecord h = absurd h
went_one (log_cause.WrongList n) h = absurd h
went_one log_cause.Spent h = absurd h
went_one (log_cause.DoesNotFit n) h = absurd h

-- a refused change of the log left it as it was, or power went
pub log_refused : (c : Option LogRefusal) (e : LogRefusal) (same went : Type 0) → log.Refused c e same went → same ⊎ went
log_refused None e same went h = inr h.1
log_refused (Some d) e same went h = inl h.1

pub power_refused : (l : intent.Meaning) (e : LogRefusal) (same went : Type 0) → log.Refused (log.power_checks l) e same went → number (Log e) ≡ 1
power_refused l e same went = go l.on
  where
    go : (q : Bool) → log.Refused (cond q None (Some log_cause.Off)) e same went → number (Log e) ≡ 1
    go true h = went_one e h.0
    go false h = ap (λ (d : LogRefusal). number (Log d)) h.0
