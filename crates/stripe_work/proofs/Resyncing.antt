-- A check and a step of resynchronization, put together, and what they leave. Assumes nothing.
use Rattle.std.proofs.Common.{◌≡◌, ℕ, ◌<◌, Bool, true, false, not, cond, List, [], ◌∷◌, replicate, is_some, Some, None, Option, Decides, Result, sym, refl, ap, ◌∙◌, subst}
use Rattle.std.specs.Str.{bytes_eq}
use Rattle.std.specs.Bool.{then_some}
use Rattle.std.proofs.lemmas.Bool.{false≢true}
use Rattle.std.proofs.lemmas.Slice.Eq.{bytes_eq-Decides}
use Rattle.std.proofs.lemmas.Bool.Decides.{same_from_decides}
use Rattle.parity.specs.Xor.{parity_of}
use Rattle.member_store.specs.Meaning.{Meaning, current, HasBlock}
use Rattle.member_store.specs.declared.refusal.Refusal.{Refusal}
use Rattle.device_calls.specs.Lists.{DeviceCall, read, store, Completed, Stopped, Performs}
use Rattle.device_calls.specs.Effects.{Every, InRange, Spares, Reading, CutShort}
use Rattle.device_calls.proofs.Append.{completed_then, completed_split, stopped_first, performs_then}
use Rattle.device_calls.proofs.Properties.{every_then, every_first, every_turn, every_weaker, written_not, reading_spares}
use Rattle.device_calls.proofs.Left.{completed_counts, completed_on, completed_range, completed_spares, completed_gains, completed_reading, cut_short, cut_weaker}
use Rattle.member_store.proofs.Checks.{passed}
use Rattle.stripe_work.specs.Stripe.{Stripe, data_at, stripe_data, parity_at, parity_right, RightParity, InStore}
use Rattle.stripe_work.specs.Work.{none_cached, cached_in, or_else, data_reads, parity_store, check_calls, resync_calls}
use Rattle.stripe_work.specs.Outcomes.{Resynced, OthersSpared}
use Rattle.stripe_work.proofs.Rows.{listed_same}
use Rattle.stripe_work.proofs.Turns.{moved}
use Rattle.stripe_work.proofs.Parts.{Distinct, right_from_test, check_every, check_reads, others_spared, same_reads, reads_every}

-- the reads of a stripe of which nothing is cached, as an array of seven says
abbrev first_reads : Stripe → List DeviceCall
first_reads w = data_reads w (cached_in (replicate 7 None))

-- the parity to store, by whether the stored one is right
abbrev correction : Bool → List ℕ → Option (List ℕ)
correction right x = cond right None (Some x)

pub right_where_none : (right none : Bool) (x : List ℕ) (o : Option (List ℕ)) → o ≡ correction right x → is_some o ≡ not none → none ≡ right
right_where_none true true x o e h = refl
right_where_none false false x o e h = refl
right_where_none true false x o e h = absurd (false≢true (sym (ap is_some e) ∙ h))
right_where_none false true x o e h = absurd (false≢true (sym h ∙ ap is_some e))

pub right_by_some : (right : Bool) (x : List ℕ) (o : Option (List ℕ)) → o ≡ correction right x → right ≡ not (is_some o)
right_by_some true x o e = ap (λ p. not (is_some p)) (sym e)
right_by_some false x o e = ap (λ p. not (is_some p)) (sym e)

pub wrong_where_some : (right : Bool) (x y : List ℕ) → Some y ≡ correction right x → (right ≡ false) × (y ≡ x)
wrong_where_some true x y e = absurd (false≢true (sym (ap is_some e)))
wrong_where_some false x y e = (refl, ap (λ o. or_else o y) e)

module _ (w : Stripe) (s : Meaning) where
  reads_done : (u : Meaning) → Completed (first_reads w) s u → Completed (data_reads w none_cached) s u
  reads_done u d = subst (λ os. Completed os s u) (same_reads w 7) d

  pub check_stops_reading : (e : Refusal) (t : Meaning) → Stopped (first_reads w) s e t → Stopped (check_calls w) s e t
  check_stops_reading e t h = stopped_first (data_reads w none_cached) (read w.parity w.block ∷ []) s e t (subst (λ os. Stopped os s e t) (same_reads w 7) h)

  -- the parity is read at an address that was found
  pub check_ends : {U : Type 0} (a b : ℕ) (u t : Meaning) (r : Result U Refusal) → Completed (first_reads w) s u → a ≡ w.parity → b ≡ w.block → Performs (read a b ∷ []) u r t → Performs (check_calls w) s r t
  check_ends a b u t r d p q h =
      performs_then (data_reads w none_cached) (read w.parity w.block ∷ []) s u t r (reads_done u d)
      (moved (λ os. Performs os u r t) read a b w.parity w.block p q h)

  pub reads_keep : (u : Meaning) → Completed (first_reads w) s u → u ≡ s
  reads_keep u d = completed_reading (data_reads w none_cached) s u (reads_every Reading w none_cached (λ j l. tt)) (reads_done u d)

  pub check_keeps : (t : Meaning) → Completed (check_calls w) s t → t ≡ s
  check_keeps t d = completed_reading (check_calls w) s t (check_reads w) d

  -- what the comparison says
  pub decided : (found want : List ℕ) (r : Bool) (a b : ℕ) (u : Meaning) → Decides r (found ≡ want) → u ≡ s → a ≡ w.parity → b ≡ w.block → found ≡ current u a b → want ≡ parity_of (stripe_data w s) → r ≡ parity_right w s
  decided found want r a b u h e p q g k =
      same_from_decides r (bytes_eq found want) h (bytes_eq-Decides found want)
      ∙ ap (λ x. bytes_eq x want) (g ∙ ap (λ v. current v a b) e ∙ ap (λ (i : ℕ). current s i b) p ∙ ap (λ (i : ℕ). current s w.parity i) q)
      ∙ ap (λ x. bytes_eq (parity_at w s) x) k

  -- and the parity that is then to store
  pub corrected : (found want : List ℕ) (same : Bool) (a b : ℕ) (u : Meaning) → Decides same (found ≡ want) → u ≡ s → a ≡ w.parity → b ≡ w.block → found ≡ current u a b → want ≡ parity_of (stripe_data w s)
      → then_some (not same) want ≡ correction (parity_right w s) (parity_of (stripe_data w s))
  corrected found want same a b u h e p q g k = either same want ∙ ap (λ x. correction same x) k ∙ ap (λ r. correction r (parity_of (stripe_data w s))) (decided found want same a b u h e p q g k)
    where
      either : (r : Bool) (x : List ℕ) → then_some (not r) x ≡ correction r x
      either true x = refl
      either false x = refl

  pub check_cut : (e : Refusal) (t : Meaning) → Stopped (check_calls w) s e t → CutShort (InStore w s) [] s e t
  check_cut e t d =
      cut_weaker (Every (InRange s) (check_calls w)) (InStore w s) (check_calls w) [] s e t
      (λ h. check_every (InRange s) w h.member h.parity)
      (λ m b v k. absurd (written_not m b v (check_calls w) (every_weaker Reading (Spares m b) (reading_spares m b) (check_calls w) (check_reads w)) k))
      (cut_short (check_calls w) s e t d)

  -- a step of resynchronization

  abbrev fix : Bool → List DeviceCall
  fix right = cond right [] (parity_store w (parity_of (stripe_data w s)))

  pub resync_stops_reading : (e : Refusal) (t : Meaning) → Stopped (check_calls w) s e t → Stopped (resync_calls w s) s e t
  resync_stops_reading e t h = stopped_first (check_calls w) (fix (parity_right w s)) s e t h

  pub resync_idle : (t : Meaning) → parity_right w s ≡ true → Completed (check_calls w) s t → Completed (resync_calls w s) s t
  resync_idle t q d = completed_then (check_calls w) (fix (parity_right w s)) s t t d (subst (λ b. Completed (fix b) t t) (sym q) refl)

  pub resync_ends : {U : Type 0} (a b : ℕ) (x : List ℕ) (u t : Meaning) (r : Result U Refusal) → parity_right w s ≡ false → Completed (check_calls w) s u → a ≡ w.parity → b ≡ w.block → x ≡ parity_of (stripe_data w s) → Performs (store a b x ∷ []) u r t → Performs (resync_calls w s) s r t
  resync_ends a b x u t r n d p q e h =
      performs_then (check_calls w) (fix (parity_right w s)) s u t r d
      (subst (λ z. Performs (fix z) u r t) (sym n)
      (subst (λ y. Performs (store w.parity w.block y ∷ []) u r t) e (moved (λ os. Performs os u r t) (λ m k. store m k x) a b w.parity w.block p q h)))

  fix_every : (P : DeviceCall → Type 0) → ((x : List ℕ) → P (store w.parity w.block x)) → (right : Bool) → Every P (fix right)
  fix_every P h true = tt
  fix_every P h false = (h (parity_of (stripe_data w s)), tt)

  resync_every : (P : DeviceCall → Type 0) → ((j : ℕ) → j < w.positions → P (read (w.member j) w.block)) → P (read w.parity w.block) → ((x : List ℕ) → P (store w.parity w.block x)) → Every P (resync_calls w s)
  resync_every P h k l = every_then P (check_calls w) (fix (parity_right w s)) (check_every P w h k) (fix_every P l (parity_right w s))

  resync_spares : (m b : ℕ) → ((m ≡ w.parity) × (b ≡ w.block) → ⊥) → Every (Spares m b) (resync_calls w s)
  resync_spares m b ne = resync_every (Spares m b) (λ j l. tt) tt (λ x q. ne q)

  pub resync_cut : (e : Refusal) (t : Meaning) → Stopped (resync_calls w s) s e t → CutShort (InStore w s) (resync_calls w s) s e t
  resync_cut e t d =
      cut_weaker (Every (InRange s) (resync_calls w s)) (InStore w s) (resync_calls w s) (resync_calls w s) s e t
      (λ h. resync_every (InRange s) h.member h.parity (λ x. h.parity)) (λ m b v k. k) (cut_short (resync_calls w s) s e t d)

  pub resync_others : (t : Meaning) → Completed (resync_calls w s) s t → OthersSpared w s t
  resync_others t d = others_spared w (resync_calls w s) s t (λ m b ne. resync_spares m b (λ q. ne q.1)) (completed_gains (resync_calls w s) s t d)

  pub resync_cut_others : (e : Refusal) (t : Meaning) → Stopped (resync_calls w s) s e t → OthersSpared w s t
  resync_cut_others e t d = others_spared w (resync_calls w s) s t (λ m b ne. resync_spares m b (λ q. ne q.1)) (cut_short (resync_calls w s) s e t d).gains

  -- a check that was completed found power on
  was_on : (t : Meaning) → Completed (check_calls w) s t → s.on ≡ true
  was_on t d =
      let a = completed_split (data_reads w none_cached) (read w.parity w.block ∷ []) s t d in
      let e : a.0 ≡ s = completed_reading (data_reads w none_cached) s a.0 (reads_every Reading w none_cached (λ j l. tt)) a.1 in
      let u = a.0 in
      sym (ap (λ v. v.on) e) ∙ (passed u.on u.members u.blocks w.parity w.block 512 a.2.1.0).on

module _ (w : Stripe) (apart : Distinct w) (s : Meaning) where
  fixed : (right : Bool) (t : Meaning) → (right ≡ true → RightParity w s) → ((j : ℕ) → j < w.positions → HasBlock s (w.member j) w.block) → Completed (fix w s right) s t → RightParity w t
  fixed true t h p d = subst (RightParity w) (sym d) (h refl)
  fixed false t h p d =
      let same : (j : ℕ) → j < w.positions → data_at w t j ≡ data_at w s j = (λ j l. completed_spares (fix w s false) s t (w.member j) w.block (p j l) ((λ q. apart.apart j l q.0), tt) d) in
      ap (parity_at w) d.2 ∙ d.1.1.here ∙ ap parity_of (sym (listed_same (data_at w t) (data_at w s) w.positions same))

  idle_keeps : (right : Bool) (t : Meaning) → right ≡ true → Completed (fix w s right) s t → t ≡ s
  idle_keeps right t q d = subst (λ b. Completed (fix w s b) s t) q d

  pub resynced : (t : Meaning) → Completed (resync_calls w s) s t → Resynced w s t
  resynced t d =
      let a = completed_split (check_calls w) (fix w s (parity_right w s)) s t d in
      let e : a.0 ≡ s = check_keeps w s a.0 a.1 in
      let k : Completed (fix w s (parity_right w s)) s t = subst (λ u. Completed (fix w s (parity_right w s)) u t) e a.2 in
      let range = completed_range (resync_calls w s) s t d in
      let first = every_first (InRange s) (check_calls w) (fix w s (parity_right w s)) range in
      let reads = every_first (InRange s) (data_reads w none_cached) (read w.parity w.block ∷ []) first in
      record {
        on = completed_on (resync_calls w s) s t (was_on w s a.0 a.1) d;
        counts = completed_counts (resync_calls w s) s t d;
        right = fixed (parity_right w s) t (right_from_test w s) (λ j l. (every_turn (InRange s) (λ i. read (w.member i) w.block ∷ []) w.positions j l reads).0) k;
        keeps = λ m b p ne. completed_spares (resync_calls w s) s t m b p (resync_spares w s m b ne) d;
        idle = λ q. idle_keeps (parity_right w s) t q k;
        gains = completed_gains (resync_calls w s) s t d;
      }
