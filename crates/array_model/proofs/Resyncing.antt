-- Steps and finish keep what is known of an array being resynchronized. Assumes nothing.
use Rattle.std.proofs.Common.{◌≡◌, ℕ, zero, suc, ◌+◌, ◌<◌, ◌≤◌, Bool, true, false, not, ltb, List, [], ◌∷◌, length, Some, None, Ok, Option, sym, refl, ap, ◌∙◌, subst, inl, inr, add-one, arith}
use native.Mathlib.Decide.{ℕ_discrete, dec_lt}
use Rattle.std.proofs.lemmas.Option.{none-some}
use Rattle.std.proofs.lemmas.Bool.{true≢false, ltb-true, lt-ltb, and_parts, and_cases}
use Rattle.member_store.specs.Meaning as store
use Rattle.member_store.specs.Meaning.{current, Version, In}
use Rattle.member_store.specs.declared.refusal.Refusal.{Refusal}
use Rattle.device_calls.specs.Lists.{barrier, Completed, Stopped}
use Rattle.intent_log.specs.Meaning as intent
use Rattle.intent_log.specs.Meaning.{Standing, MayStand}
use Rattle.cache.specs.Contents.{one_if}
use Rattle.cache.specs.Stripes.{count_below}
use Rattle.stripe_work.specs.Stripe.{Stripe, data_at, RightParity}
use Rattle.stripe_work.specs.Work.{or_else, resync_calls}
use Rattle.stripe_work.specs.Outcomes as outcome
use Rattle.stripe_work.proofs.Parts.{distinct}
use Rattle.stripe_work.proofs.Resyncing as lower
use Rattle.array_model.specs.Meaning.{Meaning, array, named, Geometry, stripe_count, stripe, home, position, held}
use Rattle.array_model.specs.Calls.{due, NextDue, taken, totals}
use Rattle.array_model.specs.Book.{Book, InBook, holding, Since, told}
use Rattle.array_model.specs.Promise.{Consistent, HeldByBook}
use Rattle.array_model.specs.declared.state.Progress.{Progress}
use Rattle.array_model.specs.declared.state.State.TheVariants.{Resync, Ready}
use Rattle.array_model.proofs.Places.{Facts, width, number, num_home, num_position, num_back, home_below, position_below'}
use Rattle.array_model.proofs.Inv.{On, has, Grows, Sized, stands, member_below, Known, BookSized, Crash, Sure, Calm, InResyncing, InReadiness, clean_right, crash_grows, clean_crash}
use Rattle.array_model.proofs.Effects.{Mends, resync_stores, completed_grows, stopped_grows, stopped_on, completed_has, parity_sized, barrier_current, barrier_only, barrier_sized}
use Rattle.array_model.proofs.Barriers.{right_same, bar_known, bar_whole, bar_clean, bar_right, bar_crash}

-- counting

count_skip : (t n : ℕ) (test : ℕ → Bool) → n ≤ t → ((u : ℕ) → n ≤ u → u < t → test u ≡ false) → count_below t test ≡ count_below n test
count_skip zero n test h skip = let e : 0 ≡ n = omega arith in ap (λ (k : ℕ). count_below k test) e
count_skip (suc t) n test h skip = go (λ l. count_skip t n test l (λ u p q. skip u p (omega arith))) (dec_lt t n)
  where
    go : (n ≤ t → count_below t test ≡ count_below n test) → Dec (t < n) → count_below (suc t) test ≡ count_below n test
    go ih (yes l) = let e : suc t ≡ n = omega arith in ap (λ (k : ℕ). count_below k test) e
    go ih (no l) =
        let a : count_below (suc t) test ≡ 0 + count_below t test = ap (λ (q : Bool). one_if q + count_below t test) (skip t (omega arith) (omega arith)) in
        let c : count_below t test ≡ count_below n test = ih (omega arith) in
        omega arith

count_next : (t n : ℕ) (test : ℕ → Bool) → n ≤ t → ((u : ℕ) → n ≤ u → u < t → test u ≡ false) → test t ≡ true → count_below (t + 1) test ≡ count_below n test + 1
count_next t n test h skip e =
    let p : count_below (suc t) test ≡ 1 + count_below t test = ap (λ (q : Bool). one_if q + count_below t test) e in
    let q : count_below t test ≡ count_below n test = count_skip t n test h skip in
    let r : count_below (t + 1) test ≡ count_below (suc t) test = ap (λ (k : ℕ). count_below k test) (add-one t) in
    omega arith

-- the stripes to take

pub due_true : (g : Geometry) (s : Meaning) (k : ℕ) → due g s k ≡ true → (k < stripe_count g) × (named s k ≡ true)
due_true g s k h = let p = and_parts (ltb k (stripe_count g)) (named s k) h in (ltb-true k (stripe_count g) p.0, p.1)

due_false : (g : Geometry) (s : Meaning) (k : ℕ) → k < stripe_count g → due g s k ≡ false → named s k ≡ false
due_false g s k l h = elim (and_cases (ltb k (stripe_count g)) (named s k) h) [ inl e ↦ absurd (true≢false (sym (lt-ltb k (stripe_count g) l) ∙ e)) | inr e ↦ e ]

module _ (g : Geometry) (f : Facts g) (b : Book) (z : Since) (p : Progress) (s : Meaning) (i : InResyncing g b z p s) where
  unnamed_right : (k : ℕ) → k < stripe_count g → named s k ≡ false → RightParity (stripe g k) s.members
  unnamed_right k h un = clean_right g f s.members k h i.calm.full (i.calm.crash.guard s.log.standing (inl refl) i.record_stands k h un)

  right_before : (t : ℕ) → t ≤ stripe_count g → ((u : ℕ) → p.next ≤ u → u < t → due g s u ≡ false) → (k : ℕ) → k < t → RightParity (stripe g k) s.members
  right_before t below skip k h = go (dec_lt k p.next)
    where
      go : Dec (k < p.next) → RightParity (stripe g k) s.members
      go (yes l) = i.right k l
      go (no l) = unnamed_right k (omega arith) (due_false g s k (omega arith) (skip k (omega arith) h))

  -- NO STRIPE IS LEFT
  module _ (left : NextDue g s p None) where
    pub all_right : (k : ℕ) → k < stripe_count g → RightParity (stripe g k) s.members
    all_right = right_before (stripe_count g) (omega arith) (λ u q h. left u q)

    module _ (n : store.Meaning) (bar : Completed (barrier ∷ []) s.members n) where
      on : On g s.members
      on = i.calm.crash.on

      pub finish_consistent : Consistent g z (totals p) n
      unfolding on
      finish_consistent = record {
        right = λ k h. bar_right g f b s.members n on bar i.calm.full k h (all_right k h);
        mended_named = i.mended_named;
        unnamed_same = λ k m h q un. barrier_current g s.members n on bar m (stripe g k).block q h ∙ i.unnamed_same k m h q un;
        unnamed_none = λ k m v h q un w. i.unnamed_none k m v h q un
            (subst (Version s.members m (stripe g k).block) (sym (barrier_only g s.members n on bar m (stripe g k).block v q h w)) (stands g s.members i.calm.full m (stripe g k).block q h));
        read_is = i.read_is ∙ sym (count_skip (stripe_count g) p.next z.names i.below (λ u q h. i.names u ∙ due_false g s u h (left u q)));
        mended_is = i.mended_is;
      }

      full : Sized g n
      full = barrier_sized g s.members n on bar i.calm.full

      held_at : (k j : ℕ) → j < width g → held g n (number g k j) ≡ data_at (stripe g k) n j
      held_at k j h =
          ap (λ (u : ℕ). data_at (stripe g u) n (position g (number g k j))) (num_home g f k j h) ∙ ap (data_at (stripe g k) n) (num_position g f k j h)

      pub finish_known : Known g (holding (held g n)) n
      finish_known k j v h q w =
          inl (barrier_only g s.members n on bar ((stripe g k).member j) (stripe g k).block v (member_below g f k j q) h w
          ∙ sym (barrier_current g s.members n on bar ((stripe g k).member j) (stripe g k).block (member_below g f k j q) h) ∙ sym (held_at k j q))

      sized : BookSized g (holding (held g n))
      unfolding full
      sized k j v h q (inl e) = ap length (e ∙ held_at k j q) ∙ full ((stripe g k).member j) (stripe g k).block (member_below g f k j q) h
      sized k j v h q (inr w) = absurd w

      pub finish_ready : (l : intent.Meaning) → Sure l → l.standing.stands ≡ true → InReadiness g (holding (held g n)) (array Ready s.caches n l)
      finish_ready l sure up = record {
        crash = clean_crash g (holding (held g n)) n l (completed_has g (barrier ∷ []) s.members n on bar)
            (bar_clean g f b s.members n on bar i.calm.full all_right) finish_known (bar_whole g f b s.members n on bar i.calm.full) sized;
        full = full;
        sure = sure;
        record_stands = up;
        right = finish_consistent.right;
        due = λ k j x h q e. absurd (none-some x (sym (i.calm.no_destaging k j h q) ∙ e));
        by_buffering = λ k j x h q e. absurd (none-some x (sym (i.calm.no_buffered k j h q) ∙ e));
        by_destaging = λ k j x h q e. absurd (none-some x (sym (i.calm.no_destaging k j h q) ∙ e));
        last = λ k j h q.
            ap (λ (o : Option (List ℕ)). or_else o (or_else (s.caches.destaging (number g k j)) (data_at (stripe g k) n j))) (i.calm.no_buffered k j h q)
            ∙ ap (λ (o : Option (List ℕ)). or_else o (data_at (stripe g k) n j)) (i.calm.no_destaging k j h q) ∙ sym (held_at k j q);
      }

      pub finish_crash : (l : intent.Meaning) → Crash g b n l
      finish_crash l = bar_crash g f b s.members n on bar i.calm.full l all_right i.calm.crash.known i.calm.crash.sized

      pub finish_by_book : HeldByBook g b n
      finish_by_book k h =
          subst (λ (u : ℕ). InBook b u (held g n k)) (num_back g f k)
          (bar_known g f b s.members n on bar i.calm.full i.calm.crash.known (home g k) (position g k) (held g n k) (home_below g f k h) (position_below' g f k)
          (stands g n full ((stripe g (home g k)).member (position g k)) (stripe g (home g k)).block (member_below g f (home g k) (position g k) (position_below' g f k)) (home_below g f k h)))

  -- STRIPE t IS TAKEN
  module _ (t : ℕ) (x : NextDue g s p (Some t)) where
    abbrev w : Stripe
    w = stripe g t

    inside : t < stripe_count g
    inside = (due_true g s t x.1).0

    is_named : named s t ≡ true
    is_named = (due_true g s t x.1).1

    data_sized : (j : ℕ) → j < width g → length (data_at w s.members j) ≡ 512
    data_sized j h = i.calm.full (w.member j) w.block (member_below g f t j h) inside

    -- parity of the stripe gained versions
    parity_crash : (n : store.Meaning) → On g n → Grows g (Mends w) s.members n → Crash g b n s.log
    parity_crash n o grows =
        crash_grows g f b (Mends w) s.members n s.log o grows
        (λ k m v h a c st up. ap c.names a.1 ∙ ap (λ (d : Standing). d.names t) (i.calm.sure.single c st) ∙ is_named)
        (λ k j v h q a. absurd ((f.lawful k).apart j q (a.0 ∙ ap (λ (u : ℕ). (stripe g u).parity) (sym a.1))))
        (λ m c v q r a. a.2)
        i.calm.crash

    pub step_cut : (e : Refusal) (n : store.Meaning) → Stopped (resync_calls w s.members) s.members e n → Crash g b n s.log
    step_cut e n d =
        parity_crash n (stopped_on g (resync_calls w s.members) s.members n e i.calm.crash.on d)
        (stopped_grows g (Mends w) (resync_calls w s.members) s.members n i.calm.crash.on (resync_stores w s.members data_sized) e d)

    module _ (n : store.Meaning) (d : Completed (resync_calls w s.members) s.members n) where
      done : outcome.Resynced w s.members n
      done = lower.resynced w (distinct g.arrange g.members t (f.lawful t)) s.members n d

      grows : Grows g (Mends w) s.members n
      grows = completed_grows g (Mends w) (resync_calls w s.members) s.members n i.calm.crash.on (resync_stores w s.members data_sized) d

      keeps : (m c : ℕ) → m < g.members → c < g.blocks → ((m ≡ w.parity) × (c ≡ t) → ⊥) → current n m c ≡ current s.members m c
      keeps m c q r ne = done.keeps m c (has g s.members i.calm.crash.on m c q r) ne

      other : (k : ℕ) → z.names k ≡ false → k ≡ t → ⊥
      other k un e = true≢false (sym (i.names t ∙ is_named) ∙ sym (ap z.names e) ∙ un)

      full_here : (m c : ℕ) → m < g.members → c < g.blocks → Dec (m ≡ w.parity) → Dec (c ≡ t) → length (current n m c) ≡ 512
      full_here m c q r (yes e) (yes u) =
          ap (λ (v : ℕ). length (current n v c)) e ∙ ap (λ (v : ℕ). length (current n w.parity v)) u ∙ ap length done.right
          ∙ parity_sized (data_at w n) (width g) (λ j h. ap length (keeps (w.member j) t (member_below g f t j h) inside (λ a. (f.lawful t).apart j h a.0)) ∙ data_sized j h)
      full_here m c q r (yes e) (no u) = ap length (keeps m c q r (λ a. u a.1)) ∙ i.calm.full m c q r
      full_here m c q r (no e) u = ap length (keeps m c q r (λ a. e a.0)) ∙ i.calm.full m c q r

      calm : (v : Progress) → Calm g b (array (Resync v) s.caches n s.log)
      calm v = record {
        crash = parity_crash n (completed_has g (resync_calls w s.members) s.members n i.calm.crash.on d) grows;
        full = λ m c q r. full_here m c q r (ℕ_discrete m w.parity) (ℕ_discrete c t);
        sure = i.calm.sure;
        no_buffered = i.calm.no_buffered;
        no_destaging = i.calm.no_destaging;
      }

      right_at : (k : ℕ) → k < t + 1 → Dec (k ≡ t) → RightParity (stripe g k) n
      right_at k h (yes e) = subst (λ (u : ℕ). RightParity (stripe g u) n) (sym e) done.right
      right_at k h (no ne) =
          let l : t < stripe_count g = inside in
          right_same g f s.members n k (λ m q. keeps m k q (omega arith) (λ a. ne a.1)) (right_before t (omega arith) (λ u q r. x.2 u q r) k (omega arith))

      counted : p.read + 1 ≡ count_below (t + 1) z.names
      counted =
          ap (λ (u : ℕ). u + 1) i.read_is
          ∙ sym (count_next t p.next z.names x.0 (λ u q h. i.names u ∙ due_false g s u (let l : t < stripe_count g = inside in omega arith) (x.2 u q h)) (i.names t ∙ is_named))

      same_unnamed : (k m : ℕ) → k < stripe_count g → m < g.members → z.names k ≡ false → current n m (stripe g k).block ≡ current z.members m (stripe g k).block
      same_unnamed k m h q un = keeps m k q h (λ a. other k un a.1) ∙ i.unnamed_same k m h q un

      none_unnamed : (k m : ℕ) (v : List ℕ) → k < stripe_count g → m < g.members → z.names k ≡ false → Version n m (stripe g k).block v → Version z.members m (stripe g k).block v
      none_unnamed k m v h q un u = elim (grows m k v q h u) [ inl y ↦ i.unnamed_none k m v h q un y | inr a ↦ absurd (other k un a.1) ]

      next_below : t + 1 ≤ stripe_count g
      next_below = let l : t < stripe_count g = inside in omega arith

      pub step_taken : (r : Bool) → InResyncing g b (told (Ok (Some (record { stripe = t; mended = not r }))) z) (taken p t r) (array (Resync (taken p t r)) s.caches n s.log)
      step_taken true = record {
        calm = calm (taken p t true);
        record_stands = i.record_stands;
        names = i.names;
        below = next_below;
        right = λ k h. right_at k h (ℕ_discrete k t);
        read_is = counted;
        mended_is = i.mended_is;
        mended_named = i.mended_named;
        unnamed_same = same_unnamed;
        unnamed_none = none_unnamed;
      }
      step_taken false = record {
        calm = calm (taken p t false);
        record_stands = i.record_stands;
        names = i.names;
        below = next_below;
        right = λ k h. right_at k h (ℕ_discrete k t);
        read_is = counted;
        mended_is = ap (λ (u : ℕ). u + 1) i.mended_is ∙ add-one (length z.mended);
        mended_named = λ k q. elim q [ inl e ↦ here k e | inr v ↦ i.mended_named k v ];
        unnamed_same = same_unnamed;
        unnamed_none = none_unnamed;
      }
        where
          here : (k : ℕ) → k ≡ t → (k < stripe_count g) × (z.names k ≡ true)
          here k e = (subst (λ (u : ℕ). u < stripe_count g) (sym e) inside, ap z.names e ∙ i.names t ∙ is_named)
