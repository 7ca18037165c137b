-- Destages keep what is known of a ready array. Assumes nothing.
use Rattle.std.proofs.Common.{◌≡◌, ℕ, ◌<◌, Bool, true, false, cond, List, [], ◌∷◌, length, Some, None, Option, sym, refl, ap, ◌∙◌, subst, inl, inr}
use native.Mathlib.Decide.{ℕ_discrete}
use Rattle.member_store.specs.Meaning as store
use Rattle.member_store.specs.Meaning.{current, In}
use Rattle.member_store.specs.declared.refusal.Refusal.{Refusal}
use Rattle.device_calls.specs.Lists.{barrier, Completed, Stopped}
use Rattle.intent_log.specs.Meaning as intent
use Rattle.intent_log.specs.Meaning.{Standing, MayStand}
use Rattle.intent_log.specs.Calls as log
use Rattle.cache.specs.Contents.{exchanged}
use Rattle.cache.specs.Stripes.{Listed, by_position, stripe_freed}
use Rattle.stripe_work.specs.Stripe.{Stripe, data_at, RightParity}
use Rattle.stripe_work.specs.Work.{CachedBlocks, or_else, merged, destage_calls}
use Rattle.stripe_work.specs.Outcomes as outcome
use Rattle.stripe_work.proofs.Parts.{Distinct, distinct}
use Rattle.stripe_work.proofs.Destaging as lower
use Rattle.array_model.specs.Meaning.{Meaning, array, named, Geometry, stripe_count, stripe}
use Rattle.array_model.specs.Work.{devices, mark, fresh, AllAccepted, FirstRefused}
use Rattle.array_model.specs.Checks.{all_named}
use Rattle.array_model.specs.Calls.{naming_actions}
use Rattle.array_model.specs.Book.{Book, InBook}
use Rattle.array_model.specs.declared.state.State.TheVariants.{Ready}
use Rattle.array_model.specs.declared.refusal.ArrayRefusal.{ArrayRefusal}
use Rattle.array_model.proofs.Places.{Facts, width, number, by_number, freed_same, freed_other, freed_was, listed_in, all_named_in}
use Rattle.array_model.proofs.Inv.{On, has, Grows, Sized, member_below, Crash, Guarded, Sure, NoBlocks, InReadiness, destaged, crash_grows, crash_within, crash_log, includes_guarded, sure_guard}
use Rattle.array_model.proofs.Effects.{Destages, destage_stores, completed_grows, stopped_grows, stopped_on, completed_has, parity_sized, barrier_current, barrier_sized, barrier_cut, log_refused}
use Rattle.array_model.proofs.Barriers.{right_same, bar_crash}

module _ (g : Geometry) (f : Facts g) (b : Book) (s : Meaning) (i : InReadiness g b s) where
  -- STRIPE k OF THE DESTAGING CACHE
  module _ (k : ℕ) (inside : k < stripe_count g) (is_named : named s k ≡ true) where
    abbrev w : Stripe
    w = stripe g k

    abbrev cached : CachedBlocks
    cached = by_position g.members g.blocks s.caches.destaging k

    apart : Distinct w
    apart = distinct g.arrange g.members k (f.lawful k)

    in_book : (j : ℕ) (x : List ℕ) → j < width g → cached j ≡ Some x → InBook b (number g k j) x
    in_book j x h e = i.by_destaging k j x inside h (sym (by_number g f s.caches.destaging k j inside h) ∙ e)

    merged_sized : (j : ℕ) → j < width g → length (merged w cached s.members j) ≡ 512
    merged_sized j h = go (cached j) refl
      where
        go : (o : Option (List ℕ)) → cached j ≡ o → length (or_else o (data_at w s.members j)) ≡ 512
        go None e = i.full (w.member j) w.block (member_below g f k j h) inside
        go (Some x) e = i.crash.sized k j x inside h (in_book j x h e)

    stripe_crash : (n : store.Meaning) → On g n → Grows g (Destages w cached) s.members n → Crash g b n s.log
    stripe_crash n on grows =
        crash_grows g f b (Destages w cached) s.members n s.log on grows
        (λ t m v h a c st up. ap c.names a.0 ∙ ap (λ (d : Standing). d.names k) (i.sure.single c st) ∙ is_named)
        by size i.crash
      where
        found : (t j : ℕ) (v : List ℕ) → t ≡ k → j < width g → (q : ℕ) × (q < width g) × ((stripe g t).member j ≡ w.member q) × (cached q ≡ Some v) → InBook b (number g t j) v
        found t j v e h a =
            let same : j ≡ a.0 = apart.differ j a.0 h a.1 (ap (λ (u : ℕ). (stripe g u).member j) (sym e) ∙ a.2) in
            subst (λ (u : ℕ). InBook b (number g u j) v) (sym e) (subst (λ (u : ℕ). InBook b (number g k u) v) (sym same) (in_book a.0 v a.1 a.3))

        by : (t j : ℕ) (v : List ℕ) → t < stripe_count g → j < width g → Destages w cached ((stripe g t).member j) (stripe g t).block v → InBook b (number g t j) v
        by t j v h l a =
            elim a.1 [
              | inl p ↦ absurd ((f.lawful t).apart j l (p.0 ∙ ap (λ (u : ℕ). (stripe g u).parity) (sym a.0)))
              | inr q ↦ found t j v a.0 l q
            ]

        size : (m c : ℕ) (v : List ℕ) → m < g.members → c < g.blocks → Destages w cached m c v → length v ≡ 512
        size m c v p q a = elim a.1 [ inl u ↦ u.1 | inr u ↦ i.crash.sized k u.0 v inside u.1 (in_book u.0 v u.1 u.3) ]

    pub moved_cut : (e : Refusal) (n : store.Meaning) → Stopped (destage_calls w cached s.members) s.members e n → Crash g b n s.log
    moved_cut e n d =
        stripe_crash n (stopped_on g (destage_calls w cached s.members) s.members n e i.crash.on d)
        (stopped_grows g (Destages w cached) (destage_calls w cached s.members) s.members n i.crash.on (destage_stores w cached s.members merged_sized) e d)

    module _ (n : store.Meaning) (d : Completed (destage_calls w cached s.members) s.members n) where
      left : outcome.Destaged w cached s.members n
      left = lower.destaged w apart cached s.members n d

      elsewhere : (m c : ℕ) → m < g.members → c < g.blocks → (c ≡ k → ⊥) → current n m c ≡ current s.members m c
      elsewhere m c p q ne = left.elsewhere m c (has g s.members i.crash.on m c p q) ne

      data_sized : (j : ℕ) → j < width g → length (data_at w n j) ≡ 512
      data_sized j h = ap length (left.merges j h) ∙ merged_sized j h

      here_sized : (m : ℕ) → m < g.members → length (current n m k) ≡ 512
      here_sized m p = go (ℕ_discrete m w.parity)
        where
          go : Dec (m ≡ w.parity) → length (current n m k) ≡ 512
          go (yes e) = ap (λ (u : ℕ). length (current n u k)) e ∙ ap length left.right ∙ parity_sized (data_at w n) (width g) data_sized
          go (no e) =
              ap (λ (u : ℕ). length (current n u k)) (sym ((f.lawful k).member_of_position m p e))
              ∙ data_sized ((g.arrange g.members k).position m) ((f.lawful k).position_below m p e)

      full : Sized g n
      full m c p q = go (ℕ_discrete c k)
        where
          go : Dec (c ≡ k) → length (current n m c) ≡ 512
          go (yes e) = ap (λ (u : ℕ). length (current n m u)) e ∙ here_sized m p
          go (no e) = ap length (elsewhere m c p q e) ∙ i.full m c p q

      pub moved_ready : InReadiness g b (array Ready (stripe_freed g.members g.blocks k s.caches) n s.log)
      moved_ready = record {
        crash = stripe_crash n (completed_has g (destage_calls w cached s.members) s.members n i.crash.on d)
            (completed_grows g (Destages w cached) (destage_calls w cached s.members) s.members n i.crash.on (destage_stores w cached s.members merged_sized) d);
        full = full;
        sure = i.sure;
        record_stands = i.record_stands;
        right = λ t h. right t h (ℕ_discrete t k);
        due = λ t j x h l e. i.due t j x h l (freed_was g f k s.caches (number g t j) x e);
        by_buffering = i.by_buffering;
        by_destaging = λ t j x h l e. i.by_destaging t j x h l (freed_was g f k s.caches (number g t j) x e);
        last = λ t j h l. ap (or_else (s.caches.buffering (number g t j))) (same t j h l (ℕ_discrete t k)) ∙ i.last t j h l;
      }
        where
          right : (t : ℕ) → t < stripe_count g → Dec (t ≡ k) → RightParity (stripe g t) n
          right t h (yes e) = subst (λ (u : ℕ). RightParity (stripe g u) n) (sym e) left.right
          right t h (no ne) = right_same g f s.members n t (λ m p. elsewhere m t p h ne) (i.right t h)

          same : (t j : ℕ) → t < stripe_count g → j < width g → Dec (t ≡ k)
              → or_else ((stripe_freed g.members g.blocks k s.caches).destaging (number g t j)) (data_at (stripe g t) n j) ≡ destaged g s t j
          same t j h l (yes e) =
              subst (λ (u : ℕ). or_else ((stripe_freed g.members g.blocks k s.caches).destaging (number g u j)) (data_at (stripe g u) n j) ≡ destaged g s u j) (sym e)
              (ap (λ (o : Option (List ℕ)). or_else o (data_at w n j)) (freed_same g f k s.caches j inside l)
              ∙ left.merges j l ∙ ap (λ (o : Option (List ℕ)). or_else o (data_at w s.members j)) (by_number g f s.caches.destaging k j inside l))
          same t j h l (no ne) =
              ap (λ (o : Option (List ℕ)). or_else o (data_at (stripe g t) n j)) (freed_other g f k s.caches t j h l ne)
              ∙ ap (or_else (s.caches.destaging (number g t j))) (elsewhere ((stripe g t).member j) t (member_below g f t j l) h ne)

  -- THE CACHES CHANGE PLACES, over members with the same current blocks and a log that names the new stripes
  changed : (n : store.Meaning) (l : intent.Meaning) → NoBlocks g s.caches.destaging → Crash g b n l → Sized g n → Sure l → l.standing.stands ≡ true
      → ((m c : ℕ) → m < g.members → c < g.blocks → current n m c ≡ current s.members m c)
      → ((k j : ℕ) (x : List ℕ) → k < stripe_count g → j < width g → s.caches.buffering (number g k j) ≡ Some x → l.standing.names k ≡ true)
      → InReadiness g b (array Ready (exchanged s.caches) n l)
  changed n l no_destaging crash full sure up same names = record {
    crash = crash;
    full = full;
    sure = sure;
    record_stands = up;
    right = λ k h. right_same g f s.members n k (λ m p. same m k p h) (i.right k h);
    due = names;
    by_buffering = i.by_destaging;
    by_destaging = i.by_buffering;
    last = λ k j h p.
        ap (λ (o : Option (List ℕ)). or_else o (or_else (s.caches.buffering (number g k j)) (data_at (stripe g k) n j))) (no_destaging k j h p)
        ∙ ap (or_else (s.caches.buffering (number g k j))) (same ((stripe g k).member j) k (member_below g f k j p) h
        ∙ ap (λ (o : Option (List ℕ)). or_else o (data_at (stripe g k) s.members j)) (sym (no_destaging k j h p)))
        ∙ i.last k j h p;
  }

  standing_guard : Guarded g s.members s.log.standing
  standing_guard = i.crash.guard s.log.standing (inl refl)

  module _ (w : List ℕ) (ls : Listed g.members g.blocks s.caches.buffering w) where
    pub named_ready : (n : store.Meaning) (l : intent.Meaning) → NoBlocks g s.caches.destaging → AllAccepted (naming_actions w s) s.members s.log n l → InReadiness g b (array Ready (exchanged s.caches) n l)
    named_ready n l no_destaging = go (all_named s w) refl (s.log.fits w)
      where
        go : (p : Bool) → all_named s w ≡ p → (q : Bool) → AllAccepted (cond p [] (cond q (mark w ∷ []) (devices (barrier ∷ []) ∷ fresh w ∷ []))) s.members s.log n l
            → InReadiness g b (array Ready (exchanged s.caches) n l)
        go true e q a =
            subst (λ (m : store.Meaning). InReadiness g b (array Ready (exchanged s.caches) m l)) (sym a.0)
            (subst (λ (k : intent.Meaning). InReadiness g b (array Ready (exchanged s.caches) s.members k)) (sym a.1)
            (changed s.members s.log no_destaging i.crash i.full i.sure i.record_stands (λ m c p q. refl)
            (λ k j x h p u. all_named_in s w e k (listed_in g f s.caches.buffering w ls k j x h p u))))
        go false e true a =
            let u = a.0 in
            let k = a.1 in
            let done = a.2.1.1 in
            let sure : Sure k = record { powered = done.on; single = done.single } in
            subst (λ (m : store.Meaning). InReadiness g b (array Ready (exchanged s.caches) m l)) (sym (a.3.0 ∙ a.2.0))
            (subst (λ (o : intent.Meaning). InReadiness g b (array Ready (exchanged s.caches) s.members o)) (sym a.3.1)
            (changed s.members k no_destaging
            (crash_log g b s.members s.log k
            (sure_guard g s.members k sure (includes_guarded g s.members s.log.standing k.standing i.record_stands done.holds.1 standing_guard)) i.crash)
            i.full sure done.holds.0 (λ m c p q. refl)
            (λ t j x h p v. done.holds.2 t (listed_in g f s.caches.buffering w ls t j x h p v))))
        go false e false a =
            let u = a.0 in
            let bar = a.2.0 in
            let k = a.3.1 in
            let done = a.3.2.1.1 in
            let sure : Sure k = record { powered = done.on; single = done.single } in
            subst (λ (m : store.Meaning). InReadiness g b (array Ready (exchanged s.caches) m l)) (sym (a.3.3.0 ∙ a.3.2.0))
            (subst (λ (o : intent.Meaning). InReadiness g b (array Ready (exchanged s.caches) u o)) (sym a.3.3.1)
            (changed u k no_destaging
            (bar_crash g f b s.members u i.crash.on bar i.full k i.right i.crash.known i.crash.sized)
            (barrier_sized g s.members u i.crash.on bar i.full) sure done.holds.0
            (λ m c p q. barrier_current g s.members u i.crash.on bar m c p q)
            (λ t j x h p v. done.holds.1 t (listed_in g f s.caches.buffering w ls t j x h p v))))

  pub naming_cut : (w : List ℕ) (e : ArrayRefusal) (n : store.Meaning) (l : intent.Meaning) → FirstRefused (naming_actions w s) s.members s.log e n l → Crash g b n l
  naming_cut w e n l = go (all_named s w) (s.log.fits w)
    where
      same_crash : (m : store.Meaning) → m ≡ s.members → l ≡ s.log → Crash g b m l
      same_crash m p q = subst (λ (u : store.Meaning). Crash g b u l) (sym p) (subst (Crash g b s.members) (sym q) i.crash)

      go : (p q : Bool) → FirstRefused (cond p [] (cond q (mark w ∷ []) (devices (barrier ∷ []) ∷ fresh w ∷ []))) s.members s.log e n l → Crash g b n l
      go true q r = absurd r
      go false true (inl r) =
          elim (log_refused (log.mark_checks s.log w) r.0 (l ≡ s.log) (log.CutShort (λ c. (c.stands ≡ true) × log.Includes c s.log.standing) s.log l) r.3) [
            | inl q ↦ same_crash n r.2 q
            | inr cut ↦ subst (λ (u : store.Meaning). Crash g b u l) (sym r.2)
                (crash_log g b s.members s.log l
                (λ c st. includes_guarded g s.members s.log.standing c i.record_stands (cut.holds c st).1 standing_guard) i.crash)
          ]
      go false true (inr r) = absurd r.3
      go false false (inl r) =
          subst (Crash g b n) (sym r.3)
          (crash_within g f b s.members n s.log (stopped_on g (barrier ∷ []) s.members n r.0 i.crash.on r.2) (barrier_cut g s.members n r.0 i.crash.on r.2) i.crash)
      go false false (inr r) =
          let u = r.0 in
          let bar = r.2.0 in
          elim r.3 [
            | inl q ↦ subst (λ (m : store.Meaning). Crash g b m l) (sym q.2)
                (bar_crash g f b s.members u i.crash.on bar i.full l i.right i.crash.known i.crash.sized)
            | inr q ↦ absurd q.3
          ]
