-- Destage, flush and close keep what is known. Assumes nothing.
use Rattle.std.proofs.Common.{◌≡◌, ℕ, ◌<◌, true, ◌⊎◌, List, [], ◌∷◌, length, Some, None, Ok, Err, Option, Result, sym, refl, ap, ◌∙◌, subst, inl, inr}
use Rattle.std.proofs.lemmas.Option.{none-some}
use Rattle.std.specs.Option as options
use Rattle.std.specs.Result as results
use Rattle.member_store.specs.Meaning as store
use Rattle.member_store.specs.Meaning.{current, Version, In}
use Rattle.device_calls.specs.Lists.{barrier, Completed}
use Rattle.intent_log.specs.Meaning as intent
use Rattle.intent_log.specs.Calls as log
use Rattle.cache.specs.Contents.{empty, exchanged}
use Rattle.cache.specs.Stripes.{Lowest, Listed, by_position, stripe_freed}
use Rattle.stripe_work.specs.Stripe.{data_at}
use Rattle.stripe_work.specs.Work.{or_else, destage_calls}
use Rattle.array_model.specs.Meaning.{Meaning, array, in_state, named, Geometry, stripe_count, stripe}
use Rattle.array_model.specs.Work.{clear, Performs}
use Rattle.array_model.specs.Checks.{naming_check}
use Rattle.array_model.specs.Calls.{Plain, InReady, naming_actions, puts, ChangesCaches, MovesStripe, DestagesReady, Destages, Drains, begin, then_moved, then_changed, Settles, FlushesReady, Flushes, ClosesReady, Closes}
use Rattle.array_model.specs.Book.{Book, InBook, newest_of, latest, settled, Since, booked, flush, close}
use Rattle.array_model.specs.declared.state.State.{State}
use Rattle.array_model.specs.declared.state.State.TheVariants.{Fallen, Down, Ready}
use Rattle.array_model.specs.declared.answer.Destage.{Destage}
use Rattle.array_model.specs.declared.answer.Destage.TheVariants.{Moved, Changed, Idle}
use Rattle.array_model.specs.declared.answer.FlushCounts.{FlushCounts}
use Rattle.array_model.specs.declared.refusal.ArrayRefusal.{ArrayRefusal}
use Rattle.array_model.specs.declared.refusal.ArrayRefusal.TheVariants.{WrongState}
use Rattle.array_model.proofs.Places.{Facts, width, number, lowest_none, lowest_some, listed_none}
use Rattle.array_model.proofs.Inv.{On, Sized, member_below, Known, BookSized, Crash, AllClean, NoBlocks, Calm, InReadiness, InvIn, Inv, crash_within, clean_crash}
use Rattle.array_model.proofs.Effects.{completed_has, stopped_on, barrier_current, barrier_only, barrier_sized, barrier_cut}
use Rattle.array_model.proofs.Barriers.{accepted_devices, refused_devices, bar_known, bar_whole, bar_clean, bar_right}
use Rattle.array_model.proofs.Destaging.{moved_ready, moved_cut, named_ready, naming_cut}
use Rattle.array_model.proofs.Cases.{ok≢err, stay, checked, in_ready}

-- ready as before, or fallen
pub record StillReady (g : Geometry) (b : Book) (t : Meaning) : Type 0 where
  pub ready : InReadiness g b t
  pub state : t.state ≡ Ready

pub record NowFallen (g : Geometry) (b : Book) (t : Meaning) : Type 0 where
  pub crash : Crash g b t.members t.log
  pub state : t.state ≡ Fallen

pub still_inv : (g : Geometry) (b : Book) (z : Since) (t : Meaning) → StillReady g b t → Inv g b z t
still_inv g b z t h = subst (λ (q : State). InvIn g b z q t) (sym h.state) h.ready

pub fallen_inv : (g : Geometry) (b : Book) (z : Since) (t : Meaning) → NowFallen g b t → Inv g b z t
fallen_inv g b z t h = subst (λ (q : State). InvIn g b z q t) (sym h.state) h.crash

abbrev pub Kept : {A : Type 0} → Geometry → Book → Result A ArrayRefusal → Meaning → Type 0
Kept g b r t = results.MatchResult r (λ a. StillReady g b t) (λ e. StillReady g b t ⊎ NowFallen g b t)

pub kept_crash : (g : Geometry) (b : Book) (t : Meaning) → StillReady g b t ⊎ NowFallen g b t → Crash g b t.members t.log
kept_crash g b t (inl h) = h.ready.crash
kept_crash g b t (inr h) = h.crash

module _ (g : Geometry) (f : Facts g) (b : Book) (s : Meaning) (i : StillReady g b s) where
  as_was : {A : Type 0} (r : Result A ArrayRefusal) (t : Meaning) → t ≡ s → Kept g b r t
  as_was (Ok a) t e = subst (StillReady g b) (sym e) i
  as_was (Err a) t e = inl (subst (StillReady g b) (sym e) i)

  moves : (k : ℕ) (r : Result Destage ArrayRefusal) (t : Meaning) → k < stripe_count g → named s k ≡ true → MovesStripe g k s r t → Kept g b r t
  moves k (Ok a) t l n h =
      let os = destage_calls (stripe g k) (by_position g.members g.blocks s.caches.destaging k) s.members in
      let d = accepted_devices os s.members t.members s.log t.log h.1 in
      subst (StillReady g b) (sym h.2)
      (record {
        ready = subst (λ (o : intent.Meaning). InReadiness g b (array Ready (stripe_freed g.members g.blocks k s.caches) t.members o)) (sym d.1)
            (moved_ready g f b s i.ready k l n t.members d.0);
        state = refl;
      })
  moves k (Err e) t l n h =
      let os = destage_calls (stripe g k) (by_position g.members g.blocks s.caches.destaging k) s.members in
      let d = refused_devices os s.members t.members s.log t.log e h.0 in
      inr (subst (NowFallen g b) (sym h.1)
      (record { crash = subst (Crash g b t.members) (sym d.3) (moved_cut g f b s i.ready k l n d.0 t.members d.2); state = refl }))

  changes_done : (w : List ℕ) (a : Destage) (r : Result Destage ArrayRefusal) (t : Meaning) → NoBlocks g s.caches.destaging → Listed g.members g.blocks s.caches.buffering w
      → Performs (naming_actions w s) a Ready (exchanged s.caches) s r t → Kept g b r t
  changes_done w a (Ok c) t nd ls h =
      subst (StillReady g b) (sym h.2) (record { ready = named_ready g f b s i.ready w ls t.members t.log nd h.1; state = refl })
  changes_done w a (Err e) t nd ls h =
      inr (subst (NowFallen g b) (sym h.1) (record { crash = naming_cut g f b s i.ready w e t.members t.log h.0; state = refl }))

  changes : (w : List ℕ) (r : Result Destage ArrayRefusal) (t : Meaning) → NoBlocks g s.caches.destaging → Listed g.members g.blocks s.caches.buffering w → ChangesCaches w s r t → Kept g b r t
  changes [] r t nd ls h = as_was r t h.1
  changes (k ∷ ks) r t nd ls h =
      elim (checked s r t (naming_check (k ∷ ks) s) (Performs (naming_actions (k ∷ ks) s) (Changed (puts (k ∷ ks) s)) Ready (exchanged s.caches) s r t) h) [
        | inl a ↦ changes_done (k ∷ ks) (Changed (puts (k ∷ ks) s)) r t nd ls a.1
        | inr a ↦ as_was r t a.2.1
      ]

  destages_in : (r : Result Destage ArrayRefusal) (t : Meaning) (o : Option ℕ) → Lowest g.members g.blocks s.caches.destaging o
      → options.MatchOption o ((w : List ℕ) × Listed g.members g.blocks s.caches.buffering w × ChangesCaches w s r t) (λ k. MovesStripe g k s r t) → Kept g b r t
  destages_in r t None low h = changes h.0 r t (lowest_none g f s.caches.destaging low) h.1 h.2
  destages_in r t (Some k) low h =
      let p = lowest_some g f s.caches.destaging k low in
      moves k r t p.0 (i.ready.due k p.1.0 p.1.2.0 p.0 p.1.1 p.1.2.1) h

  pub destages : (r : Result Destage ArrayRefusal) (t : Meaning) → Destages g s r t → Kept g b r t
  destages r t h =
      let d : DestagesReady g s r t = subst (λ (q : State). InReady (DestagesReady g) q s r t) i.state h in
      destages_in r t d.0 d.1 d.2

  -- an idle destage: both caches are empty
  idle_in : (t : Meaning) (o : Option ℕ) → Lowest g.members g.blocks s.caches.destaging o
      → options.MatchOption o ((w : List ℕ) × Listed g.members g.blocks s.caches.buffering w × ChangesCaches w s (Ok Idle) t) (λ k. MovesStripe g k s (Ok Idle) t)
      → NoBlocks g s.caches.buffering × NoBlocks g s.caches.destaging
  idle_in t None low (w, ls, h) = (no_buffered w ls h, lowest_none g f s.caches.destaging low)
    where
      no_buffered : (w : List ℕ) → Listed g.members g.blocks s.caches.buffering w → ChangesCaches w s (Ok Idle) t → NoBlocks g s.caches.buffering
      no_buffered [] ls h = listed_none g f s.caches.buffering ls
      no_buffered (k ∷ ks) ls h =
          elim (checked s (Ok Idle) t (naming_check (k ∷ ks) s) (Performs (naming_actions (k ∷ ks) s) (Changed (puts (k ∷ ks) s)) Ready (exchanged s.caches) s (Ok Idle) t) h) [
            | inl a ↦ absurd (cc (a.1.0))
            | inr a ↦ absurd (ok≢err a.2.0)
          ]
  idle_in t (Some k) low h = absurd (cc (h.0))

  pub idle : (t : Meaning) → Destages g s (Ok Idle) t → NoBlocks g s.caches.buffering × NoBlocks g s.caches.destaging
  idle t h =
      let d : DestagesReady g s (Ok Idle) t = subst (λ (q : State). InReady (DestagesReady g) q s (Ok Idle) t) i.state h in
      idle_in t d.0 d.1 d.2

pub drains : (g : Geometry) (f : Facts g) (b : Book) (s : Meaning) (n p : ℕ) (t : Meaning) → StillReady g b s → Drains g s n p t → StillReady g b t
drains g f b s _ _ t i begin = i
drains g f b s _ _ t i (then_moved {n = n} {p = p} {t = u} k _ d h) = destages g f b u (drains g f b s n p u i d) (Ok (Moved k)) t h
drains g f b s _ _ t i (then_changed {n = n} {p = p} {t = u} q _ d h) = destages g f b u (drains g f b s n p u i d) (Ok (Changed q)) t h

-- AFTER AN ACCEPTED FLUSH

latest_in : (b : Book) (k : ℕ) → InBook b k (latest b k)
latest_in b k = go (b.list k)
  where
    go : (l : List (List ℕ)) → (newest_of (b.base k) l ≡ b.base k) ⊎ In (newest_of (b.base k) l) l
    go [] = inl refl
    go (x ∷ l) = inr (inl refl)

settled_sized : (g : Geometry) (b : Book) → BookSized g b → BookSized g (settled b)
settled_sized g b h s j v p q (inl e) = ap length e ∙ h s j (latest b (number g s j)) p q (latest_in b (number g s j))
settled_sized g b h s j v p q (inr w) = absurd w

-- every stripe is clean, every block has its latest bytes only
pub record Flushed (g : Geometry) (b : Book) (t : Meaning) : Type 0 where
  pub still : StillReady g (settled b) t
  pub clean : AllClean g t.members
  pub known : Known g (settled b) t.members
  pub known_before : Known g b t.members
  pub sized_before : BookSized g b

module _ (g : Geometry) (f : Facts g) (b : Book) (s : Meaning) (i : StillReady g b s) (nb : NoBlocks g s.caches.buffering) (nd : NoBlocks g s.caches.destaging)
    (n : store.Meaning) (d : Completed (barrier ∷ []) s.members n) where
  on : On g s.members
  on = i.ready.crash.on

  full : Sized g s.members
  full = i.ready.full

  newest_held : (k j : ℕ) → k < stripe_count g → j < width g → data_at (stripe g k) s.members j ≡ latest b (number g k j)
  newest_held k j h p =
      sym (ap (λ (o : Option (List ℕ)). or_else o (or_else (s.caches.destaging (number g k j)) (data_at (stripe g k) s.members j))) (nb k j h p)
      ∙ ap (λ (o : Option (List ℕ)). or_else o (data_at (stripe g k) s.members j)) (nd k j h p))
      ∙ i.ready.last k j h p

  known : Known g (settled b) n
  known k j v h p w = inl (barrier_only g s.members n on d ((stripe g k).member j) (stripe g k).block v (member_below g f k j p) h w ∙ newest_held k j h p)

  clean : AllClean g n
  clean = bar_clean g f b s.members n on d full i.ready.right

  pub flushed : Flushed g b (array Ready s.caches n s.log)
  unfolding on full clean
  flushed = record {
    still = record {
      ready = record {
        crash = clean_crash g (settled b) n s.log (completed_has g (barrier ∷ []) s.members n on d) clean known (bar_whole g f b s.members n on d full) (settled_sized g b i.ready.crash.sized);
        full = barrier_sized g s.members n on d full;
        sure = i.ready.sure;
        record_stands = i.ready.record_stands;
        right = λ k h. bar_right g f b s.members n on d full k h (i.ready.right k h);
        due = i.ready.due;
        by_buffering = λ k j x h p e. absurd (none-some x (sym (nb k j h p) ∙ e));
        by_destaging = λ k j x h p e. absurd (none-some x (sym (nd k j h p) ∙ e));
        last = λ k j h p.
            ap (λ (o : Option (List ℕ)). or_else o (or_else (s.caches.destaging (number g k j)) (data_at (stripe g k) n j))) (nb k j h p)
            ∙ ap (λ (o : Option (List ℕ)). or_else o (data_at (stripe g k) n j)) (nd k j h p)
            ∙ barrier_current g s.members n on d ((stripe g k).member j) (stripe g k).block (member_below g f k j p) h ∙ newest_held k j h p;
      };
      state = refl;
    };
    clean = clean;
    known = known;
    known_before = bar_known g f b s.members n on d full i.ready.crash.known;
    sized_before = i.ready.crash.sized;
  }

abbrev pub AfterFlush : Geometry → Book → Result FlushCounts ArrayRefusal → Meaning → Type 0
AfterFlush g b r t = results.MatchResult r (λ c. Flushed g b t) (λ e. StillReady g b t ⊎ NowFallen g b t)

settles : (g : Geometry) (f : Facts g) (b : Book) (c : FlushCounts) (s : Meaning) (r : Result FlushCounts ArrayRefusal) (t : Meaning) → StillReady g b s → Settles g c s r t → AfterFlush g b r t
settles g f b c s (Ok a) t i h =
    let e = idle g f b s i s h.0 in
    let d = accepted_devices (barrier ∷ []) s.members t.members s.log t.log h.1.1 in
    subst (Flushed g b) (sym h.1.2)
    (subst (λ (l : intent.Meaning). Flushed g b (array Ready s.caches t.members l)) (sym d.1) (flushed g f b s i e.0 e.1 t.members d.0))
settles g f b c s (Err a) t i h =
    let d = refused_devices (barrier ∷ []) s.members t.members s.log t.log a h.1.0 in
    inr (subst (NowFallen g b) (sym h.1.1) (record {
      crash = subst (Crash g b t.members) (sym d.3)
          (crash_within g f b s.members t.members s.log (stopped_on g (barrier ∷ []) s.members t.members d.0 i.ready.crash.on d.2)
          (barrier_cut g s.members t.members d.0 i.ready.crash.on d.2) i.ready.crash);
      state = refl;
    }))

pub flushes : (g : Geometry) (f : Facts g) (b : Book) (s : Meaning) (r : Result FlushCounts ArrayRefusal) (t : Meaning) → StillReady g b s → FlushesReady g s r t → AfterFlush g b r t
flushes g f b s r t i (n, p, u, d, inl h) = settles g f b (record { stripes = n; puts = p }) u r t (drains g f b s n p u i d) h
flushes g f b s r t i (n, p, u, d, inr h) =
    subst (λ (q : Result FlushCounts ArrayRefusal). AfterFlush g b q t) (sym h.1) (destages g f b u (drains g f b s n p u i d) (Err h.0) t h.2)

module _ (g : Geometry) (f : Facts g) (b : Book) (z : Since) (s : Meaning) (i : Inv g b z s) where
  pub keep_destage : (r : Result Destage ArrayRefusal) (t : Meaning) → Destages g s r t → Inv g b z t
  keep_destage r t h =
      in_ready s r t (λ q. InvIn g b z q s) (Inv g b z t) (DestagesReady g)
      (λ d. stay s r t (λ r t. Inv g b z t) (WrongState s.state) d i)
      (λ c k e. go r (destages g f b s (record { ready = c; state = e }) r t h))
      s.state refl i h
    where
      go : (r : Result Destage ArrayRefusal) → Kept g b r t → Inv g b z t
      go (Ok a) k = still_inv g b z t k
      go (Err e) (inl k) = still_inv g b z t k
      go (Err e) (inr k) = fallen_inv g b z t k

  pub keep_flush : (r : Result FlushCounts ArrayRefusal) (t : Meaning) → Flushes g s r t → Inv g (booked g flush r t b) z t
  keep_flush r t h =
      in_ready s r t (λ q. InvIn g b z q s) (Inv g (booked g flush r t b) z t) (FlushesReady g)
      (λ d. stay s r t (λ r t. Inv g (booked g flush r t b) z t) (WrongState s.state) d i)
      (λ c k e. go r (flushes g f b s r t (record { ready = c; state = e }) k))
      s.state refl i h
    where
      go : (r : Result FlushCounts ArrayRefusal) → AfterFlush g b r t → Inv g (booked g flush r t b) z t
      go (Ok a) k = still_inv g (settled b) z t k.still
      go (Err e) (inl k) = still_inv g b z t k
      go (Err e) (inr k) = fallen_inv g b z t k

  -- the flush that a close begins with
  pub flush_of : s.state ≡ Ready → (r : Result FlushCounts ArrayRefusal) (u : Meaning) → InReadiness g b s → Flushes g s r u → AfterFlush g b r u
  flush_of e r u c h = flushes g f b s r u (record { ready = c; state = e }) (subst (λ (q : State). InReady (FlushesReady g) q s r u) e h)

  close_done : (u : Meaning) (r : Plain) (t : Meaning) → Flushed g b u → Performs (clear ∷ []) tt Down empty u r t → Inv g (booked g close r t b) z t
  close_done u (Ok a) t k h =
      let m : t.members ≡ u.members = h.1.3.0 ∙ h.1.2.0 in
      let done = (subst (log.Clears {U = Unit {0}} u.log (Ok tt)) (sym h.1.3.1) h.1.2.1).1 in
      subst (Inv g (settled b) z) (sym h.2)
      (subst (λ (n : store.Meaning). Calm g (settled b) (array Down empty n t.log)) (sym m) (record {
        crash = clean_crash g (settled b) u.members t.log k.still.ready.crash.on k.clean k.known k.still.ready.crash.whole k.still.ready.crash.sized;
        full = k.still.ready.full;
        sure = record { powered = done.on; single = done.single };
        no_buffered = λ k j p q. refl;
        no_destaging = λ k j p q. refl;
      }))
  close_done u (Err e) t k (inl a, q) =
      subst (Inv g b z) (sym q)
      (subst (λ (n : store.Meaning). Crash g b n t.log) (sym a.2)
      (clean_crash g b u.members t.log k.still.ready.crash.on k.clean k.known_before k.still.ready.crash.whole k.sized_before))
  close_done u (Err e) t k (inr a, q) = absurd a.3

  pub keep_close : (r : Plain) (t : Meaning) → Closes g s r t → Inv g (booked g close r t b) z t
  keep_close r t h =
      in_ready s r t (λ q. InvIn g b z q s) (Inv g (booked g close r t b) z t) (ClosesReady g)
      (λ d. stay s r t (λ r t. Inv g (booked g close r t b) z t) (WrongState s.state) d i)
      (λ c k e. go c e k.0 k.1 k.2 k.3)
      s.state refl i h
    where
      go : InReadiness g b s → s.state ≡ Ready → (x : Result FlushCounts ArrayRefusal) (u : Meaning) → Flushes g s x u
          → results.MatchResult x (λ _. Performs (clear ∷ []) tt Down empty u r t) (λ e. (r ≡ Err e) × (t ≡ in_state Fallen u)) → Inv g (booked g close r t b) z t
      go c e (Ok a) u k p = close_done u r t (flush_of e (Ok a) u c k) p
      go c e (Err a) u k p =
          subst (λ (v : Meaning). Inv g (booked g close r v b) z v) (sym p.1)
          (subst (λ (v : Plain). Inv g (booked g close v (in_state Fallen u) b) z (in_state Fallen u)) (sym p.0) (kept_crash g b u (flush_of e (Err a) u c k)))
