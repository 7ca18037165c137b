-- The crash promise follows from what is known. Assumes nothing.
use Rattle.std.proofs.Common.{◌≡◌, ℕ, Bool, true, false, cond, List, [], ◌∷◌, length, Some, None, Ok, Err, Option, Result, sym, refl, ap, ◌∙◌, subst, inl, inr}
use Rattle.std.specs.Option as options
use Rattle.std.specs.Option.{option_or}
use Rattle.std.specs.Result as results
use Rattle.geometry.specs.Counts.{counts_allowed}
use Rattle.member_store.specs.Meaning as store
use Rattle.device_calls.specs.Lists.{barrier, Completed}
use Rattle.cache.specs.Contents.{empty, newest}
use Rattle.stripe_work.specs.Work.{or_else}
use Rattle.array_model.specs.Meaning.{Meaning, in_state, Geometry, home, position, held}
use Rattle.array_model.specs.Work.{clear, Performs, Declines}
use Rattle.array_model.specs.Checks.{limits_check, block_checks}
use Rattle.array_model.specs.Calls.{Plain, Checked, format_actions, Formats, NextDue, totals, finish_actions, FinishesFrom, Finishes, Fetches, read_calls, ReadsNewest, Reads, FlushesReady, Flushes, ClosesReady, Closes}
use Rattle.array_model.specs.Book.{Book, InBook, latest, holding, settled, zero_book, Since}
use Rattle.array_model.specs.Promise.{Consistent, HeldByBook, OnlyBase, HoldsAt, CrashPromise}
use Rattle.array_model.specs.declared.state.Progress.{Progress}
use Rattle.array_model.specs.declared.state.State.{State}
use Rattle.array_model.specs.declared.state.State.TheVariants.{Fallen, Down, Ready}
use Rattle.array_model.specs.declared.answer.ResyncCounts.{ResyncCounts}
use Rattle.array_model.specs.declared.answer.FlushCounts.{FlushCounts}
use Rattle.array_model.specs.declared.refusal.ArrayRefusal.{ArrayRefusal}
use Rattle.array_model.specs.declared.refusal.ArrayRefusal.TheVariants.{Limits, StripeLeft}
use Rattle.array_model.proofs.Places.{Facts, number, num_back, home_below, position_below'}
use Rattle.array_model.proofs.Inv.{Known, Calm, InResyncing, InReadiness, InvIn, Inv}
use Rattle.array_model.proofs.Cases.{ok≢err, in_down, in_resync, in_ready, block_passed}
use Rattle.array_model.proofs.Resyncing.{finish_consistent, finish_by_book, finish_known}
use Rattle.array_model.proofs.Opening.{format_parts, zeroed_known}
use Rattle.array_model.proofs.Flushing.{flushes, flush_of}
use Rattle.array_model.proofs.Shorts.{short_read}
use Rattle.array_model.proofs.Kept.{geo, same_geometry, so_far}

-- with empty lists, what is by the book is the base
only_base : (g : Geometry) (f : Facts g) (base : ℕ → List ℕ) (m : store.Meaning) → Known g (holding base) m → OnlyBase g (holding base) m
only_base g f base m known k v h w = go (known (home g k) (position g k) v (home_below g f k h) (position_below' g f k) w)
  where
    go : InBook (holding base) (number g (home g k) (position g k)) v → v ≡ base k
    go (inl e) = e ∙ ap base (num_back g f k)
    go (inr u) = absurd u

module _ (g : Geometry) (f : Facts g) (b : Book) (z : Since) (s : Meaning) (i : Inv g b z s) where
  -- an accepted finish: no stripe was left, and the members were barred
  finishing : (G : ResyncCounts → Meaning → Type 0)
      → ((p : Progress) (t : Meaning) → InResyncing g b z p s → NextDue g s p None → Completed (barrier ∷ []) s.members t.members → G (totals p) t)
      → (c : ResyncCounts) (t : Meaning) → Finishes g s (Ok c) t → G c t
  finishing G use-it c t h =
      in_resync s (Ok c) t (λ q. InvIn g b z q s) (G c t) (FinishesFrom g)
      (λ d. absurd (ok≢err d.0))
      (λ p x k e. go p x k.0 k.1 k.2)
      s.state refl i h
    where
      go : (p : Progress) → InResyncing g b z p s → (o : Option ℕ) → NextDue g s p o
          → options.MatchOption o (Performs finish_actions (totals p) Ready s.caches s (Ok c) t) (λ k. (◌≡◌ {A = Result ResyncCounts ArrayRefusal} (Ok c) (Err (StripeLeft k))) × (t ≡ in_state Down s)) → G c t
      go p x None l k =
          subst (λ (u : ResyncCounts). G u t) (sym k.0)
          (use-it p t x l (subst (Completed (barrier ∷ []) s.members) (sym (k.1.3.3.0 ∙ k.1.3.2.0)) k.1.2.0))
      go p x (Some n) l k = absurd (ok≢err k.0)

  flushing : (c : FlushCounts) (t : Meaning) → Flushes g s (Ok c) t → OnlyBase g (settled b) t.members
  flushing c t h =
      in_ready s (Ok c) t (λ q. InvIn g b z q s) (OnlyBase g (settled b) t.members) (FlushesReady g)
      (λ d. absurd (ok≢err d.0))
      (λ x k e. only_base g f (latest b) t.members (flushes g f b s (Ok c) t (record { ready = x; state = e }) k).known)
      s.state refl i h

  closing : (t : Meaning) → Closes g s (Ok tt) t → OnlyBase g (settled b) t.members
  closing t h =
      in_ready s (Ok tt) t (λ q. InvIn g b z q s) (OnlyBase g (settled b) t.members) (ClosesReady g)
      (λ d. absurd (ok≢err d.0))
      (λ x k e. go x e k.0 k.1 k.2 k.3)
      s.state refl i h
    where
      go : InReadiness g b s → s.state ≡ Ready → (x : Result FlushCounts ArrayRefusal) (u : Meaning) → Flushes g s x u
          → results.MatchResult x (λ _. Performs {A = Unit {0}} (clear ∷ []) tt Down empty u (Ok tt) t) (λ e. (◌≡◌ {A = Plain} (Ok tt) (Err e)) × (t ≡ in_state Fallen u)) → OnlyBase g (settled b) t.members
      go x e (Ok a) u k p =
          only_base g f (latest b) t.members (subst (Known g (settled b)) (sym (p.1.3.0 ∙ p.1.2.0)) (flush_of g f b z s i e (Ok a) u x k).known)
      go x e (Err a) u k p = absurd (ok≢err p.0)

  formatting : (t : Meaning) → Formats g s (Ok tt) t → OnlyBase g zero_book t.members
  formatting t h =
      in_down s (Ok tt) t (λ q. InvIn g b z q s) (OnlyBase g zero_book t.members)
      (λ s r t. Checked (limits_check g) s r t (Performs (format_actions g) tt Down s.caches s r t))
      (λ d. absurd (ok≢err d.0))
      (λ c k e. go c (counts_allowed g.members g.blocks) k)
      s.state refl i h
    where
      go : Calm g b s → (q : Bool) → Checked {A = Unit {0}} (cond q None (Some (Limits g.members g.blocks))) s (Ok tt) t (Performs {A = Unit {0}} (format_actions g) tt Down s.caches s (Ok tt) t) → OnlyBase g zero_book t.members
      go c true k =
          only_base g f zero_book.base t.members
          (zeroed_known g f s.members t.members c.crash.on (format_parts g s.members t.members s.log t.log k.1).1)
      go c false k = absurd (ok≢err k.0)

  newest_is : (x y : Option (List ℕ)) (under new : List ℕ) → options.MatchOption (option_or x y) (new ≡ under) (λ v. new ≡ v) → new ≡ or_else x (or_else y under)
  newest_is (Some x) y under new h = h
  newest_is None (Some y) under new h = h
  newest_is None None under new h = h

  reading : (k : ℕ) (old new : List ℕ) (t : Meaning) → Reads g k old new s (Ok tt) t → new ≡ latest b k
  reading k old new t h =
      in_ready s (Ok tt) t (λ q. InvIn g b z q s) (new ≡ latest b k)
      (λ s r t. options.MatchOption (block_checks g k (length old)) (ReadsNewest g k old new s r t) (λ e. Declines e s r t × (new ≡ old)))
      (λ d. absurd (ok≢err d.0))
      (λ x p e. go x (block_checks g k (length old)) refl p)
      s.state refl i h
    where
      found : (o : Option (List ℕ)) → options.MatchOption o (Fetches (read_calls g k) (held g s.members k) old new s (Ok tt) t) (λ x. (◌≡◌ {A = Plain} (Ok tt) (Ok tt)) × (new ≡ x) × (t ≡ s))
          → options.MatchOption o (new ≡ held g s.members k) (λ v. new ≡ v)
      found None p = p.1
      found (Some x) p = p.1

      go : InReadiness g b s → (o : Option ArrayRefusal) → block_checks g k (length old) ≡ o → options.MatchOption o (ReadsNewest g k old new s (Ok tt) t) (λ e. Declines {A = Unit {0}} e s (Ok tt) t × (new ≡ old)) → new ≡ latest b k
      go x None e p =
          newest_is (s.caches.buffering k) (s.caches.destaging k) (held g s.members k) new (found (newest k s.caches) p)
          ∙ subst (λ (n : ℕ). or_else (s.caches.buffering n) (or_else (s.caches.destaging n) (held g s.members k)) ≡ latest b n) (num_back g f k)
          (x.last (home g k) (position g k) (home_below g f k (block_passed g k (length old) e).0) (position_below' g f k))
      go x (Some y) e p = absurd (ok≢err p.0.0)

  pub holds_at : HoldsAt g b z s
  holds_at = record {
    consistent = finishing (λ c t. Consistent g z c t.members) (λ p t x l bar. finish_consistent g f b z p s x l t.members bar);
    by_book = finishing (λ c t. HeldByBook g b t.members) (λ p t x l bar. finish_by_book g f b z p s x l t.members bar);
    short_reads = λ d k old new r n t e a h len q un. short_read g f b z s d n (subst (λ (u : State). InvIn g b z u s) e i) e a k h old new r t len q un;
    finish_settles = finishing (λ c t. OnlyBase g (holding (held g t.members)) t.members)
        (λ p t x l bar. only_base g f (held g t.members) t.members (finish_known g f b z p s x l t.members bar));
    flush_settles = flushing;
    close_settles = closing;
    format_settles = formatting;
    reads_latest = reading;
  }

pub crash_promise : CrashPromise
crash_promise = record {
  along_every_run = λ arrange b z s law run.
      let k = so_far arrange law b z s run in
      subst (λ (g : Geometry). HoldsAt g b z s) (sym (same_geometry arrange b z s k)) (holds_at (geo arrange k.m k.n) k.facts b z s k.inv);
}
