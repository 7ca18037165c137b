-- Writes and reads keep what is known. Assumes nothing.
use Rattle.std.proofs.Common.{◌≡◌, ℕ, ◌<◌, Bool, true, false, cond, eqb, ◌⊎◌, List, [], ◌∷◌, length, Some, None, Ok, Err, Option, sym, refl, ap, ◌∙◌, subst, inl, inr}
use Rattle.std.proofs.lemmas.Option.{same_Some}
use Rattle.std.specs.Option as options
use Rattle.member_store.specs.Meaning as store
use Rattle.member_store.specs.Meaning.{In}
use Rattle.device_calls.specs.Lists.{DeviceCall}
use Rattle.device_calls.specs.Effects.{Every, Reading}
use Rattle.device_calls.proofs.Left.{completed_reading}
use Rattle.intent_log.specs.Meaning as intent
use Rattle.cache.specs.Contents.{put_into, newest, no_slot_for}
use Rattle.stripe_work.specs.Work.{or_else}
use Rattle.array_model.specs.Meaning.{Meaning, array, with_caches, Geometry, stripe_count, held}
use Rattle.array_model.specs.Work.{devices, Performs, Declines}
use Rattle.array_model.specs.Checks.{block_checks, write_checks}
use Rattle.array_model.specs.Calls.{Plain, Checked, Writes, Fetches, read_calls, ReadsNewest, Reads}
use Rattle.array_model.specs.Book.{Book, InBook, newest_of, add, Since, booked, write}
use Rattle.array_model.specs.declared.state.State.{State}
use Rattle.array_model.specs.declared.refusal.ArrayRefusal.{ArrayRefusal}
use Rattle.array_model.specs.declared.refusal.ArrayRefusal.TheVariants.{WrongState, NoSlot}
use Rattle.array_model.proofs.Places.{Facts, width, number}
use Rattle.array_model.proofs.Inv.{BookSized, Crash, InReadiness, destaged, InvIn, Inv, inv_crash, crash_within}
use Rattle.array_model.proofs.Effects.{Storing, reading_cut, stopped_on}
use Rattle.array_model.proofs.Barriers.{accepted_devices, refused_devices}
use Rattle.array_model.proofs.Cases.{stay, checked, in_ready, first_none, block_passed}

-- the book grows by a write

added : (b : Book) (k : ℕ) (x : List ℕ) (i : ℕ) (v : List ℕ) → InBook b i v → InBook (add k x b) i v
added b k x i v (inl e) = inl e
added b k x i v (inr w) = inr (go (eqb i k))
  where
    go : (q : Bool) → In v (cond q (x ∷ b.list i) (b.list i))
    go true = inr w
    go false = w

added_sized : (g : Geometry) (b : Book) (k : ℕ) (x : List ℕ) → length x ≡ 512 → BookSized g b → BookSized g (add k x b)
added_sized g b k x len h s j v p q (inl e) = h s j v p q (inl e)
added_sized g b k x len h s j v p q (inr w) = go (eqb (number g s j) k) w
  where
    go : (r : Bool) → In v (cond r (x ∷ b.list (number g s j)) (b.list (number g s j))) → length v ≡ 512
    go true (inl e) = ap length e ∙ len
    go true (inr u) = h s j v p q (inr u)
    go false u = h s j v p q (inr u)

wrote_ready : (g : Geometry) (b : Book) (s : Meaning) (k : ℕ) (x : List ℕ) → length x ≡ 512 → InReadiness g b s → InReadiness g (add k x b) (with_caches (put_into k x s.caches) s)
wrote_ready g b s k x len i = record {
  crash = record {
    on = i.crash.on;
    guard = i.crash.guard;
    known = λ t j v h p w. added b k x (number g t j) v (i.crash.known t j v h p w);
    whole = i.crash.whole;
    sized = added_sized g b k x len i.crash.sized;
  };
  full = i.full;
  sure = i.sure;
  record_stands = i.record_stands;
  right = i.right;
  due = i.due;
  by_buffering = λ t j v h p e. by_put t j v h p (eqb (number g t j) k) e;
  by_destaging = λ t j v h p e. added b k x (number g t j) v (i.by_destaging t j v h p e);
  last = λ t j h p. newer t j h p (eqb (number g t j) k);
}
  where
    by_put : (t j : ℕ) (v : List ℕ) → t < stripe_count g → j < width g → (q : Bool) → cond q (Some x) (s.caches.buffering (number g t j)) ≡ Some v
        → (v ≡ b.base (number g t j)) ⊎ In v (cond q (x ∷ b.list (number g t j)) (b.list (number g t j)))
    by_put t j v h p true e = inr (inl (sym (same_Some x v e)))
    by_put t j v h p false e = i.by_buffering t j v h p e

    newer : (t j : ℕ) → t < stripe_count g → j < width g → (q : Bool)
        → or_else (cond q (Some x) (s.caches.buffering (number g t j))) (destaged g s t j) ≡ newest_of (b.base (number g t j)) (cond q (x ∷ b.list (number g t j)) (b.list (number g t j)))
    newer t j h p true = refl
    newer t j h p false = i.last t j h p

module _ (g : Geometry) (f : Facts g) (b : Book) (z : Since) (s : Meaning) (i : Inv g b z s) where
  pub keep_write : (k : ℕ) (x : List ℕ) (r : Plain) (t : Meaning) → Writes g k x s r t → Inv g (booked g (write k x) r t b) z t
  keep_write k x r t h =
      in_ready s r t (λ q. InvIn g b z q s) (Inv g (booked g (write k x) r t b) z t)
      (λ s r t. Checked (write_checks g k (length x) s) s r t ((r ≡ Ok tt) × (t ≡ with_caches (put_into k x s.caches) s)))
      (λ d. stay s r t (λ r t. Inv g (booked g (write k x) r t b) z t) (WrongState s.state) d i)
      (λ c p e.
      elim (checked s r t (write_checks g k (length x) s) ((r ≡ Ok tt) × (t ≡ with_caches (put_into k x s.caches) s)) p) [
        | inl a ↦ subst (λ (u : Meaning). Inv g (booked g (write k x) r u b) z u) (sym a.1.1)
            (subst (λ (u : Plain). Inv g (booked g (write k x) u (with_caches (put_into k x s.caches) s) b) z (with_caches (put_into k x s.caches) s)) (sym a.1.0)
            (subst (λ (q : State). InvIn g (add k x b) z q (with_caches (put_into k x s.caches) s)) (sym e)
            (wrote_ready g b s k x (block_passed g k (length x) (first_none (block_checks g k (length x)) (cond (no_slot_for k s.caches) (Some (NoSlot k)) None) a.0)).1 c)))
        | inr a ↦ stay s r t (λ r t. Inv g (booked g (write k x) r t b) z t) a.0 a.2 i
      ])
      s.state refl i h

  -- device calls that only read
  pub fetched : (os : List DeviceCall) → Every Reading os → Every (Storing (λ _ _ _. ⊥)) os → (r : Plain) (t : Meaning) → Performs (devices os ∷ []) tt s.state s.caches s r t → Inv g b z t
  fetched os reads stores (Ok u) t h =
      let d = accepted_devices os s.members t.members s.log t.log h.1 in
      subst (Inv g b z) (sym h.2)
      (subst (λ (m : store.Meaning). Inv g b z (array s.state s.caches m t.log)) (sym (completed_reading os s.members t.members reads d.0))
      (subst (λ (l : intent.Meaning). Inv g b z (array s.state s.caches s.members l)) (sym d.1) i))
  fetched os reads stores (Err e) t h =
      let d = refused_devices os s.members t.members s.log t.log e h.0 in
      let c = inv_crash g b z s.state s i in
      subst (Inv g b z) (sym h.1)
      (subst (Crash g b t.members) (sym d.3)
      (crash_within g f b s.members t.members s.log (stopped_on g os s.members t.members d.0 c.on d.2)
      (reading_cut g os s.members t.members d.0 c.on stores d.2) c))

  pub keep_read : (k : ℕ) (old new : List ℕ) (r : Plain) (t : Meaning) → Reads g k old new s r t → Inv g b z t
  keep_read k old new r t h =
      in_ready s r t (λ q. InvIn g b z q s) (Inv g b z t)
      (λ s r t. options.MatchOption (block_checks g k (length old)) (ReadsNewest g k old new s r t) (λ e. Declines e s r t × (new ≡ old)))
      (λ d. stay s r t (λ r t. Inv g b z t) (WrongState s.state) d i)
      (λ c p e. go (block_checks g k (length old)) p)
      s.state refl i h
    where
      found : (o : Option (List ℕ)) → options.MatchOption o (Fetches (read_calls g k) (held g s.members k) old new s r t) (λ x. (r ≡ Ok tt) × (new ≡ x) × (t ≡ s)) → Inv g b z t
      found None p = fetched (read_calls g k) (tt, tt) (tt, tt) r t p.0
      found (Some x) p = subst (Inv g b z) (sym p.2) i

      go : (o : Option ArrayRefusal) → options.MatchOption o (ReadsNewest g k old new s r t) (λ e. Declines e s r t × (new ≡ old)) → Inv g b z t
      go None p = found (newest k s.caches) p
      go (Some e) p = stay s r t (λ r t. Inv g b z t) e p.0 i
