-- Reads without one member: what they keep, and what they answer. Assumes nothing.
use Rattle.std.proofs.Common.{◌≡◌, ℕ, ◌<◌, Bool, true, false, cond, ◌&&◌, eqb, List, [], ◌∷◌, length, Some, None, Ok, Err, Option, sym, refl, ap, ◌∙◌, subst, inl, inr}
use Rattle.std.proofs.lemmas.Bool.{true≢false, false≢true, lt-ltb, eq-eqb, eqb-true, eqb-false, and_parts, and_cases, and_from}
use Rattle.std.specs.Option as options
use Rattle.std.specs.Option.{option_or}
use Rattle.member_store.specs.Meaning as store
use Rattle.member_store.specs.Meaning.{current, Version, In, last_or}
use Rattle.device_calls.specs.Lists.{DeviceCall, read}
use Rattle.device_calls.specs.Effects.{Every, Reading, InRange}
use Rattle.device_calls.proofs.Properties.{every_for_each}
use Rattle.device_calls.proofs.Left.{completed_reading, cut_short}
use Rattle.stripe_work.specs.Work.{other_reads, reconstructed}
use Rattle.stripe_work.proofs.Recovering.{recovers}
use Rattle.array_model.specs.Refusals.{number, refused_with}
use Rattle.array_model.specs.Meaning.{Meaning, array, with_members, named, Geometry, stripe_count, stripe, block_count, home, position, holder, held}
use Rattle.array_model.specs.Work.{devices, Performs, Declines}
use Rattle.array_model.specs.Checks.{block_checks, read_short_checks}
use Rattle.array_model.specs.Calls.{Plain, InShort, Fetches, read_calls, ReadsWithout, ReadsShort}
use Rattle.array_model.specs.Book.{Book, InBook, Since}
use Rattle.array_model.specs.Runs.{StandIn, restored}
use Rattle.array_model.specs.Promise.{ShortRead}
use Rattle.array_model.specs.declared.state.State.{State}
use Rattle.array_model.specs.declared.state.State.TheVariants.{Short}
use Rattle.array_model.specs.declared.refusal.ArrayRefusal.{ArrayRefusal}
use Rattle.array_model.specs.declared.refusal.ArrayRefusal.TheVariants.{WrongState, NoBlock, WrongLength, StripeNamed}
use Rattle.array_model.proofs.Places.{Facts, num_back, home_below, position_below'}
use Rattle.array_model.proofs.Inv.{On, has, on_then, stands, member_below, Crash, Calm, InvIn, Inv, clean_right, crash_within}
use Rattle.array_model.proofs.Effects.{Storing, reading_cut, stopped_on, off_one}
use Rattle.array_model.proofs.Barriers.{accepted_devices, refused_devices}
use Rattle.array_model.proofs.Writing.{fetched}
use Rattle.array_model.proofs.Cases.{stay, in_short}

-- every call of the list for the other members
others_every : (P : DeviceCall → Type 0) (m b d : ℕ) → ((t : ℕ) → t < m → P (read t b)) → Every P (other_reads m b d)
others_every P m b d h = every_for_each P (λ t. cond (eqb t d) [] (read t b ∷ [])) m (λ t l. go t l (eqb t d))
  where
    go : (t : ℕ) → t < m → (q : Bool) → Every P (cond q [] (read t b ∷ []))
    go t l true = tt
    go t l false = (h t l, tt)

module _ (g : Geometry) (f : Facts g) (b : Book) (z : Since) (s : Meaning) (i : Inv g b z s) where
  pub keep_read_short : (k : ℕ) (old new : List ℕ) (r : Plain) (t : Meaning) → ReadsShort g k old new s r t → Inv g b z t
  keep_read_short k old new r t h =
      in_short s r t (λ q. InvIn g b z q s) (Inv g b z t)
      (λ d s r t. options.MatchOption (read_short_checks g d k (length old) s) (ReadsWithout g d k old new s r t) (λ e. Declines e s r t × (new ≡ old)))
      (λ d. stay s r t (λ r t. Inv g b z t) (WrongState s.state) d i)
      (λ d c p e. go d (read_short_checks g d k (length old) s) p)
      s.state refl i h
    where
      found : (d : ℕ) (q : Bool) → cond q (Fetches (other_reads g.members (stripe g (home g k)).block d) (reconstructed g.members (stripe g (home g k)).block d s.members) old new s r t)
          (Fetches (read_calls g k) (held g s.members k) old new s r t) → Inv g b z t
      found d true p =
          fetched g f b z s i (other_reads g.members (stripe g (home g k)).block d) (others_every Reading g.members (stripe g (home g k)).block d (λ t l. tt))
          (others_every (Storing (λ _ _ _. ⊥)) g.members (stripe g (home g k)).block d (λ t l. tt)) r t p.0
      found d false p = fetched g f b z s i (read_calls g k) (tt, tt) (tt, tt) r t p.0

      go : (d : ℕ) (o : Option ArrayRefusal) → options.MatchOption o (ReadsWithout g d k old new s r t) (λ e. Declines e s r t × (new ≡ old)) → Inv g b z t
      go d None p = found d (eqb (holder g k) d) p
      go d (Some e) p = stay s r t (λ r t. Inv g b z t) e p.0 i

-- OTHER BLOCKS STAND IN FOR MEMBER d'S

module _ (g : Geometry) (f : Facts g) (b : Book) (z : Since) (s : Meaning) (d : ℕ) (n : store.Meaning) (i : Calm g b s × (s.log.standing.stands ≡ true)) (is_short : s.state ≡ Short d) (a : StandIn d s.members n) where
  abbrev m : store.Meaning
  m = s.members

  abbrev s' : Meaning
  s' = with_members n s

  on : On g n
  on = on_then g m n i.0.crash.on a.sized

  same_current : (k c : ℕ) → (k ≡ d → ⊥) → current n k c ≡ current m k c
  same_current k c ne = ap (last_or []) (a.others k c ne)

  -- with its own blocks back, the array is as it was
  restored_same : (k c : ℕ) → (restored d m n).versions k c ≡ m.versions k c
  restored_same k c = go (eqb k d) refl
    where
      go : (q : Bool) → eqb k d ≡ q → cond q (m.versions k c) (n.versions k c) ≡ m.versions k c
      go true e = refl
      go false e = a.others k c (eqb-false k d e)

  restored_inv : Inv g b z (array s.state s.caches (restored d m n) s.log)
  restored_inv =
      subst (λ (q : State). InvIn g b z q (array s.state s.caches (restored d m n) s.log)) (sym is_short) (
        record {
          crash = crash_within g f b m (restored d m n) s.log (record { members = on.members; blocks = on.blocks })
              (λ k c v p q w. subst (In v) (restored_same k c) w) i.0.crash;
          full = λ k c p q. ap (λ (vs : List (List ℕ)). length (last_or [] vs)) (restored_same k c) ∙ i.0.full k c p q;
          sure = i.0.sure;
          no_buffered = i.0.no_buffered;
          no_destaging = i.0.no_destaging;
        },
        i.1,
      )

  abbrev Goal : Meaning → Type 0
  Goal t = Inv g b z (with_members (restored d m t.members) t)

  same_goal : (t : Meaning) → t ≡ s' → Goal t
  same_goal t e = subst Goal (sym e) restored_inv

  fetched_goal : (os : List DeviceCall) → Every Reading os → Every (Storing (λ _ _ _. ⊥)) os → (r : Plain) (t : Meaning) → Performs (devices os ∷ []) tt s.state s.caches s' r t → Goal t
  fetched_goal os reads stores (Ok u) t h =
      let p = accepted_devices os n t.members s.log t.log h.1 in
      let e : t ≡ s' = h.2 ∙ ap (λ (x : store.Meaning). array s.state s.caches x t.log) (completed_reading os n t.members reads p.0) ∙ ap (array s.state s.caches n) p.1 in
      same_goal t e
  fetched_goal os reads stores (Err x) t h =
      let p = refused_devices os n t.members s.log t.log x h.0 in
      let o = stopped_on g os n t.members p.0 on p.2 in
      subst (λ (q : State). InvIn g b z q (with_members (restored d m t.members) t)) (sym (ap (λ (u : Meaning). u.state) h.1))
      (subst (Crash g b (restored d m t.members)) (sym p.3)
      (crash_within g f b m (restored d m t.members) s.log (record { members = o.members; blocks = o.blocks })
      (λ k c v y w u. former k c v y w (eqb k d) refl (reading_cut g os n t.members p.0 on stores p.2 k c v y w) u) i.0.crash))
    where
      former : (k c : ℕ) (v : List ℕ) → k < g.members → c < g.blocks → (q : Bool) → eqb k d ≡ q → (Version t.members k c v → Version n k c v)
          → In v (cond q (m.versions k c) (t.members.versions k c)) → Version m k c v
      former k c v y w true e cut u = u
      former k c v y w false e cut u = subst (In v) (a.others k c (eqb-false k d e)) (cut u)

  pub keep_without : (k : ℕ) (old new : List ℕ) (r : Plain) (t : Meaning) → ReadsShort g k old new s' r t → Goal t
  keep_without k old new r t h =
      in_short s' r t (λ q. Unit {0}) (Goal t)
      (λ d s r t. options.MatchOption (read_short_checks g d k (length old) s) (ReadsWithout g d k old new s r t) (λ e. Declines e s r t × (new ≡ old)))
      (λ p. same_goal t p.1)
      (λ x c p e. go x (read_short_checks g x k (length old) s') p)
      s.state refl tt h
    where
      found : (x : ℕ) (q : Bool) → cond q (Fetches (other_reads g.members (stripe g (home g k)).block x) (reconstructed g.members (stripe g (home g k)).block x n) old new s' r t)
          (Fetches (read_calls g k) (held g n k) old new s' r t) → Goal t
      found x true p =
          fetched_goal (other_reads g.members (stripe g (home g k)).block x) (others_every Reading g.members (stripe g (home g k)).block x (λ t l. tt))
          (others_every (Storing (λ _ _ _. ⊥)) g.members (stripe g (home g k)).block x (λ t l. tt)) r t p.0
      found x false p = fetched_goal (read_calls g k) (tt, tt) (tt, tt) r t p.0

      go : (x : ℕ) (o : Option ArrayRefusal) → options.MatchOption o (ReadsWithout g x k old new s' r t) (λ e. Declines e s' r t × (new ≡ old)) → Goal t
      go x None p = found x (eqb (holder g k) x) p
      go x (Some e) p = same_goal t p.0.1

  -- what a read answers that passes the checks and is not cut
  module _ (k : ℕ) (inside : k < block_count g) where
    abbrev blk : ℕ
    blk = (stripe g (home g k)).block

    there : home g k < stripe_count g
    there = home_below g f k inside

    holder_below : holder g k < g.members
    holder_below = member_below g f (home g k) (position g k) (position_below' g f k)

    held_known : InBook b k (held g m k)
    held_known =
        subst (λ (u : ℕ). InBook b u (held g m k)) (num_back g f k)
        (i.0.crash.known (home g k) (position g k) (held g m k) there (position_below' g f k) (stands g m i.0.full (holder g k) blk holder_below there))

    recovered : holder g k ≡ d → named s (home g k) ≡ false → reconstructed g.members blk d n ≡ held g m k
    recovered e un =
        recovers g.arrange g.members (home g k) d n (f.lawful (home g k)) (subst (λ (u : ℕ). u < g.members) e holder_below) m
        (record { others = λ t l ne. sym (same_current t blk ne); whole = λ t l. i.0.full t blk l there })
        (clean_right g f m (home g k) there i.0.full (i.0.crash.guard s.log.standing (inl refl) i.1 (home g k) there un))
        ∙ ap (λ (u : ℕ). current m u blk) (sym e)

    not_cut : (os : List DeviceCall) → Every (InRange n) os → (e : ArrayRefusal) (t : Meaning) → Performs {A = Unit {0}} (devices os ∷ []) tt s.state s.caches s' (Err e) t → refused_with {A = Unit {0}} 1 (Err e) ≡ false → ⊥
    not_cut os range e t h un =
        let p = refused_devices os n t.members s.log t.log e h.0 in
        true≢false (sym (eq-eqb (number e) 1 (ap number p.1 ∙ off_one p.0 ((cut_short os n p.0 t.members p.2).told range))) ∙ un)

    answer : (os : List DeviceCall) (x old new : List ℕ) → Every (InRange n) os → (r : Plain) (t : Meaning) → Fetches os x old new s' r t → refused_with 1 r ≡ false → InBook b k x
        → ((eqb (holder g k) d && named s (home g k)) ≡ false) → ShortRead g b s d k r new
    answer os x old new range (Ok u) t h un by q = record {
      refused_just = ((λ e. absurd (false≢true e)), (λ e. absurd (true≢false (sym (and_from (eqb (holder g k) d) (named s (home g k)) (eq-eqb (holder g k) d e.0) e.1) ∙ q))));
      answered = λ e. (refl, subst (InBook b k) (sym h.1) by);
    }
    answer os x old new range (Err e) t h un by q = absurd (not_cut os range e t h.0 un)

    pub short_read : (old new : List ℕ) (r : Plain) (t : Meaning) → length old ≡ 512 → ReadsShort g k old new s' r t → refused_with 1 r ≡ false → ShortRead g b s d k r new
    short_read old new r t len h un =
        let p : options.MatchOption (read_short_checks g d k (length old) s') (ReadsWithout g d k old new s' r t) (λ e. Declines e s' r t × (new ≡ old)) =
        subst (λ (q : State). InShort (λ d s r t. options.MatchOption (read_short_checks g d k (length old) s) (ReadsWithout g d k old new s r t) (λ e. Declines e s r t × (new ≡ old))) q s' r t) is_short h in
        let c : block_checks g k (length old) ≡ None =
        ap (λ (q : Bool). option_or (cond q None (Some (NoBlock k))) (cond (eqb (length old) 512) None (Some (WrongLength (length old))))) (lt-ltb k (block_count g) inside)
        ∙ ap (λ (q : Bool). cond q None (Some (WrongLength (length old)))) (eq-eqb (length old) 512 len) in
        go (eqb (holder g k) d && named s (home g k)) refl
        (subst (λ (o : Option ArrayRefusal). options.MatchOption (option_or o (cond (eqb (holder g k) d && named s (home g k)) (Some (StripeNamed (home g k))) None)) (ReadsWithout g d k old new s' r t) (λ e. Declines e s' r t × (new ≡ old))) c p)
      where
        found : (q : Bool) → eqb (holder g k) d ≡ q → (eqb (holder g k) d && named s (home g k)) ≡ false
            → cond q (Fetches (other_reads g.members blk d) (reconstructed g.members blk d n) old new s' r t) (Fetches (read_calls g k) (held g n k) old new s' r t) → ShortRead g b s d k r new
        found true e q p =
            answer (other_reads g.members blk d) (reconstructed g.members blk d n) old new
            (others_every (InRange n) g.members blk d (λ t l. has g n on t blk l there)) r t p un
            (subst (InBook b k) (sym (recovered (eqb-true (holder g k) d e)
            (elim (and_cases (eqb (holder g k) d) (named s (home g k)) q) [ inl v ↦ absurd (true≢false (sym e ∙ v)) | inr v ↦ v ]))) held_known) q
        found false e q p =
            answer (read_calls g k) (held g n k) old new (has g n on (holder g k) blk holder_below there, tt) r t p un
            (subst (InBook b k) (sym (same_current (holder g k) blk (eqb-false (holder g k) d e))) held_known) q

        go : (q : Bool) → (eqb (holder g k) d && named s (home g k)) ≡ q → options.MatchOption (cond q (Some (StripeNamed (home g k))) None) (ReadsWithout g d k old new s' r t) (λ e. Declines e s' r t × (new ≡ old))
            → ShortRead g b s d k r new
        go true e p = record {
          refused_just = ((λ _. let v = and_parts (eqb (holder g k) d) (named s (home g k)) e in (eqb-true (holder g k) d v.0, v.1)), (λ _. ap (refused_with 9) p.0.0));
          answered = λ q. absurd (true≢false (sym (ap (refused_with 9) p.0.0) ∙ q));
        }
        go false e p = found (eqb (holder g k) d) refl e p
