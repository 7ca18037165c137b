-- Power-on, format, the openings, step and finish keep what is known. Assumes nothing.
use Rattle.std.proofs.Common.{◌≡◌, ℕ, zero, suc, ◌+◌, Bool, true, false, cond, not, ◌⊎◌, List, [], ◌∷◌, ◌++◌, map, length, replicate, Some, None, Ok, Err, Option, Result, sym, refl, ap, ◌∙◌, subst, inl, inr, zero-le, arith}
use Rattle.std.specs.List.{range_with_len}
use Rattle.std.proofs.lemmas.Bool.{true≢false, eq-eqb}
use Rattle.std.specs.Option as options
use Rattle.std.specs.Option.{option_or}
use Rattle.geometry.specs.Counts.{counts_allowed}
use Rattle.parity.specs.Xor.{zeros, parity_of}
use Rattle.parity.proofs.Others as xor
use Rattle.member_store.specs.Meaning as store
use Rattle.member_store.specs.Meaning.{current, Version, In}
use Rattle.member_store.specs.Calls.{PoweredOn}
use Rattle.member_store.specs.declared.refusal.Refusal.{Refusal}
use Rattle.device_calls.specs.Lists.{barrier, Completed, Stopped}
use Rattle.device_calls.proofs.Left.{cut_short}
use Rattle.intent_log.specs.Meaning as intent
use Rattle.intent_log.specs.Meaning.{Standing, MayStand}
use Rattle.intent_log.specs.Calls as log
use Rattle.intent_log.specs.declared.refusal.LogRefusal.{LogRefusal}
use Rattle.cache.specs.Contents.{Contents}
use Rattle.stripe_work.specs.Stripe.{listed, parity_right}
use Rattle.stripe_work.specs.Work.{resync_calls}
use Rattle.array_model.specs.Refusals.{number}
use Rattle.array_model.specs.Meaning.{Meaning, array, in_state, Geometry, stripe, held}
use Rattle.array_model.specs.Work.{AllAccepted, FirstRefused, Performs}
use Rattle.array_model.specs.Checks.{limits_check, record_check, member_check, open_checks, open_short_checks}
use Rattle.array_model.specs.Calls.{Plain, Checked, PowersOn, zero_calls, format_actions, Formats, begun, Opens, OpensShort, NextDue, taken, Takes, StepsFrom, Steps, totals, finish_actions, FinishesFrom, Finishes}
use Rattle.array_model.specs.Book.{Book, InBook, holding, zero_book, add_zeros, Since, told, booked, since, format, open_whole, step, finish}
use Rattle.array_model.specs.declared.state.Progress.{Progress}
use Rattle.array_model.specs.declared.state.State.TheVariants.{Down, Resync, Ready, Short}
use Rattle.array_model.specs.declared.answer.TakenStripe.{TakenStripe}
use Rattle.array_model.specs.declared.answer.ResyncCounts.{ResyncCounts}
use Rattle.array_model.specs.declared.refusal.ArrayRefusal.{ArrayRefusal}
use Rattle.array_model.specs.declared.refusal.ArrayRefusal.TheVariants.{Members, Log, Limits, WrongState, NoRecord, StripeLeft}
use Rattle.array_model.proofs.Places.{Facts, width}
use Rattle.array_model.proofs.Inv.{On, has, on_then, Each, Grows, Sized, member_below, parity_below, Guarded, Known, BookSized, Crash, AllClean, Sure, NoBlocks, Calm, InResyncing, InvIn, Inv, inv_crash, crash_within, crash_log, clean_crash, sure_guard}
use Rattle.array_model.proofs.Effects.{IsZeros, zero_stores, zero_range, zeroed_only, zeroed_current, zeros_length, completed_has, stopped_on, stopped_grows, off_one, power_refused, log_refused, barrier_cut}
use Rattle.array_model.proofs.Barriers.{accepted_devices, refused_devices}
use Rattle.array_model.proofs.Resyncing.{step_cut, step_taken, finish_ready, finish_crash}
use Rattle.array_model.proofs.Cases.{stay, checked, in_down, in_resync, second_none, passed}

-- POWER-ON

module _ (g : Geometry) (f : Facts g) (b : Book) (m n : store.Meaning) (l : intent.Meaning) (i : Crash g b m l) (p : PoweredOn m n) where
  powered_crash : Crash g b n l
  powered_crash =
      crash_within g f b m n l (on_then g m n i.on p.sized)
      (λ k c v q r w. subst (Version m k c) (sym (p.only k c v (has g m i.on k c q r) w)) (p.picked k c (has g m i.on k c q r))) i

  powered_full : Sized g n
  powered_full k c q r = i.whole k c (current n k c) q r (p.picked k c (has g m i.on k c q r))

pub keep_power_on : (g : Geometry) (f : Facts g) (b : Book) (z : Since) (s : Meaning) (r : Plain) (t : Meaning) → Inv g b z s → PowersOn s r t → Inv g b z t
keep_power_on g f b z s (Ok u) t i h =
    let crash = powered_crash g f b s.members t.members s.log (inv_crash g b z s.state s i) h.0 in
    let done = h.1.0.1 in
    let sure : Sure t.log = record { powered = done.on; single = done.single } in
    subst (Inv g b z) (sym h.1.1) (record {
      crash = crash_log g b t.members s.log t.log (sure_guard g t.members t.log sure (crash.guard t.log.standing done.holds)) crash;
      full = powered_full g f b s.members t.members s.log (inv_crash g b z s.state s i) h.0;
      sure = sure;
      no_buffered = λ k j p q. refl;
      no_destaging = λ k j p q. refl;
    })
keep_power_on g f b z s (Err e) t i h =
    let crash = powered_crash g f b s.members t.members s.log (inv_crash g b z s.state s i) h.0 in
    subst (Inv g b z) (sym h.1.3)
    (elim (log_refused (log.size_checks s.log.too_small) h.1.0 (t.log ≡ s.log) (log.CutShort (MayStand s.log) s.log t.log) h.1.2) [
      | inl e ↦ subst (Crash g b t.members) (sym e) crash
      | inr cut ↦ crash_log g b t.members s.log t.log (λ c st. crash.guard c (cut.holds c st)) crash
    ])

-- FORMAT

in_zeros : (g : Geometry) (b : Book) (k : ℕ) (v : List ℕ) → InBook b k v → InBook (add_zeros b) k v
in_zeros g b k v (inl e) = inl e
in_zeros g b k v (inr w) = inr (inr w)

zeros_sized : (g : Geometry) (b : Book) → BookSized g b → BookSized g (add_zeros b)
zeros_sized g b h s j v p q (inl e) = h s j v p q (inl e)
zeros_sized g b h s j v p q (inr (inl e)) = ap length e ∙ zeros_length
zeros_sized g b h s j v p q (inr (inr w)) = h s j v p q (inr w)

parity_zeros : (n : ℕ) → parity_of (listed (λ (j : ℕ). zeros) n) ≡ zeros
parity_zeros n = ap parity_of (zeros_list 0 n) ∙ (xor.laws).zero_parity n
  where
    zeros_list : (a n : ℕ) → map (λ (j : ℕ). zeros) (range_with_len a n) ≡ replicate n zeros
    zeros_list a zero = refl
    zeros_list a (suc n) = ap (λ (l : List (List ℕ)). zeros ∷ l) (zeros_list (a + 1) n)

module _ (g : Geometry) (f : Facts g) (m n : store.Meaning) (on : On g m) (d : Completed (zero_calls g ++ barrier ∷ []) m n) where
  zeroed_clean : AllClean g n
  zeroed_clean s h = record {
    row = λ j. zeros;
    only_data = λ j v k w. zeroed_only g m n on d ((stripe g s).member j) (stripe g s).block v (member_below g f s j k) h w;
    only_parity = λ v w. zeroed_only g m n on d (stripe g s).parity (stripe g s).block v (parity_below g f s) h w ∙ sym (parity_zeros (width g));
  }

  zeroed_whole : Each g n (λ i k v. length v ≡ 512)
  zeroed_whole i k v p q w = ap length (zeroed_only g m n on d i k v p q w) ∙ zeros_length

  pub zeroed_known : Known g zero_book n
  zeroed_known s j v h k w = inl (zeroed_only g m n on d ((stripe g s).member j) (stripe g s).block v (member_below g f s j k) h w)

  zeroed_crash : (b : Book) (l : intent.Meaning) → BookSized g b → Known g b n → Crash g b n l
  zeroed_crash b l sized known = clean_crash g b n l (completed_has g (zero_calls g ++ barrier ∷ []) m n on d) zeroed_clean known zeroed_whole sized

pub format_parts : (g : Geometry) (m n : store.Meaning) (l k : intent.Meaning) → AllAccepted (format_actions g) m l n k
    → (o : intent.Meaning) × Completed (zero_calls g ++ barrier ∷ []) m n × log.Clears {U = Unit {0}} o (Ok tt) k
format_parts g m n l k a =
    let x = a.3 in
    let y = x.3 in (
      a.1,
      subst (λ (u : store.Meaning). Completed (zero_calls g ++ barrier ∷ []) u n) a.2.0 (subst (Completed (zero_calls g ++ barrier ∷ []) a.0) (sym (y.3.0 ∙ y.2.0)) x.2.0),
      subst (λ (u : intent.Meaning). log.Clears {U = Unit {0}} u (Ok tt) k) x.2.1 (subst (log.Clears {U = Unit {0}} x.1 (Ok tt)) (sym y.3.1) y.2.1),
    )

zero_sized : (g : Geometry) → BookSized g zero_book
zero_sized g s j v p q (inl e) = ap length e ∙ zeros_length
zero_sized g s j v p q (inr w) = absurd w

pub formatted_calm : (g : Geometry) (f : Facts g) (m n : store.Meaning) (l k : intent.Meaning) (c : Contents) → On g m → NoBlocks g c.buffering → NoBlocks g c.destaging
    → AllAccepted (format_actions g) m l n k → Calm g zero_book (array Down c n k)
formatted_calm g f m n l k c on nb nd a =
    let p = format_parts g m n l k a in
    let done = p.2.1 in
    record {
      crash = zeroed_crash g f m n on p.1 zero_book k (zero_sized g) (zeroed_known g f m n on p.1);
      full = λ i c q r. ap length (zeroed_current g m n on p.1 i c q r) ∙ zeros_length;
      sure = record { powered = done.on; single = done.single };
      no_buffered = nb;
      no_destaging = nd;
    }

-- power went in a format
module _ (g : Geometry) (f : Facts g) (b : Book) (m n : store.Meaning) (l k : intent.Meaning) (i : Crash g b m l) where
  blank_cut : (e : ArrayRefusal) (d : LogRefusal) → e ≡ Log d → n ≡ m → log.Blanks {U = Unit {0}} l (Err d) k → (number e ≡ 1) × Crash g (add_zeros b) n k
  blank_cut e d p q h = (
    ap number p ∙ power_refused l d (k ≡ l) (log.CutShort (λ c. (c ≡ l.standing) ⊎ ((c.stands ≡ false) × log.NamesNothing c)) l k) h,
    subst (λ (u : store.Meaning). Crash g (add_zeros b) u k) (sym q) (record {
      on = i.on;
      guard = guard (log_refused (log.power_checks l) d (k ≡ l) (log.CutShort (λ c. (c ≡ l.standing) ⊎ ((c.stands ≡ false) × log.NamesNothing c)) l k) h);
      known = λ s j v h k w. in_zeros g b _ v (i.known s j v h k w);
      whole = i.whole;
      sized = zeros_sized g b i.sized;
    }),
  )
    where
      guard : (k ≡ l) ⊎ log.CutShort (λ c. (c ≡ l.standing) ⊎ ((c.stands ≡ false) × log.NamesNothing c)) l k → (c : Standing) → MayStand k c → Guarded g m c
      guard (inl e) c st up s h un = i.guard c (subst (λ (u : intent.Meaning). MayStand u c) e st) up s h un
      guard (inr cut) c st up s h un = elim (cut.holds c st) [ inl e ↦ i.guard c (inl e) up s h un | inr e ↦ absurd (true≢false (sym up ∙ e.0)) ]

  zeroing_cut : (o : intent.Meaning) (d : Refusal) (e : ArrayRefusal) → e ≡ Members d → log.Blanks {U = Unit {0}} l (Ok tt) o → k ≡ o → Stopped (zero_calls g ++ barrier ∷ []) m d n → (number e ≡ 1) × Crash g (add_zeros b) n k
  zeroing_cut o d e p bl q h = (
    ap number p ∙ off_one d ((cut_short (zero_calls g ++ barrier ∷ []) m d n h).told (zero_range g m i.on)),
    subst (Crash g (add_zeros b) n) (sym q) (record {
      on = stopped_on g (zero_calls g ++ barrier ∷ []) m n d i.on h;
      guard = λ c st up s a un. absurd (true≢false (sym up ∙ ap (λ (u : Standing). u.stands) (bl.1.single c st) ∙ bl.1.holds.0));
      known = λ s j v a c w. elim (grows ((stripe g s).member j) (stripe g s).block v (member_below g f s j c) a w) [ inl u ↦ in_zeros g b _ v (i.known s j v a c u) | inr e ↦ inr (inl e) ];
      whole = λ x y v p q w. elim (grows x y v p q w) [ inl u ↦ i.whole x y v p q u | inr e ↦ ap length e ∙ zeros_length ];
      sized = zeros_sized g b i.sized;
    }),
  )
    where
      grows : Grows g IsZeros m n
      grows = stopped_grows g IsZeros (zero_calls g ++ barrier ∷ []) m n i.on (zero_stores g) d h

  clear_cut : (o : intent.Meaning) (d : LogRefusal) (e : ArrayRefusal) → e ≡ Log d → Completed (zero_calls g ++ barrier ∷ []) m n → log.Clears {U = Unit {0}} o (Err d) k → (number e ≡ 1) × Crash g (add_zeros b) n k
  clear_cut o d e p h c = (
    ap number p ∙ power_refused o d (k ≡ o) (log.CutShort (λ c. o.standing.stands ≡ true → (c.stands ≡ true) × log.Includes o.standing c) o k) c,
    zeroed_crash g f m n i.on h (add_zeros b) k (zeros_sized g b i.sized)
        (λ s j v a q w. inr (inl (zeroed_only g m n i.on h ((stripe g s).member j) (stripe g s).block v (member_below g f s j q) a w))),
  )

  pub format_cut : (e : ArrayRefusal) → FirstRefused (format_actions g) m l e n k → (number e ≡ 1) × Crash g (add_zeros b) n k
  format_cut e (inl r) = blank_cut e r.0 r.1 r.2 r.3
  format_cut e (inr (u, o, a, inl r)) =
      zeroing_cut o r.0 e r.1 a.1 r.3 (subst (λ (x : store.Meaning). Stopped (zero_calls g ++ barrier ∷ []) x r.0 n) a.0 r.2)
  format_cut e (inr (u, o, a, inr (u', o', a', inl r))) =
      clear_cut o' r.0 e r.1
      (subst (Completed (zero_calls g ++ barrier ∷ []) m) (sym r.2) (subst (λ (x : store.Meaning). Completed (zero_calls g ++ barrier ∷ []) x u') a.0 a'.0)) r.3
  format_cut e (inr (u, o, a, inr (u', o', a', inr r))) = absurd r.3

module _ (g : Geometry) (f : Facts g) (b : Book) (z : Since) (s : Meaning) (i : Inv g b z s) where
  format_done : (r : Plain) (t : Meaning) → Calm g b s → Performs (format_actions g) tt Down s.caches s r t → Inv g (booked g format r t b) z t
  format_done (Ok u) t c h =
      subst (Inv g zero_book z) (sym h.2)
      (formatted_calm g f s.members t.members s.log t.log s.caches c.crash.on c.no_buffered c.no_destaging h.1)
  format_done (Err e) t c h =
      let p = format_cut g f b s.members t.members s.log t.log c.crash e h.0 in
      subst (λ (q : Bool). Inv g (cond q (add_zeros b) b) z t) (sym (eq-eqb (number e) 1 p.0))
      (subst (Inv g (add_zeros b) z) (sym h.1) p.1)

  pub keep_format : (r : Plain) (t : Meaning) → Formats g s r t → Inv g (booked g format r t b) z t
  keep_format r t h =
      in_down s r t (λ q. InvIn g b z q s) (Inv g (booked g format r t b) z t)
      (λ s r t. Checked (limits_check g) s r t (Performs (format_actions g) tt Down s.caches s r t))
      (λ d. stay s r t (λ r t. Inv g (booked g format r t b) z t) (WrongState s.state) d i)
      (λ c k e. go c (counts_allowed g.members g.blocks) k)
      s.state refl i h
    where
      go : Calm g b s → (q : Bool) → Checked (cond q None (Some (Limits g.members g.blocks))) s r t (Performs (format_actions g) tt Down s.caches s r t) → Inv g (booked g format r t b) z t
      go c true k = format_done r t c k
      go c false k = stay s r t (λ r t. Inv g (booked g format r t b) z t) (Limits g.members g.blocks) k i

  -- THE OPENINGS

  pub keep_open : (r : Plain) (t : Meaning) → Opens g s r t → Inv g b (since open_whole r t z) t
  keep_open r t h =
      in_down s r t (λ q. InvIn g b z q s) (Inv g b (since open_whole r t z) t)
      (λ s r t. Checked (open_checks g s) s r t ((r ≡ Ok tt) × (t ≡ in_state (Resync begun) s)))
      (λ d. stay s r t (λ r t. Inv g b (since open_whole r t z) t) (WrongState s.state) d i)
      (λ c k e.
      elim (checked s r t (open_checks g s) ((r ≡ Ok tt) × (t ≡ in_state (Resync begun) s)) k) [
        | inl a ↦ subst (λ (u : Meaning). Inv g b (since open_whole r u z) u) (sym a.1.1)
            (subst (λ (u : Plain). Inv g b (since open_whole u (in_state (Resync begun) s) z) (in_state (Resync begun) s)) (sym a.1.0) (opened c a.0))
        | inr a ↦ stay s r t (λ r t. Inv g b (since open_whole r t z) t) a.0 a.2 i
      ])
      s.state refl i h
    where
      opened : Calm g b s → open_checks g s ≡ None → InResyncing g b (record { names = s.log.standing.names; members = s.members; mended = [] }) begun (in_state (Resync begun) s)
      opened c e = record {
        calm = record { crash = c.crash; full = c.full; sure = c.sure; no_buffered = c.no_buffered; no_destaging = c.no_destaging };
        record_stands = passed s.log.standing.stands NoRecord (second_none (limits_check g) (record_check s) e);
        names = λ k. refl;
        below = zero-le;
        right = λ k h. absurd (omega arith);
        read_is = refl;
        mended_is = refl;
        mended_named = λ k w. absurd w;
        unnamed_same = λ k m h q un. refl;
        unnamed_none = λ k m v h q un w. w;
      }

  pub keep_open_short : (d : ℕ) (r : Plain) (t : Meaning) → OpensShort g d s r t → Inv g b z t
  keep_open_short d r t h =
      in_down s r t (λ q. InvIn g b z q s) (Inv g b z t)
      (λ s r t. Checked (open_short_checks g d s) s r t ((r ≡ Ok tt) × (t ≡ in_state (Short d) s)))
      (λ d. stay s r t (λ r t. Inv g b z t) (WrongState s.state) d i)
      (λ c k e.
      elim (checked s r t (open_short_checks g d s) ((r ≡ Ok tt) × (t ≡ in_state (Short d) s)) k) [
        | inl a ↦ subst (Inv g b z) (sym a.1.1) (
          record { crash = c.crash; full = c.full; sure = c.sure; no_buffered = c.no_buffered; no_destaging = c.no_destaging },
          passed s.log.standing.stands NoRecord
              (second_none (member_check g d) (record_check s) (second_none (limits_check g) (option_or (member_check g d) (record_check s)) a.0)),
        )
        | inr a ↦ stay s r t (λ r t. Inv g b z t) a.0 a.2 i
      ])
      s.state refl i h

  -- STEP

  step_done : (p : Progress) (k : ℕ) (r : Result (Option TakenStripe) ArrayRefusal) (t : Meaning) → InResyncing g b z p s → NextDue g s p (Some k) → Takes g p k s r t → Inv g b (since step r t z) t
  step_done p k (Ok a) t c x h =
      let d = accepted_devices (resync_calls (stripe g k) s.members) s.members t.members s.log t.log h.1 in
      let right = parity_right (stripe g k) s.members in
      subst (λ (u : Option TakenStripe). Inv g b (told (Ok u) z) t) (sym h.0)
      (subst (Inv g b (told (Ok (Some (record { stripe = k; mended = not right }))) z)) (sym h.2)
      (subst (λ (l : intent.Meaning). InResyncing g b (told (Ok (Some (record { stripe = k; mended = not right }))) z) (taken p k right) (array (Resync (taken p k right)) s.caches t.members l)) (sym d.1)
      (step_taken g f b z p s c k x t.members d.0 right)))
  step_done p k (Err e) t c x h =
      let d = refused_devices (resync_calls (stripe g k) s.members) s.members t.members s.log t.log e h.0 in
      subst (Inv g b z) (sym h.1) (subst (Crash g b t.members) (sym d.3) (step_cut g f b z p s c k x d.0 t.members d.2))

  pub keep_step : (r : Result (Option TakenStripe) ArrayRefusal) (t : Meaning) → Steps g s r t → Inv g b (since step r t z) t
  keep_step r t h =
      in_resync s r t (λ q. InvIn g b z q s) (Inv g b (since step r t z) t) (StepsFrom g)
      (λ d. stay s r t (λ r t. Inv g b (since step r t z) t) (WrongState s.state) d i)
      (λ p c k e. go p c k.0 k.1 k.2)
      s.state refl i h
    where
      go : (p : Progress) → InResyncing g b z p s → (o : Option ℕ) → NextDue g s p o → options.MatchOption o ((r ≡ Ok None) × (t ≡ s)) (λ k. Takes g p k s r t) → Inv g b (since step r t z) t
      go p c None x k =
          subst (λ (u : Meaning). Inv g b (since step r u z) u) (sym k.1) (subst (λ (u : Result (Option TakenStripe) ArrayRefusal). Inv g b (told u z) s) (sym k.0) i)
      go p c (Some n) x k = step_done p n r t c x k

  -- FINISH

  finish_done : (p : Progress) (r : Result ResyncCounts ArrayRefusal) (t : Meaning) → InResyncing g b z p s → NextDue g s p None → Performs finish_actions (totals p) Ready s.caches s r t → Inv g (booked g finish r t b) z t
  finish_done p (Ok a) t c x h =
      let bar : Completed (barrier ∷ []) s.members t.members = subst (Completed (barrier ∷ []) s.members) (sym (h.1.3.3.0 ∙ h.1.3.2.0)) h.1.2.0 in
      let done = (subst (log.Clears {U = Unit {0}} h.1.1 (Ok tt)) (sym h.1.3.3.1) h.1.3.2.1).1 in
      subst (Inv g (holding (held g t.members)) z) (sym h.2)
      (finish_ready g f b z p s c x t.members bar t.log (record { powered = done.on; single = done.single }) done.holds.0)
  finish_done p (Err e) t c x (inl a, q) =
      subst (Inv g b z) (sym q)
      (subst (Crash g b t.members) (sym a.3)
      (crash_within g f b s.members t.members s.log (stopped_on g (barrier ∷ []) s.members t.members a.0 c.calm.crash.on a.2)
      (barrier_cut g s.members t.members a.0 c.calm.crash.on a.2) c.calm.crash))
  finish_done p (Err e) t c x (inr (u, o, a, inl k), q) =
      subst (Inv g b z) (sym q)
      (finish_crash g f b z p s c x t.members (subst (Completed (barrier ∷ []) s.members) (sym k.2) a.0) t.log)
  finish_done p (Err e) t c x (inr (u, o, a, inr k), q) = absurd k.3

  pub keep_finish : (r : Result ResyncCounts ArrayRefusal) (t : Meaning) → Finishes g s r t → Inv g (booked g finish r t b) z t
  keep_finish r t h =
      in_resync s r t (λ q. InvIn g b z q s) (Inv g (booked g finish r t b) z t) (FinishesFrom g)
      (λ d. stay s r t (λ r t. Inv g (booked g finish r t b) z t) (WrongState s.state) d i)
      (λ p c k e. go p c k.0 k.1 k.2)
      s.state refl i h
    where
      go : (p : Progress) → InResyncing g b z p s → (o : Option ℕ) → NextDue g s p o
          → options.MatchOption o (Performs finish_actions (totals p) Ready s.caches s r t) (λ k. (r ≡ Err (StripeLeft k)) × (t ≡ in_state Down s)) → Inv g (booked g finish r t b) z t
      go p c None x k = finish_done p r t c x k
      go p c (Some n) x k =
          subst (λ (u : Meaning). Inv g (booked g finish r u b) z u) (sym k.1)
          (subst (λ (u : Result ResyncCounts ArrayRefusal). Inv g (booked g finish u (in_state Down s) b) z (in_state Down s)) (sym k.0)
          (record { crash = c.calm.crash; full = c.calm.full; sure = c.calm.sure; no_buffered = c.calm.no_buffered; no_destaging = c.calm.no_destaging }))
