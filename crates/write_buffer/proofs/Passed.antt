-- What the calls of the store below leave of the whole, under held stores.
use Rattle.std.proofs.Common.{◌≡◌, ℕ, ◌<◌, true, false, ◌⊎◌, List, [], ◌∷◌, ◌++◌, length, Ok, Err, Result, sym, refl, ap, ◌∙◌, subst, inl, inr, ⊎_elim}
use Rattle.std.proofs.lemmas.Bool.{both_ways}
use Rattle.member_store.specs.Meaning.{Meaning, Version, current, HasBlock, last_or, In}
use Rattle.member_store.specs.Refusals.{IsPowerOff}
use Rattle.member_store.specs.Calls.{SameCounts, Cut, CutStore, Stored, Barred, PoweredOn, Stores, Reads, Bars, checks, barrier_checks}
use Rattle.member_store.specs.declared.refusal.Refusal.{Refusal}
use Rattle.member_store.proofs.Checks.{passing}
use Rattle.std.proofs.lemmas.Option.{none-some}
use Rattle.member_store.proofs.Refusals.{refused_cases, refused_went, refused_weaker}
use Rattle.member_store.proofs.Versions.{last_cond, in_cond, cond_in}
use Rattle.write_buffer.specs.Replay.{is_to, replay, buffered}
use Rattle.write_buffer.specs.Passing.{FewerVersions}
use Rattle.write_buffer.specs.declared.held.HeldStore.{HeldStore}
use Rattle.write_buffer.specs.Replays.{is_to_true, is_to_from, is_to_false, replay_last, replay_in, replay_grows, replay_absorbs, replay_push}

-- the same held stores over two stores
pub fewer_under : (hs : List HeldStore) (s t : Meaning) → FewerVersions s t → FewerVersions (buffered hs s) (buffered hs t)
fewer_under hs s t h = record {
  on = h.on;
  sized = record { members = h.sized.members; blocks = h.sized.blocks };
  same = λ m b p. replay_last m b hs (t.versions m b) (s.versions m b) (h.same m b p);
  former = λ m b v p k. replay_in m b hs (t.versions m b) (s.versions m b) (λ w j. h.former m b w p j) v k;
}

pub cut_under : (hs : List HeldStore) (s t : Meaning) → Cut s t → Cut (buffered hs s) (buffered hs t)
cut_under hs s t h = record {
  off = h.off;
  sized = record { members = h.sized.members; blocks = h.sized.blocks };
  former = λ m b v p k. replay_in m b hs (t.versions m b) (s.versions m b) (λ w j. h.former m b w p j) v k;
}

module _ (h : HeldStore) (s t : Meaning) (on : s.on ≡ true) where
  -- one held store over s
  abbrev over : Meaning
  over = buffered (h ∷ []) s

  down_former : ((i j : ℕ) (v : List ℕ) → HasBlock s i j → Version t i j v → Version s i j v ⊎ ((i ≡ h.at.member) × (j ≡ h.at.block) × (v ≡ h.bytes))) → (m b : ℕ) (v : List ℕ) → HasBlock s m b → Version t m b v → Version over m b v
  down_former f m b v p k = cond_in (is_to h m b) (s.versions m b) h.bytes v (⊎_elim inl (λ e. inr (is_to_from h m b (e.0, e.1), e.2)) (f m b v p k))

  stored_fewer : Stored s h.at.member h.at.block h.bytes t → FewerVersions over t
  stored_fewer k = record {
    on = k.on ∙ sym on;
    sized = record { members = k.sized.members; blocks = k.sized.blocks };
    same = λ m b p. last_cond (is_to h m b) [] (s.versions m b) h.bytes (current t m b) (λ e. let q = is_to_true h m b e in ap (λ i. current t i b) q.0 ∙ ap (λ j. current t h.at.member j) q.1 ∙ k.here) (λ e. k.elsewhere m b p (is_to_false h m b e));
    former = down_former k.former;
  }

  -- power went: the store stays held
  cut_kept : (later : List HeldStore) → CutStore s h.at.member h.at.block h.bytes t → Cut (buffered (h ∷ later) s) (buffered (h ∷ later) t)
  cut_kept later k = record {
    off = k.off;
    sized = record { members = k.sized.members; blocks = k.sized.blocks };
    former = λ m b v p j. replay_absorbs m b (h ∷ later) (t.versions m b) (s.versions m b) (λ w i. replay_grows m b later (over.versions m b) w (down_former k.former m b w p i)) v j;
  }

  -- a store to no block is seen at none
  nowhere : (HasBlock s h.at.member h.at.block → ⊥) → t ≡ s → FewerVersions over t
  nowhere none e = record {
    on = ap (λ u. u.on) e;
    sized = record { members = ap (λ u. u.members) e; blocks = ap (λ u. u.blocks) e };
    same = λ m b p. last_cond (is_to h m b) [] (s.versions m b) h.bytes (current t m b) (λ q. absurd (none (away m b p q))) (λ _. ap (λ u. current u m b) e);
    former = λ m b v p k. cond_in (is_to h m b) (s.versions m b) h.bytes v (inl (subst (λ u. Version u m b v) e k));
  } where
    away : (m b : ℕ) → HasBlock s m b → is_to h m b ≡ true → HasBlock s h.at.member h.at.block
    away m b p q = let e = is_to_true h m b q in (subst (λ i. i < s.members) e.0 p.0, subst (λ j. j < s.blocks) e.1 p.1)

  passed_fewer : (r : Result (Unit {0}) Refusal) → length h.bytes ≡ 512 → Stores s h.at.member h.at.block h.bytes r t → t.on ≡ true → FewerVersions over t
  passed_fewer (Ok u) long k up = stored_fewer k.1
  passed_fewer (Err e) long k up =
      ⊎_elim
      (λ c. absurd (both_ways t.on c.1.1.off up))
      (λ c. nowhere (λ p. absurd (none-some e (sym (passing s.on s.members s.blocks h.at.member h.at.block (length h.bytes) (record { on = on; member = p.0; block = p.1; long = long })) ∙ c.0))) c.1)
      (refused_cases (checks s h.at.member h.at.block (length h.bytes)) e _ _ k)

  -- power stayed: the oldest is gone from what is held
  pub gone_fewer : (hs left : List HeldStore) (r : Result (Unit {0}) Refusal) → hs ≡ h ∷ left → length h.bytes ≡ 512 → Stores s h.at.member h.at.block h.bytes r t → t.on ≡ true → FewerVersions (buffered hs s) (buffered left t)
  gone_fewer hs left r e long k up = rw e (fewer_under left over t (passed_fewer r long k up))

  -- power went: what was held is held, and a refusal comes up
  pub kept_cut : (hs later : List HeldStore) (r : Result (Unit {0}) Refusal) → hs ≡ h ∷ later → Stores s h.at.member h.at.block h.bytes r t → t.on ≡ false → (e : Refusal) × (r ≡ Err e) × IsPowerOff e × Cut (buffered hs s) (buffered hs t)
  kept_cut hs later (Ok u) is k down = absurd (both_ways t.on down k.1.on)
  kept_cut hs later (Err e) is k down =
      ⊎_elim
      (λ c. (e, refl, c.1.0, rw is (cut_kept later c.1.1)))
      (λ c. absurd (both_ways t.on down (ap (λ u. u.on) c.1 ∙ on)))
      (refused_cases (checks s h.at.member h.at.block (length h.bytes)) e _ _ k)

-- versions lost first, then changed
module _ (s t u : Meaning) (h : FewerVersions s t) where
  place : {m b : ℕ} → HasBlock s m b → HasBlock t m b
  place {m} {b} p = (subst (λ n. m < n) (sym h.sized.members) p.0, subst (λ n. b < n) (sym h.sized.blocks) p.1)

  sized_then : SameCounts t u → SameCounts s u
  sized_then k = record { members = k.members ∙ h.sized.members; blocks = k.blocks ∙ h.sized.blocks }

  pub fewer_then : FewerVersions t u → FewerVersions s u
  fewer_then k = record {
    on = k.on ∙ h.on;
    sized = sized_then k.sized;
    same = λ m b p. k.same m b (place p) ∙ h.same m b p;
    former = λ m b v p j. h.former m b v p (k.former m b v (place p) j);
  }

  pub cut_then : Cut t u → Cut s u
  cut_then k = record {
    off = k.off;
    sized = sized_then k.sized;
    former = λ m b v p j. h.former m b v p (k.former m b v (place p) j);
  }

  pub stored_then : (m b : ℕ) (x : List ℕ) → Stored t m b x u → Stored s m b x u
  stored_then m b x k = record {
    on = k.on;
    sized = sized_then k.sized;
    here = k.here;
    elsewhere = λ i j p d. k.elsewhere i j (place p) d ∙ h.same i j p;
    former = λ i j v p e. ⊎_elim (λ a. inl (h.former i j v p a)) inr (k.former i j v (place p) e);
  }

  pub barred_then : Barred t u → Barred s u
  barred_then k = record {
    on = k.on;
    sized = sized_then k.sized;
    same = λ m b p. k.same m b (place p) ∙ h.same m b p;
    only = λ m b v p j. k.only m b v (place p) j ∙ h.same m b p;
    former = λ m b v p j. h.former m b v p (k.former m b v (place p) j);
  }

-- power going before the store is a cut store that added nothing
pub cut_store : (s t : Meaning) (m b : ℕ) (x : List ℕ) → Cut s t → CutStore s m b x t
cut_store s t m b x k = record { off = k.off; sized = k.sized; former = λ i j v p e. inl (k.former i j v p e) }

-- one store more is held
pub stored_push : (hs : List HeldStore) (h : HeldStore) (s : Meaning) → s.on ≡ true → Stored (buffered hs s) h.at.member h.at.block h.bytes (buffered (hs ++ h ∷ []) s)
stored_push hs h s on = record {
  on = on;
  sized = record { members = refl; blocks = refl };
  here = ap (last_or []) (replay_push h.at.member h.at.block hs h (s.versions h.at.member h.at.block)) ∙ sym (last_cond (is_to h h.at.member h.at.block) [] _ h.bytes h.bytes (λ _. refl) (λ e. absurd (is_to_false h h.at.member h.at.block e (refl, refl))));
  elsewhere = λ i j p d. ap (last_or []) (replay_push i j hs h (s.versions i j)) ∙ sym (last_cond (is_to h i j) [] (replay i j hs (s.versions i j)) h.bytes _ (λ e. absurd (d (is_to_true h i j e))) (λ _. refl));
  former = λ i j v p k. ⊎_elim inl (λ e. let q = is_to_true h i j e.0 in inr (q.0, q.1, e.1)) (in_cond (is_to h i j) (replay i j hs (s.versions i j)) h.bytes v (subst (In v) (replay_push i j hs h (s.versions i j)) k));
}

pub held_last : (hs more : List HeldStore) (h : HeldStore) (x : List ℕ) (s : Meaning) → s.on ≡ true → more ≡ hs ++ h ∷ [] → h.bytes ≡ x → Stored (buffered hs s) h.at.member h.at.block x (buffered more s)
held_last hs more h x s on e f = rw (← f, e) (stored_push hs h s on)

-- power comes back, with nothing held
pub powered_under : (hs : List HeldStore) (s t : Meaning) → PoweredOn s t → PoweredOn (buffered hs s) t
powered_under hs s t k = record {
  on = k.on;
  sized = record { members = k.sized.members; blocks = k.sized.blocks };
  picked = λ m b p. replay_grows m b hs (s.versions m b) (current t m b) (k.picked m b p);
  only = k.only;
}

-- the barrier below, with nothing held any more
pub bars_then : {U : Type 0} (s t u : Meaning) (r : Result U Refusal) → s.on ≡ true → FewerVersions s t → Bars t r u → Bars s r u
bars_then s t u (Ok x) on h k = (simp on, barred_then s t u h k.1)
bars_then s t u (Err e) on h k =
    ⊎_elim
    (λ c. refused_went (barrier_checks s) e (u ≡ s) _ (simp on) (c.1.0, cut_then s t u h c.1.1))
    (λ c. absurd (none-some e (simp (h.on, on) at c.0)))
    (refused_cases (barrier_checks t) e (u ≡ t) _ k)

pub reads_under : {U : Type 0} (hs : List HeldStore) (s t : Meaning) (m b : ℕ) (old new : List ℕ) (r : Result U Refusal) → current (buffered hs s) m b ≡ current s m b → Reads s m b old r new t → Reads (buffered hs s) m b old r new (buffered hs t)
reads_under hs s t m b old new (Ok x) e k = (k.0, k.1 ∙ sym e, ap (buffered hs) k.2)
reads_under hs s t m b old new (Err x) e k = (k.0, refused_weaker (checks s m b (length old)) x (ap (buffered hs)) (λ c. (c.0, cut_under hs s t c.1)) k.1)
