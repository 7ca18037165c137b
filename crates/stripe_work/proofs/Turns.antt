-- One position more: read unless it is cached, stored if it is. Assumes nothing.
use Rattle.std.proofs.Common.{◌≡◌, ℕ, ◌+◌, ◌<◌, List, [], ◌∷◌, Some, None, sym, refl, ap, ◌∙◌, subst}
use Rattle.member_store.specs.Meaning.{Meaning}
use Rattle.member_store.specs.declared.refusal.Refusal.{Refusal}
use Rattle.device_calls.specs.Lists.{DeviceCall, read, store, Completed, Stopped, for_each}
use Rattle.device_calls.proofs.Append.{for_each_more, for_each_stopped}
use Rattle.stripe_work.specs.Stripe.{Stripe, data_at}
use Rattle.stripe_work.specs.Work.{CachedBlocks, or_else, merged, uncached_read, cached_store}

-- a list of one call, at the place that an address was found to be
pub moved : (P : List DeviceCall → Type 0) (f : ℕ → ℕ → DeviceCall) (a b m n : ℕ) → a ≡ m → b ≡ n → P (f a b ∷ []) → P (f m n ∷ [])
moved P f a b m n p q h = subst (λ (j : ℕ). P (f m j ∷ [])) q (subst (λ (i : ℕ). P (f i b ∷ [])) p h)

module _ (w : Stripe) (c : CachedBlocks) (s : Meaning) where
  abbrev reads : ℕ → List DeviceCall
  reads j = uncached_read (c j) (w.member j) w.block

  pub pass_read : (j : ℕ) (x : List ℕ) → c j ≡ Some x → Completed (for_each reads j) s s → Completed (for_each reads (j + 1)) s s
  pass_read j x h d = for_each_more reads j s s s d (subst (λ o. Completed (uncached_read o (w.member j) w.block) s s) (sym h) refl)

  pub more_read : (j a b : ℕ) (u t : Meaning) → c j ≡ None → a ≡ w.member j → b ≡ w.block → u ≡ s → t ≡ u → Completed (read a b ∷ []) u t → Completed (for_each reads j) s s → Completed (for_each reads (j + 1)) s s
  more_read j a b u t h p q e k r d =
      for_each_more reads j s s s d
      (subst (λ o. Completed (uncached_read o (w.member j) w.block) s s) (sym h)
      (moved (λ os. Completed os s s) read a b (w.member j) w.block p q
      (subst (λ v. Completed (read a b ∷ []) s v) (k ∙ e) (subst (λ v. Completed (read a b ∷ []) v t) e r))))

  pub stop_read : (j n a b : ℕ) (u t : Meaning) (e : Refusal) → j < n → c j ≡ None → a ≡ w.member j → b ≡ w.block → u ≡ s → Stopped (read a b ∷ []) u e t → Completed (for_each reads j) s s → Stopped (for_each reads n) s e t
  stop_read j n a b u t e l h p q k r d =
      for_each_stopped reads n j s s e t l d
      (subst (λ o. Stopped (uncached_read o (w.member j) w.block) s e t) (sym h)
      (moved (λ os. Stopped os s e t) read a b (w.member j) w.block p q (subst (λ v. Stopped (read a b ∷ []) v e t) k r)))

  pub merged_cached : (j : ℕ) (x : List ℕ) → c j ≡ Some x → x ≡ merged w c s j
  merged_cached j x h = ap (λ o. or_else o (data_at w s j)) (sym h)

  pub merged_read : (j : ℕ) → c j ≡ None → data_at w s j ≡ merged w c s j
  merged_read j h = ap (λ o. or_else o (data_at w s j)) (sym h)

  abbrev stores : ℕ → List DeviceCall
  stores j = cached_store (c j) (w.member j) w.block

  pub pass_store : (j : ℕ) (u : Meaning) → c j ≡ None → Completed (for_each stores j) s u → Completed (for_each stores (j + 1)) s u
  pass_store j u h d = for_each_more stores j s u u d (subst (λ o. Completed (cached_store o (w.member j) w.block) u u) (sym h) refl)

  pub more_store : (j a b : ℕ) (x : List ℕ) (u t : Meaning) → c j ≡ Some x → a ≡ w.member j → b ≡ w.block → Completed (store a b x ∷ []) u t → Completed (for_each stores j) s u → Completed (for_each stores (j + 1)) s t
  more_store j a b x u t h p q r d =
      for_each_more stores j s u t d
      (subst (λ o. Completed (cached_store o (w.member j) w.block) u t) (sym h)
      (moved (λ os. Completed os u t) (λ m n. store m n x) a b (w.member j) w.block p q r))

  pub stop_store : (j n a b : ℕ) (x : List ℕ) (u t : Meaning) (e : Refusal) → j < n → c j ≡ Some x → a ≡ w.member j → b ≡ w.block → Stopped (store a b x ∷ []) u e t → Completed (for_each stores j) s u → Stopped (for_each stores n) s e t
  stop_store j n a b x u t e l h p q r d =
      for_each_stopped stores n j s u e t l d
      (subst (λ o. Stopped (cached_store o (w.member j) w.block) u e t) (sym h)
      (moved (λ os. Stopped os u e t) (λ m n. store m n x) a b (w.member j) w.block p q r))
