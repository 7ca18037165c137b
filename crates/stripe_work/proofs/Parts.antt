-- Properties of the parts of the work on a stripe. Assumes nothing.
use Rattle.std.proofs.Common.{◌≡◌, ℕ, zero, suc, ◌<◌, true, List, [], ◌∷◌, replicate, Some, None, Option, refl, ap, ◌∙◌, subst, ⊎_elim}
use Rattle.std.proofs.lemmas.Slice.Eq.{bytes_eq-Decides}
use Rattle.parity.specs.Xor.{parity_of}
use Rattle.geometry.specs.Layouts.{Arrangement, Lawful}
use Rattle.member_store.specs.Meaning.{Meaning, current, HasBlock, Version}
use Rattle.device_calls.specs.Lists.{DeviceCall, read, store, Completed}
use Rattle.device_calls.specs.Effects.{Every, InRange, Spares, Reading, Gains}
use Rattle.device_calls.proofs.Append.{for_each_same}
use Rattle.device_calls.proofs.Properties.{every_then, every_for_each, written_not}
use Rattle.stripe_work.specs.Stripe.{Stripe, stripe_at, data_at, stripe_data, parity_at, parity_right, RightParity}
use Rattle.stripe_work.specs.Work.{CachedBlocks, none_cached, cached_in, or_else, merged, merged_data, uncached_read, cached_store, data_reads, data_stores, check_calls}
use Rattle.stripe_work.specs.Outcomes.{OthersSpared}
use Rattle.stripe_work.proofs.Rows.{listed_same}

-- The members of a stripe differ.
pub record Distinct (w : Stripe) : Type 0 where
  pub apart : (j : ℕ) → j < w.positions → w.member j ≡ w.parity → ⊥
  pub differ : (i j : ℕ) → i < w.positions → j < w.positions → w.member i ≡ w.member j → i ≡ j

pub distinct : (arrange : ℕ → ℕ → Arrangement) (m k : ℕ) → Lawful m (arrange m k) → Distinct (stripe_at arrange m k)
distinct arrange m k h = record { apart = h.apart; differ = h.differ }

-- the test of parity says just when it is right
pub right_from_test : (w : Stripe) (s : Meaning) → parity_right w s ≡ true → RightParity w s
right_from_test w s = (bytes_eq-Decides (parity_at w s) (parity_of (stripe_data w s))).0

pub test_from_right : (w : Stripe) (s : Meaning) → RightParity w s → parity_right w s ≡ true
test_from_right w s = (bytes_eq-Decides (parity_at w s) (parity_of (stripe_data w s))).1

-- one position

uncached_every : (P : DeviceCall → Type 0) (o : Option (List ℕ)) (m b : ℕ) → P (read m b) → Every P (uncached_read o m b)
uncached_every P None m b h = (h, tt)
uncached_every P (Some x) m b h = tt

cached_every : (P : DeviceCall → Type 0) (o : Option (List ℕ)) (m b : ℕ) → ((x : List ℕ) → P (store m b x)) → Every P (cached_store o m b)
cached_every P None m b h = tt
cached_every P (Some x) m b h = (h x, tt)

pub cached_spares : (o : Option (List ℕ)) (m b i k : ℕ) → ((i ≡ m) × (k ≡ b) → ⊥) → Every (Spares i k) (cached_store o m b)
cached_spares o m b i k h = cached_every (Spares i k) o m b (λ x. h)

-- either the read or the store of a position names its place
pub either_in_range : (s : Meaning) (o : Option (List ℕ)) (m b : ℕ) → Every (InRange s) (uncached_read o m b) → Every (InRange s) (cached_store o m b) → HasBlock s m b
either_in_range s None m b p q = p.0
either_in_range s (Some x) m b p q = q.0

-- after the store of a position
pub stored_here : (o : Option (List ℕ)) (m b : ℕ) (old : List ℕ) (u t : Meaning) → current u m b ≡ old → Completed (cached_store o m b) u t → current t m b ≡ or_else o old
stored_here None m b old u t e d = ap (λ v. current v m b) d ∙ e
stored_here (Some x) m b old u t e d = ap (λ v. current v m b) d.2 ∙ d.1.1.here

-- all positions

pub reads_every : (P : DeviceCall → Type 0) (w : Stripe) (c : CachedBlocks) → ((j : ℕ) → j < w.positions → P (read (w.member j) w.block)) → Every P (data_reads w c)
reads_every P w c h = every_for_each P (λ j. uncached_read (c j) (w.member j) w.block) w.positions (λ j l. uncached_every P (c j) (w.member j) w.block (h j l))

pub stores_every : (P : DeviceCall → Type 0) (w : Stripe) (c : CachedBlocks) → ((j : ℕ) (x : List ℕ) → j < w.positions → P (store (w.member j) w.block x)) → Every P (data_stores w c)
stores_every P w c h = every_for_each P (λ j. cached_store (c j) (w.member j) w.block) w.positions (λ j l. cached_every P (c j) (w.member j) w.block (λ x. h j x l))

pub check_every : (P : DeviceCall → Type 0) (w : Stripe) → ((j : ℕ) → j < w.positions → P (read (w.member j) w.block)) → P (read w.parity w.block) → Every P (check_calls w)
check_every P w h k = every_then P (data_reads w none_cached) (read w.parity w.block ∷ []) (reads_every P w none_cached h) (k, tt)

pub check_reads : (w : Stripe) → Every Reading (check_calls w)
check_reads w = check_every Reading w (λ j l. tt) tt

-- other stripes gain nothing, by a list that spares them
pub others_spared : (w : Stripe) (os : List DeviceCall) (s t : Meaning) → ((m b : ℕ) → (b ≡ w.block → ⊥) → Every (Spares m b) os) → Gains os s t → OthersSpared w s t
others_spared w os s t h g m b v p ne k = ⊎_elim (λ z. z) (λ z. absurd (written_not m b v os (h m b ne) z)) (g m b v p k)

pub others_same : (w : Stripe) (s t : Meaning) → t ≡ s → OthersSpared w s t
others_same w s t e m b v p ne k = subst (λ u. Version u m b v) e k

-- nothing is cached

pub nothing_in : (n j : ℕ) → cached_in (replicate n None) j ≡ None
nothing_in zero j = refl
nothing_in (suc n) zero = refl
nothing_in (suc n) (suc j) = nothing_in n j

pub same_reads : (w : Stripe) (n : ℕ) → data_reads w (cached_in (replicate n None)) ≡ data_reads w none_cached
same_reads w n = for_each_same (λ j. uncached_read (cached_in (replicate n None) j) (w.member j) w.block) (λ j. read (w.member j) w.block ∷ []) w.positions (λ j l. ap (λ o. uncached_read o (w.member j) w.block) (nothing_in n j))

pub same_data : (w : Stripe) (n : ℕ) (s : Meaning) → merged_data w (cached_in (replicate n None)) s ≡ stripe_data w s
same_data w n s = listed_same (merged w (cached_in (replicate n None)) s) (data_at w s) w.positions (λ j l. ap (λ o. or_else o (data_at w s j)) (nothing_in n j))
