-- The device calls of the work on a stripe, in their order.
use Rattle.std.specs.Prelude.{ℕ, zero, suc, ◌+◌, Bool, false, cond, List, [], ◌∷◌, ◌++◌, Some, None, Option, ◌==◌, slice_index_or}
use Rattle.parity.specs.Xor.{parity_of, without}
use Rattle.geometry.specs.Layouts.{Arrangement}
use Rattle.geometry.specs.Places.{stripes}
use Rattle.member_store.specs.Meaning.{Meaning}
use Rattle.device_calls.specs.Lists.{DeviceCall, read, store, for_each}
use Rattle.stripe_work.specs.Stripe.{Stripe, stripe_at, listed, data_at, stripe_data, parity_right, row_blocks}

-- The cached blocks of a stripe, by position.
abbrev pub CachedBlocks : Type 0
CachedBlocks = ℕ → Option (List ℕ)

abbrev pub none_cached : CachedBlocks
none_cached j = None

abbrev pub cached_in : List (Option (List ℕ)) → CachedBlocks
cached_in blocks j = slice_index_or blocks j None

-- By rows, and which of them hold a cached block.
abbrev pub held_in : List Bool → List (List ℕ) → CachedBlocks
held_in held rows j = cond (slice_index_or held j false) (Some (slice_index_or rows j [])) None

-- The cached block of a position, else the one that the stripe holds there; and all data so merged, by position.
abbrev pub or_else : Option (List ℕ) → List ℕ → List ℕ
or_else None x = x
or_else (Some y) x = y

abbrev pub merged : Stripe → CachedBlocks → Meaning → ℕ → List ℕ
merged w c s j = or_else (c j) (data_at w s j)

abbrev pub merged_data : Stripe → CachedBlocks → Meaning → List (List ℕ)
merged_data w c s = listed (merged w c s) w.positions

-- A block that is not cached is read; one that is cached is stored.
abbrev pub uncached_read : Option (List ℕ) → ℕ → ℕ → List DeviceCall
uncached_read None m b = read m b ∷ []
uncached_read (Some x) m b = []

abbrev pub cached_store : Option (List ℕ) → ℕ → ℕ → List DeviceCall
cached_store None m b = []
cached_store (Some x) m b = store m b x ∷ []

-- By position: the data that is not cached is read, the cached data stored.
abbrev pub data_reads : Stripe → CachedBlocks → List DeviceCall
data_reads w c = for_each (λ j. uncached_read (c j) (w.member j) w.block) w.positions

abbrev pub data_stores : Stripe → CachedBlocks → List DeviceCall
data_stores w c = for_each (λ j. cached_store (c j) (w.member j) w.block) w.positions

abbrev pub parity_store : Stripe → List ℕ → List DeviceCall
parity_store w x = store w.parity w.block x ∷ []

-- A destage: the data that is not cached is read, the cached data stored, then the parity of all merged data.
abbrev pub destage_calls : Stripe → CachedBlocks → Meaning → List DeviceCall
destage_calls w c s = data_reads w c ++ data_stores w c ++ parity_store w (parity_of (merged_data w c s))

-- A check: the data is read, then the parity.
abbrev pub check_calls : Stripe → List DeviceCall
check_calls w = data_reads w none_cached ++ read w.parity w.block ∷ []

-- A step of resynchronization: a check; where parity was wrong, that of the data is stored.
abbrev pub resync_calls : Stripe → Meaning → List DeviceCall
resync_calls w s = check_calls w ++ cond (parity_right w s) [] (parity_store w (parity_of (stripe_data w s)))

-- A scan of an array with m members of n blocks: each stripe is checked; and how many of the first k have wrong parity.
abbrev pub scan_calls : (ℕ → ℕ → Arrangement) → ℕ → ℕ → List DeviceCall
scan_calls arrange m n = for_each (λ k. check_calls (stripe_at arrange m k)) (stripes n)

abbrev pub wrong_below : (ℕ → ℕ → Arrangement) → ℕ → Meaning → ℕ → ℕ
wrong_below arrange m s zero = 0
wrong_below arrange m s (suc k) = wrong_below arrange m s k + cond (parity_right (stripe_at arrange m k) s) 0 1

-- Block b of each of m members is read but that of the absent one, by member; and the exclusive or of these.
abbrev pub other_reads : ℕ → ℕ → ℕ → List DeviceCall
other_reads m b absent = for_each (λ t. cond (t == absent) [] (read t b ∷ [])) m

abbrev pub reconstructed : ℕ → ℕ → ℕ → Meaning → List ℕ
reconstructed m b absent s = parity_of (without absent (row_blocks m b s))
