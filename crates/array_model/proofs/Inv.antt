-- What every call keeps. Assumes nothing.
use Rattle.std.proofs.Common.{◌≡◌, ℕ, ◌<◌, ◌≤◌, Bool, true, false, ◌⊎◌, List, [], ◌∷◌, length, Some, None, sym, refl, ap, ◌∙◌, subst, inl, inr, arith}
use Rattle.std.proofs.lemmas.Bool.{true≢false}
use Rattle.parity.specs.Xor.{parity_of}
use Rattle.member_store.specs.Meaning.{last_or, In, current, Version, HasBlock}
use Rattle.member_store.specs.Meaning as store
use Rattle.member_store.specs.Calls.{SameCounts}
use Rattle.intent_log.specs.Meaning as intent
use Rattle.intent_log.specs.Meaning.{Standing, MayStand}
use Rattle.intent_log.specs.Calls.{Includes}
use Rattle.cache.specs.Contents.{Blocks}
use Rattle.cache.specs.Stripes.{count_below}
use Rattle.stripe_work.specs.Stripe.{listed, data_at, parity_at, RightParity}
use Rattle.stripe_work.specs.Work.{or_else}
use Rattle.stripe_work.proofs.Rows.{listed_same}
use Rattle.array_model.specs.Meaning.{Meaning, named, Geometry, stripe_count, stripe}
use Rattle.array_model.specs.Book.{Book, InBook, latest, Since}
use Rattle.array_model.specs.declared.state.Progress.{Progress}
use Rattle.array_model.specs.declared.state.State.{State}
use Rattle.array_model.specs.declared.state.State.TheVariants.{Fallen, Down, Resync, Ready, Short}
use Rattle.array_model.proofs.Places.{Facts, width, number}

-- the members have the counts of the geometry
pub record On (g : Geometry) (m : store.Meaning) : Type 0 where
  pub members : m.members ≡ g.members
  pub blocks : m.blocks ≡ g.blocks

pub has : (g : Geometry) (m : store.Meaning) → On g m → (i b : ℕ) → i < g.members → b < g.blocks → HasBlock m i b
has g m o i b p q = (subst (λ (n : ℕ). i < n) (sym o.members) p, subst (λ (n : ℕ). b < n) (sym o.blocks) q)

pub on_then : (g : Geometry) (m n : store.Meaning) → On g m → SameCounts m n → On g n
on_then g m n o c = record { members = c.members ∙ o.members; blocks = c.blocks ∙ o.blocks }

-- the versions of the blocks that there are
abbrev pub Each : Geometry → store.Meaning → (ℕ → ℕ → List ℕ → Type 0) → Type 0
Each g m P = (i b : ℕ) (v : List ℕ) → i < g.members → b < g.blocks → Version m i b v → P i b v

-- every version is a former one or one of A
abbrev pub Grows : Geometry → (ℕ → ℕ → List ℕ → Type 0) → store.Meaning → store.Meaning → Type 0
Grows g A m n = Each g n (λ i b v. Version m i b v ⊎ A i b v)

-- every current version has 512 bytes, and so is a version
abbrev pub Sized : Geometry → store.Meaning → Type 0
Sized g m = (i b : ℕ) → i < g.members → b < g.blocks → length (current m i b) ≡ 512

last_in : (x : List ℕ) (vs : List (List ℕ)) → In (last_or x vs) (x ∷ vs)
last_in x [] = inl refl
last_in x (v ∷ vs) = inr (last_in v vs)

full_in : (vs : List (List ℕ)) → length (last_or [] vs) ≡ 512 → In (last_or [] vs) vs
full_in [] e = absurd (omega arith)
full_in (v ∷ vs) e = last_in v vs

pub stands : (g : Geometry) (m : store.Meaning) → Sized g m → (i b : ℕ) → i < g.members → b < g.blocks → Version m i b (current m i b)
stands g m z i b p q = full_in (m.versions i b) (z i b p q)

-- the places of a stripe
module _ (g : Geometry) (f : Facts g) where
  pub member_below : (s j : ℕ) → j < width g → (stripe g s).member j < g.members
  member_below s j k = (f.lawful s).member_below j k

  pub parity_below : (s : ℕ) → (stripe g s).parity < g.members
  parity_below s = (f.lawful s).parity_below

-- each block of stripe s has one version, and its parity is right
pub record Clean (g : Geometry) (m : store.Meaning) (s : ℕ) : Type 0 where
  pub row : ℕ → List ℕ
  pub only_data : (j : ℕ) (v : List ℕ) → j < width g → Version m ((stripe g s).member j) (stripe g s).block v → v ≡ row j
  pub only_parity : (v : List ℕ) → Version m (stripe g s).parity (stripe g s).block v → v ≡ parity_of (listed row (width g))

-- under this record the stripes not named are clean
abbrev pub Guarded : Geometry → store.Meaning → Standing → Type 0
Guarded g m c = c.stands ≡ true → (s : ℕ) → s < stripe_count g → c.names s ≡ false → Clean g m s

-- every version of a block of data is by the book
abbrev pub Known : Geometry → Book → store.Meaning → Type 0
Known g b m = (s j : ℕ) (v : List ℕ) → s < stripe_count g → j < width g → Version m ((stripe g s).member j) (stripe g s).block v → InBook b (number g s j) v

-- what is in the book has 512 bytes
abbrev pub BookSized : Geometry → Book → Type 0
BookSized g b = (s j : ℕ) (v : List ℕ) → s < stripe_count g → j < width g → InBook b (number g s j) v → length v ≡ 512

-- whatever may stand after a cut
pub record Crash (g : Geometry) (b : Book) (m : store.Meaning) (l : intent.Meaning) : Type 0 where
  pub on : On g m
  pub guard : (c : Standing) → MayStand l c → Guarded g m c
  pub known : Known g b m
  pub whole : Each g m (λ i k v. length v ≡ 512)
  pub sized : BookSized g b

abbrev pub AllClean : Geometry → store.Meaning → Type 0
AllClean g m = (s : ℕ) → s < stripe_count g → Clean g m s

-- power is on, and just one thing may stand
pub record Sure (l : intent.Meaning) : Type 0 where
  pub powered : l.on ≡ true
  pub single : (c : Standing) → MayStand l c → c ≡ l.standing

abbrev pub NoBlocks : Geometry → Blocks → Type 0
NoBlocks g c = (s j : ℕ) → s < stripe_count g → j < width g → c (number g s j) ≡ None

-- down, resync and short: power on, caches empty
pub record Calm (g : Geometry) (b : Book) (s : Meaning) : Type 0 where
  pub crash : Crash g b s.members s.log
  pub full : Sized g s.members
  pub sure : Sure s.log
  pub no_buffered : NoBlocks g s.caches.buffering
  pub no_destaging : NoBlocks g s.caches.destaging

pub record InResyncing (g : Geometry) (b : Book) (z : Since) (p : Progress) (s : Meaning) : Type 0 where
  pub calm : Calm g b s
  pub record_stands : s.log.standing.stands ≡ true
  pub names : (k : ℕ) → z.names k ≡ named s k
  pub below : p.next ≤ stripe_count g
  pub right : (k : ℕ) → k < p.next → RightParity (stripe g k) s.members
  pub read_is : p.read ≡ count_below p.next z.names
  pub mended_is : p.mended ≡ length z.mended
  pub mended_named : (k : ℕ) → In k z.mended → (k < stripe_count g) × (z.names k ≡ true)
  pub unnamed_same : (k i : ℕ) → k < stripe_count g → i < g.members → z.names k ≡ false
      → current s.members i (stripe g k).block ≡ current z.members i (stripe g k).block
  pub unnamed_none : (k i : ℕ) (v : List ℕ) → k < stripe_count g → i < g.members → z.names k ≡ false
      → Version s.members i (stripe g k).block v → Version z.members i (stripe g k).block v

abbrev pub CacheKnown : Geometry → Book → Blocks → Type 0
CacheKnown g b c = (s j : ℕ) (x : List ℕ) → s < stripe_count g → j < width g → c (number g s j) ≡ Some x → InBook b (number g s j) x

-- the block as destaging would leave it; as the array has it
abbrev pub destaged : Geometry → Meaning → ℕ → ℕ → List ℕ
destaged g s k j = or_else (s.caches.destaging (number g k j)) (data_at (stripe g k) s.members j)

pub record InReadiness (g : Geometry) (b : Book) (s : Meaning) : Type 0 where
  pub crash : Crash g b s.members s.log
  pub full : Sized g s.members
  pub sure : Sure s.log
  pub record_stands : s.log.standing.stands ≡ true
  pub right : (k : ℕ) → k < stripe_count g → RightParity (stripe g k) s.members
  pub due : (k j : ℕ) (x : List ℕ) → k < stripe_count g → j < width g → s.caches.destaging (number g k j) ≡ Some x → named s k ≡ true
  pub by_buffering : CacheKnown g b s.caches.buffering
  pub by_destaging : CacheKnown g b s.caches.destaging
  pub last : (k j : ℕ) → k < stripe_count g → j < width g → or_else (s.caches.buffering (number g k j)) (destaged g s k j) ≡ latest b (number g k j)

abbrev pub InvIn : Geometry → Book → Since → State → Meaning → Type 0
InvIn g b z Fallen s = Crash g b s.members s.log
InvIn g b z Down s = Calm g b s
InvIn g b z (Resync p) s = InResyncing g b z p s
InvIn g b z Ready s = InReadiness g b s
InvIn g b z (Short d) s = Calm g b s × (s.log.standing.stands ≡ true)

abbrev pub Inv : Geometry → Book → Since → Meaning → Type 0
Inv g b z s = InvIn g b z s.state s

pub inv_crash : (g : Geometry) (b : Book) (z : Since) (q : State) (s : Meaning) → InvIn g b z q s → Crash g b s.members s.log
inv_crash g b z Fallen s i = i
inv_crash g b z Down s i = i.crash
inv_crash g b z (Resync p) s i = i.calm.crash
inv_crash g b z Ready s i = i.crash
inv_crash g b z (Short d) s i = i.0.crash

-- clean stripes

module _ (g : Geometry) (f : Facts g) where
  pub clean_grows : (A : ℕ → ℕ → List ℕ → Type 0) (m n : store.Meaning) (s : ℕ) → s < stripe_count g → Grows g A m n → ((i : ℕ) (v : List ℕ) → A i (stripe g s).block v → ⊥) → Clean g m s → Clean g n s
  clean_grows A m n s l grows un c = record {
    row = c.row;
    only_data = λ j v h w. elim (grows ((stripe g s).member j) (stripe g s).block v (member_below g f s j h) l w) [ inl u ↦ c.only_data j v h u | inr a ↦ absurd (un ((stripe g s).member j) v a) ];
    only_parity = λ v w. elim (grows (stripe g s).parity (stripe g s).block v (parity_below g f s) l w) [ inl u ↦ c.only_parity v u | inr a ↦ absurd (un (stripe g s).parity v a) ];
  }

  pub clean_right : (m : store.Meaning) (s : ℕ) → s < stripe_count g → Sized g m → Clean g m s → RightParity (stripe g s) m
  clean_right m s l z c =
      c.only_parity (parity_at (stripe g s) m) (stands g m z (stripe g s).parity (stripe g s).block (parity_below g f s) l)
      ∙ ap parity_of (sym (listed_same (data_at (stripe g s) m) c.row (width g)
      (λ j h. c.only_data j (data_at (stripe g s) m j) h (stands g m z ((stripe g s).member j) (stripe g s).block (member_below g f s j h) l))))

  -- where every version is current in m, a right stripe is clean
  pub barred_clean : (m n : store.Meaning) (s : ℕ) → s < stripe_count g → Each g n (λ i b v. v ≡ current m i b) → RightParity (stripe g s) m → Clean g n s
  barred_clean m n s l only right = record {
    row = data_at (stripe g s) m;
    only_data = λ j v h w. only ((stripe g s).member j) (stripe g s).block v (member_below g f s j h) l w;
    only_parity = λ v w. only (stripe g s).parity (stripe g s).block v (parity_below g f s) l w ∙ right;
  }

  -- other versions are gained only in named stripes, and by the book
  pub crash_grows : (b : Book) (A : ℕ → ℕ → List ℕ → Type 0) (m n : store.Meaning) (l : intent.Meaning) → On g n → Grows g A m n
      → ((s i : ℕ) (v : List ℕ) → s < stripe_count g → A i (stripe g s).block v → (c : Standing) → MayStand l c → c.stands ≡ true → c.names s ≡ true)
      → ((s j : ℕ) (v : List ℕ) → s < stripe_count g → j < width g → A ((stripe g s).member j) (stripe g s).block v → InBook b (number g s j) v)
      → ((i k : ℕ) (v : List ℕ) → i < g.members → k < g.blocks → A i k v → length v ≡ 512)
      → Crash g b m l → Crash g b n l
  crash_grows b A m n l on grows only by size i = record {
    on = on;
    guard = λ c st up s h un. clean_grows A m n s h grows (λ k v a. true≢false (sym (only s k v h a c st up) ∙ un)) (i.guard c st up s h un);
    known = λ s j v h k w. elim (grows ((stripe g s).member j) (stripe g s).block v (member_below g f s j k) h w) [ inl u ↦ i.known s j v h k u | inr a ↦ by s j v h k a ];
    whole = λ k c v p q w. elim (grows k c v p q w) [ inl u ↦ i.whole k c v p q u | inr a ↦ size k c v p q a ];
    sized = i.sized;
  }

  pub crash_within : (b : Book) (m n : store.Meaning) (l : intent.Meaning) → On g n → Each g n (λ i k v. Version m i k v) → Crash g b m l → Crash g b n l
  crash_within b m n l on within i =
      crash_grows b (λ _ _ _. ⊥) m n l on (λ k c v p q w. inl (within k c v p q w)) (λ s k v h a. absurd a) (λ s j v h k a. absurd a) (λ k c v p q a. absurd a) i

-- another log, guarded as before
pub crash_log : (g : Geometry) (b : Book) (m : store.Meaning) (l n : intent.Meaning) → ((c : Standing) → MayStand n c → Guarded g m c) → Crash g b m l → Crash g b m n
crash_log g b m l n h i = record { on = i.on; guard = h; known = i.known; whole = i.whole; sized = i.sized }

pub clean_crash : (g : Geometry) (b : Book) (m : store.Meaning) (l : intent.Meaning) → On g m → AllClean g m → Known g b m → Each g m (λ i k v. length v ≡ 512) → BookSized g b → Crash g b m l
clean_crash g b m l on all known whole sized = record { on = on; guard = λ c st up s h un. all s h; known = known; whole = whole; sized = sized }

flip : (p q : Bool) → (p ≡ true → q ≡ true) → q ≡ false → p ≡ false
flip false q h e = refl
flip true q h e = absurd (true≢false (sym (h refl) ∙ e))

-- a record that names what c names is guarded if c is
pub includes_guarded : (g : Geometry) (m : store.Meaning) (c d : Standing) → c.stands ≡ true → Includes d c → Guarded g m c → Guarded g m d
includes_guarded g m c d up inc i _ s h un = i up s h (flip (c.names s) (d.names s) (inc s) un)

-- while power is on, what may stand stands
pub sure_guard : (g : Geometry) (m : store.Meaning) (l : intent.Meaning) → Sure l → Guarded g m l.standing → (c : Standing) → MayStand l c → Guarded g m c
sure_guard g m l sure i c st = subst (Guarded g m) (sym (sure.single c st)) i
