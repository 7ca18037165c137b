-- What an array means: its state, its caches, its members and its log; and where its blocks lie.
use Rattle.std.specs.Prelude.{ℕ, ◌≤◌, Bool, List}
use Rattle.geometry.specs.Layouts.{Arrangement, Lawful}
use Rattle.geometry.specs.Places.{stripe_of, position_of, stripes, data_blocks}
use Rattle.member_store.specs.Meaning as store
use Rattle.intent_log.specs.Meaning as intent
use Rattle.cache.specs.Contents.{Contents}
use Rattle.stripe_work.specs.Stripe.{Stripe, stripe_at, data_at}
use Rattle.array_model.specs.declared.state.State.{State}

pub record Meaning : Type 0 where
  pub state : State
  pub caches : Contents
  pub members : store.Meaning
  pub log : intent.Meaning

abbrev pub array : State → Contents → store.Meaning → intent.Meaning → Meaning
array q c m l = record { state = q; caches = c; members = m; log = l }

-- The array in another state, with other caches, with other members.
abbrev pub in_state : State → Meaning → Meaning
in_state q s = array q s.caches s.members s.log

abbrev pub with_caches : Contents → Meaning → Meaning
with_caches c s = array s.state c s.members s.log

abbrev pub with_members : store.Meaning → Meaning → Meaning
with_members m s = array s.state s.caches m s.log

-- The log names stripe k.
abbrev pub named : Meaning → ℕ → Bool
named s k = s.log.standing.names k

-- A layout: the arrangement of a stripe, by the number of members and the stripe.
abbrev pub Arrange : Type 0
Arrange = ℕ → ℕ → Arrangement

abbrev pub LawfulLayout : Arrange → Type 0
LawfulLayout arrange = (m s : ℕ) → 3 ≤ m → m ≤ 8 → Lawful m (arrange m s)

-- The layout with the counts, which are those of the members.
pub record Geometry : Type 0 where
  pub arrange : Arrange
  pub members : ℕ
  pub blocks : ℕ

abbrev pub geometry_on : Arrange → store.Meaning → Geometry
geometry_on arrange m = record { arrange = arrange; members = m.members; blocks = m.blocks }

abbrev pub geometry : Arrange → Meaning → Geometry
geometry arrange s = geometry_on arrange s.members

-- How many stripes there are, stripe k, and how many blocks of data there are.
abbrev pub stripe_count : Geometry → ℕ
stripe_count g = stripes g.blocks

abbrev pub stripe : Geometry → ℕ → Stripe
stripe g k = stripe_at g.arrange g.members k

abbrev pub block_count : Geometry → ℕ
block_count g = data_blocks g.members g.blocks

-- Block k: its stripe, its position there, the member that has it, and the current bytes at its place.
abbrev pub home : Geometry → ℕ → ℕ
home g k = stripe_of g.members k

abbrev pub position : Geometry → ℕ → ℕ
position g k = position_of g.members k

abbrev pub holder : Geometry → ℕ → ℕ
holder g k = (stripe g (home g k)).member (position g k)

abbrev pub held : Geometry → store.Meaning → ℕ → List ℕ
held g m k = data_at (stripe g (home g k)) m (position g k)
