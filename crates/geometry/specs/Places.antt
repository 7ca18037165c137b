-- Where the blocks of an array lie, with m members of n blocks each. Assumes nothing.
use Rattle.std.specs.Prelude.{◌≡◌, ℕ, ◌+◌, ◌-◌, ◌*◌, ◌/◌, ◌%◌, cond, IfSome, Some, None, Option, ◌==◌, nat_lt}
use Rattle.geometry.specs.Layouts.{Arrangement}
use Rattle.geometry.specs.declared.place.Location.{Location}
use Rattle.block_address.specs.declared.Address.{Address}
use Rattle.geometry.specs.declared.place.Content.{Content}
use Rattle.geometry.specs.declared.place.Content.TheVariants.{Data, Parity}

-- A stripe has m - 1 data blocks.
abbrev pub stripe_of : ℕ → ℕ → ℕ
stripe_of m k = k / (m - 1)

abbrev pub position_of : ℕ → ℕ → ℕ
position_of m k = k % (m - 1)

abbrev pub block_number : ℕ → ℕ → ℕ → ℕ
block_number m s j = s * (m - 1) + j

-- How many blocks of data there are.
abbrev pub data_blocks : ℕ → ℕ → ℕ
data_blocks m n = (m - 1) * n

-- A strip is one block: stripe s is block s of every member, so there are as many stripes as a member has blocks.
abbrev pub block_of_stripe : ℕ → ℕ
block_of_stripe s = s

abbrev pub stripe_of_block : ℕ → ℕ
stripe_of_block b = b

abbrev pub stripes : ℕ → ℕ
stripes n = n

-- Block k by stripe and position, where there is such a block; and the way back.
abbrev pub located : ℕ → ℕ → ℕ → Option Location
located m n k = cond (nat_lt k (data_blocks m n)) (Some (record { stripe = stripe_of m k; position = position_of m k })) None

abbrev pub numbered : ℕ → ℕ → Location → Option ℕ
numbered m n l = cond (nat_lt l.stripe (stripes n)) (cond (nat_lt l.position (m - 1)) (Some (block_number m l.stripe l.position)) None) None

-- On the members, by the arrangement of each stripe: the data at a position, the parity.
abbrev pub position_address : (ℕ → ℕ → Arrangement) → ℕ → ℕ → Location → Option Address
position_address arrange m n l =
    cond (nat_lt l.stripe (stripes n))
    (cond (nat_lt l.position (m - 1)) (Some (record { member = (arrange m l.stripe).member l.position; block = block_of_stripe l.stripe })) None)
    None

abbrev pub parity_address : (ℕ → ℕ → Arrangement) → ℕ → ℕ → ℕ → Option Address
parity_address arrange m n s = cond (nat_lt s (stripes n)) (Some (record { member = (arrange m s).parity; block = block_of_stripe s })) None

-- Block k of the data.
abbrev pub data_address : (ℕ → ℕ → Arrangement) → ℕ → ℕ → ℕ → Option Address
data_address arrange m n k =
    cond (nat_lt k (data_blocks m n)) (Some (record { member = (arrange m (stripe_of m k)).member (position_of m k); block = block_of_stripe (stripe_of m k) })) None

-- What stands in stripe s on member t: parity, or data by its number.
abbrev pub member_content : Arrangement → ℕ → ℕ → ℕ → Content
member_content a m s t = cond (t == a.parity) Parity (Data (block_number m s (a.position t)))

-- The way back: what stands at an address, where there is such an address.
abbrev pub content_at : (ℕ → ℕ → Arrangement) → ℕ → ℕ → Address → Option Content
content_at arrange m n at =
    cond (nat_lt at.member m)
    (cond (nat_lt (stripe_of_block at.block) (stripes n)) (Some (member_content (arrange m (stripe_of_block at.block)) m (stripe_of_block at.block) at.member)) None)
    None

-- The address of what stands in stripe s: of a block of data, of the parity.
abbrev pub address_of : (ℕ → ℕ → Arrangement) → ℕ → ℕ → ℕ → Content → Option Address
address_of arrange m n s (Data k) = data_address arrange m n k
address_of arrange m n s Parity = parity_address arrange m n s

-- Where a conversion of x gave something, f converts that back to x.
abbrev pub Undone : {A B : Type 0} → (A → Option B) → B → Option A → Type 0
Undone f x r = IfSome r (λ a. f a ≡ Some x)
