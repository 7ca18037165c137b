-- What a list of slots has. Assumes nothing.
use Rattle.std.specs.Prelude.{ℕ, Bool, true, false, cond, not, ◌&&◌, List, [], ◌∷◌, count_by, is_some, is_none, Some, None, Option, ◌==◌}
use Rattle.cache.specs.declared.slot.Cache.{Cache}
use Rattle.cache.specs.declared.slot.Cache.TheVariants.{Buffering, Destaging}
use Rattle.cache.specs.declared.slot.CachedBlock.{CachedBlock}
use Rattle.cache.specs.Contents.{Blocks, Contents}

-- A slot: the block in it, if it is not free.
abbrev pub Slot : Type 0
Slot = Option CachedBlock

abbrev pub same : Cache → Cache → Bool
same Buffering Buffering = true
same Buffering Destaging = false
same Destaging Buffering = false
same Destaging Destaging = true

-- Does the slot have a block of the cache o?
abbrev pub belongs : Cache → Slot → Bool
belongs o None = false
belongs o (Some e) = same e.cache o

-- Does the slot have block k of the cache o?
abbrev pub holds : Cache → ℕ → Slot → Bool
holds o k None = false
holds o k (Some e) = same e.cache o && e.block == k

-- The blocks of the cache o, with their bytes.
abbrev pub blocks : Cache → List Slot → Blocks
blocks o [] k = None
blocks o (None ∷ es) k = blocks o es k
blocks o (Some e ∷ es) k = cond (same e.cache o && e.block == k) (Some e.bytes) (blocks o es k)

-- Each block of the cache o has one slot.
abbrev pub each_once : Cache → List Slot → Bool
each_once o [] = true
each_once o (None ∷ es) = each_once o es
each_once o (Some e ∷ es) = not (same e.cache o && is_some (blocks o es e.block)) && each_once o es

abbrev pub contents_of : List Slot → Contents
contents_of es = record { buffering = blocks Buffering es; destaging = blocks Destaging es; free = count_by is_none es }

-- The blocks of one of the caches.
abbrev pub blocks_in : Cache → Contents → Blocks
blocks_in Buffering c = c.buffering
blocks_in Destaging c = c.destaging

-- The caches change places.
abbrev pub other_cache : Cache → Cache
other_cache Buffering = Destaging
other_cache Destaging = Buffering

abbrev pub slot_exchanged : Slot → Slot
slot_exchanged None = None
slot_exchanged (Some e) = Some (record { cache = other_cache e.cache; block = e.block; bytes = e.bytes })

-- A slot of the destaging cache whose block passes a test becomes free.
abbrev pub slot_freed : (ℕ → Bool) → Slot → Slot
slot_freed test None = None
slot_freed test (Some e) = cond (same e.cache Destaging && test e.block) None (Some e)
