-- What the caches and a list of stripes mean. Assumes nothing.
use Rattle.std.specs.Prelude.{ℕ, List, take}
use Rattle.cache.specs.declared.caches.Caches.{Caches}
use Rattle.cache.specs.declared.list.StripeList.{StripeList}
use Rattle.cache.specs.Contents.{Contents}
use Rattle.cache.specs.Slots.{contents_of}

abbrev pub contents : Caches → Contents
contents c = contents_of c.slots

abbrev pub listed : StripeList → List ℕ
listed l = take l.count l.numbers
