use Rattle.geometry.specs.Counts.{members_of, blocks_of}
use Rattle.cache.specs.Meaning.{contents}
use Rattle.cache.specs.Stripes.{by_position}
use Rattle.stripe_work.specs.Work.{cached_in}
use Rattle.stripe_work.proofs.Destaging.{destages_same}
use Rattle.array_work.proofs.destage.write_stripe.Goals as goal

pub returns : goal.returns
returns g c =
    let m = members_of c.args.geometry.now.shape in
    let n = blocks_of c.args.geometry.now.shape in
    destages_same g.L.Layout.arrangement m n c.args.stripe (cached_in c.destaging_blocks-cached.result) (by_position m n (contents c.args.caches.now).destaging c.args.stripe) (g.S.MemberStore.meaning c.args.store.now) c.destage_stripe.result (g.S.MemberStore.meaning c.destage_stripe.new.store)
    (λ j h. c.destaging_blocks-cached.ensures j)
    c.destage_stripe.ensures
