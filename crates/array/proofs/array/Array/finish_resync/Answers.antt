use Rattle.cache.specs.Meaning.{contents}
use Rattle.array.proofs.Resyncing.{stripe_left}
use Rattle.array.proofs.array.Array.finish_resync.Goals as goal

pub returns-in-Some : goal.returns-in-Some
returns-in-Some g c =
    let q = c.args.self.now.state in
    let d = contents c.args.self.now.caches in
    let m = g.S.MemberStore.meaning c.args.self.now.store in
    let l = g.G.IntentLog.meaning c.args.self.now.log in
    record {
      sound = λ h z. h;
      does = λ h z. stripe_left g.L.Layout.arrangement q d m l c.args.progress c.in_ok-left.left c.in-Some.stripe c.in-Some.is (c.in_ok-left.ensures.finds h z).2;
    }
