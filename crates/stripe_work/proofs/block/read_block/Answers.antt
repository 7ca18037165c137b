use Rattle.std.proofs.Common.{◌≡◌, ℕ, List, Ok, Err, Result}
use Rattle.std.specs.Result as results
use Rattle.member_store.specs.Meaning.{Meaning, current}
use Rattle.member_store.specs.Calls.{Reads}
use Rattle.member_store.specs.declared.refusal.Refusal.{Refusal}
use Rattle.device_calls.proofs.Single.{read_performs}
use Rattle.stripe_work.proofs.block.read_block.Goals as goal

got : {U : Type 0} (m b : ℕ) (old new : List ℕ) (s t : Meaning) (r : Result U Refusal) → Reads s m b old r new t → results.MatchResult r (λ _. (new ≡ current s m b) × (t ≡ s)) (λ _. new ≡ old)
got m b old new s t (Ok u) h = (h.1, h.2)
got m b old new s t (Err e) h = h.0

pub returns : goal.returns
returns g c =
    let s = g.S.MemberStore.meaning c.args.store.now in
    let t = g.S.MemberStore.meaning c.read.new.self in
    record {
      calls = read_performs c.args.at.member c.args.at.block c.args.into.now c.read.new.into s t c.read.result c.told-into c.read.ensures.means;
      bytes = got c.args.at.member c.args.at.block c.args.into.now c.read.new.into s t c.read.result c.read.ensures.means;
    }
