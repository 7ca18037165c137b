use Rattle.std.proofs.Common.{Err, ◌≡◌, ℕ, ◌-◌, ◌<◌, None, get_or, take, sym, ◌∙◌, subst, arith, rules}
use Rattle.std.proofs.lemmas.List.{get_or-take}
use Rattle.geometry.specs.Counts.{members_of}
use Rattle.device_calls.specs.Lists.{Completed, for_each}
use Rattle.stripe_work.specs.Stripe.{stripe_at}
use Rattle.stripe_work.specs.Work.{cached_in, cached_store}
use Rattle.stripe_work.proofs.Turns.{pass_store, more_store, stop_store}
use Rattle.stripe_work.proofs.data.store_cached.Goals as goal
use Rattle.stripe_work.proofs.data.store_cached.Goals.{in-Some+in_ok-store_block, in_default}

pub loop-position-preserved : goal.loop-position-preserved
loop-position-preserved g c =
    let s = g.S.MemberStore.meaning c.args.store.now in
    let w = stripe_at g.L.Layout.arrangement (members_of c.args.stripe.now.geometry.shape) c.args.stripe.now.number in
    let k = cached_in c.args.cached.now in
    let j = c.loop-position.position in
    let same = get_or-take c.positions.result c.args.cached.now j None (omega arith) in
    elim c.match-block.branch [
      | in-Some+in_ok-store_block v ↦
          simp v.store-is
          (more_store w k s j v.held_address.result.member v.held_address.result.block v.in-Some.block (g.S.MemberStore.meaning c.loop-position.store) (g.S.MemberStore.meaning v.store_block.new.store)
          (sym same ∙ v.in-Some.is) v.held_address.ensures.member v.held_address.ensures.block v.in_ok-store_block.ensures c.loop-position.invariant)
      | in_default v ↦
          let none : get_or (take c.positions.result c.args.cached.now) j None ≡ None = search rules in
          simp v.store-is (pass_store w k s j (g.S.MemberStore.meaning c.loop-position.store) (sym same ∙ none) c.loop-position.invariant)
    ]

pub returns-in_err-store_block : goal.returns-in_err-store_block
returns-in_err-store_block g c =
    let s = g.S.MemberStore.meaning c.args.store.now in
    let w = stripe_at g.L.Layout.arrangement (members_of c.args.stripe.now.geometry.shape) c.args.stripe.now.number in
    let k = cached_in c.args.cached.now in
    let same = get_or-take c.positions.result c.args.cached.now c.loop-position.position None (omega arith) in
    let l : c.loop-position.position < members_of c.args.stripe.now.geometry.shape - 1 = omega arith in
    let r : c.from_residual.result ≡ Err c.in_err-store_block.field-0.0 = search rules in
    rw r (stop_store w k s c.loop-position.position (members_of c.args.stripe.now.geometry.shape - 1) c.held_address.result.member c.held_address.result.block c.in-Some.block
    (g.S.MemberStore.meaning c.loop-position.store) (g.S.MemberStore.meaning c.store_block.new.store) c.in_err-store_block.field-0.0
    l (sym same ∙ c.in-Some.is) c.held_address.ensures.member c.held_address.ensures.block c.in_err-store_block.ensures c.loop-position.invariant)

pub returns : goal.returns
returns g c =
    let s = g.S.MemberStore.meaning c.args.store.now in
    let w = stripe_at g.L.Layout.arrangement (members_of c.args.stripe.now.geometry.shape) c.args.stripe.now.number in
    let k = cached_in c.args.cached.now in
    let e : c.loop-position.position ≡ members_of c.args.stripe.now.geometry.shape - 1 = omega arith in
    subst (λ (n : ℕ). Completed (for_each (λ j. cached_store (k j) (w.member j) w.block) n) s (g.S.MemberStore.meaning c.loop-position.store)) e c.loop-position.invariant
