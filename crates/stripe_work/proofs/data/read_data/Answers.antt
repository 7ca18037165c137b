use Rattle.std.proofs.Common.{Err, ◌≡◌, ℕ, ◌-◌, ◌<◌, length, None, take, sym, refl, ap, ◌∙◌, subst, arith, rules}
use Rattle.std.proofs.lemmas.List.{get_or-take}
use Rattle.geometry.specs.Counts.{members_of}
use Rattle.member_store.specs.Meaning.{current}
use Rattle.device_calls.specs.Lists.{Completed, for_each}
use Rattle.stripe_work.specs.Stripe.{stripe_at, listed, data_at}
use Rattle.stripe_work.specs.Work.{cached_in, uncached_read, merged}
use Rattle.stripe_work.proofs.Rows.{row_more}
use Rattle.stripe_work.proofs.Turns.{pass_read, more_read, stop_read, merged_cached, merged_read}
use Rattle.stripe_work.proofs.data.read_data.Goals as goal
use Rattle.stripe_work.proofs.data.read_data.Goals.{in-Some, in-None+in_ok-read_block-in-None}

pub loop-position-init : goal.loop-position-init
loop-position-init g c = (refl, refl, c.told-rows, refl)

pub loop-position-preserved : goal.loop-position-preserved
loop-position-preserved g c =
    let s = g.S.MemberStore.meaning c.args.store.now in
    let w = stripe_at g.L.Layout.arrangement (members_of c.args.stripe.now.geometry.shape) c.args.stripe.now.number in
    let k = cached_in c.args.cached.now in
    let j = c.loop-position.position in
    let i = c.loop-position.invariant in
    let same = get_or-take c.positions.result c.args.cached.now j None (omega arith) in
    let long : j < length c.loop-position.rows = omega arith in
    elim c.match-block.branch [
      | in-Some v ↦
          simp (v.store-is, v.rows-is) (
            i.0,
            pass_read w k s j v.in-Some.block (sym same ∙ v.in-Some.is) i.1,
            search rules,
            row_more (merged w k s) c.loop-position.rows j v.in-Some.block long i.3 (merged_cached w k s j v.in-Some.block (sym same ∙ v.in-Some.is)),
          )
      | in-None+in_ok-read_block-in-None v ↦
          let r = v.in_ok-read_block-in-None.ensures in
          let a = v.held_address.ensures in
          let got : v.read_block.new.into ≡ data_at w s j = r.bytes.0 ∙ ap (λ u. current u v.held_address.result.member v.held_address.result.block) i.0 ∙ ap (λ (m : ℕ). current s m v.held_address.result.block) a.member ∙ ap (λ (b : ℕ). current s (w.member j) b) a.block in
          simp (v.store-is, v.rows-is) (
            r.bytes.1 ∙ i.0,
            more_read w k s j v.held_address.result.member v.held_address.result.block (g.S.MemberStore.meaning c.loop-position.store) (g.S.MemberStore.meaning v.read_block.new.store) (sym same ∙ v.in-None.is) a.member a.block i.0 r.bytes.1 r.calls i.1,
            search rules,
            row_more (merged w k s) c.loop-position.rows j v.read_block.new.into long i.3 (got ∙ merged_read w k s j (sym same ∙ v.in-None.is)),
          )
    ]

pub returns-in_err-read_block-in-None-clause-calls : goal.returns-in_err-read_block-in-None-clause-calls
returns-in_err-read_block-in-None-clause-calls g c =
    let s = g.S.MemberStore.meaning c.args.store.now in
    let w = stripe_at g.L.Layout.arrangement (members_of c.args.stripe.now.geometry.shape) c.args.stripe.now.number in
    let k = cached_in c.args.cached.now in
    let same = get_or-take c.positions.result c.args.cached.now c.loop-position.position None (omega arith) in
    let l : c.loop-position.position < members_of c.args.stripe.now.geometry.shape - 1 = omega arith in
    let d = stop_read w k s c.loop-position.position (members_of c.args.stripe.now.geometry.shape - 1) c.held_address.result.member c.held_address.result.block
    (g.S.MemberStore.meaning c.loop-position.store) (g.S.MemberStore.meaning c.read_block.new.store) c.in_err-read_block-in-None.field-0.0
    l (sym same ∙ c.in-None.is) c.held_address.ensures.member c.held_address.ensures.block c.loop-position.invariant.0 c.in_err-read_block-in-None.ensures.calls c.loop-position.invariant.1 in
    let r : c.from_residual.result ≡ Err c.in_err-read_block-in-None.field-0.0 = search rules in
    rw r d

pub returns : goal.returns
returns g c =
    let s = g.S.MemberStore.meaning c.args.store.now in
    let w = stripe_at g.L.Layout.arrangement (members_of c.args.stripe.now.geometry.shape) c.args.stripe.now.number in
    let k = cached_in c.args.cached.now in
    let i = c.loop-position.invariant in
    let e : c.loop-position.position ≡ members_of c.args.stripe.now.geometry.shape - 1 = omega arith in
    let d = subst (λ (n : ℕ). Completed (for_each (λ j. uncached_read (k j) (w.member j) w.block) n) s s) e i.1 in
    record {
      calls = subst (λ u. Completed (for_each (λ j. uncached_read (k j) (w.member j) w.block) (members_of c.args.stripe.now.geometry.shape - 1)) s u) (sym i.0) d;
      rows = subst (λ (n : ℕ). take n c.loop-position.rows ≡ listed (merged w k s) n) e i.3;
    }
