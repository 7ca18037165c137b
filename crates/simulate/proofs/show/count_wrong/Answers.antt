use Rattle.std.proofs.Common.{◌≡◌, ◌<◌, true, false, sym, ◌∙◌, add-zero, arith, rules}
use Rattle.geometry.specs.Counts.{members_of, blocks_of}
use Rattle.stripe_work.proofs.Scanning.{count_more}
use Rattle.simulate.proofs.show.count_wrong.Goals as goal
use Rattle.simulate.proofs.show.count_wrong.Goals.{then-not-is_right, else-not-is_right}

pub loop-number-preserved : goal.loop-number-preserved
loop-number-preserved g c =
    let a = g.L.Layout.arrangement in
    let shape = c.args.geometry.now.shape in
    let m = members_of shape in
    let s = g.S.MemberStore.meaning c.args.store.now in
    let k = c.loop-number.number in
    let n = c.loop-number.wrong in
    let i = c.loop-number.invariant in
    let l : k < blocks_of shape = omega arith in
    elim c.if-not-is_right.branch [
      | then-not-is_right v ↦
          let wrong : false ≡ c.is_right.result = search rules in
          simp v.wrong-is (omega arith, λ all. count_more a m s k false n (wrong ∙ c.is_right.ensures (all k l)) (i.1 all))
      | else-not-is_right v ↦
          let right : true ≡ c.is_right.result = search rules in
          simp v.wrong-is (omega arith, λ all. sym (add-zero n) ∙ count_more a m s k true n (right ∙ c.is_right.ensures (all k l)) (i.1 all))
    ]
