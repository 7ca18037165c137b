use Rattle.std.proofs.Common.{◌≡◌, ℕ, ◌<◌, cond, ap, ◌∙◌, subst}
use Rattle.geometry.specs.Counts.{members_of, blocks_of, counts_allowed}
use Rattle.stripe_work.specs.Work.{wrong_below}
use Rattle.simulate.proofs.Looks.{in_store}
use Rattle.simulate.proofs.show.wrong_stripes.Goals as goal

pub returns-in-Ok : goal.returns-in-Ok
returns-in-Ok g c =
    let a = g.L.Layout.arrangement in
    let s = g.S.MemberStore.meaning c.args.store.now in
    let shape = c.in-Ok.shape in
    let m = members_of shape in
    let made = c.in-Ok.ensures in
    let members : m ≡ s.members = made.value.0 ∙ c.members.ensures in
    let blocks : blocks_of shape ≡ s.blocks = made.value.1 ∙ c.blocks-2.ensures in
    let allowed = made.allowed ∙ ap (λ (i : ℕ). counts_allowed i c.blocks-2.result) c.members.ensures ∙ ap (counts_allowed s.members) c.blocks-2.ensures in
    let wrong = c.count_wrong.ensures (λ k l. let P : ℕ → Type 0 = λ i. k < i in in_store a m k s (g.met.L.Layout.lawful m k shape.members.least shape.members.most) members (subst P blocks l)) in
    wrong ∙ ap (λ (i : ℕ). wrong_below a i s (blocks_of shape)) members ∙ ap (wrong_below a s.members s) blocks ∙ ap (λ q. cond q (wrong_below a s.members s s.blocks) 0) allowed
