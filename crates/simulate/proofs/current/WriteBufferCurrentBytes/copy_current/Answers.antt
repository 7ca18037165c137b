use Rattle.std.proofs.Common.{◌≡◌, vec_items, ap, subst}
use Rattle.member_store.specs.Meaning.{Meaning, HasBlock, current}
use Rattle.simulate.proofs.Looks.{under}
use Rattle.simulate.proofs.current.WriteBufferCurrentBytes.copy_current.Goals as goal

pub returns-in-None : goal.returns-in-None
returns-in-None g c =
    let w = c.args.self.now in
    let m = c.args.at.member in
    let b = c.args.at.block in
    let x = c.copy_current.new.into in
    let P : Meaning → Type 0 = λ s. HasBlock s m b → x ≡ current s m b in
    under (vec_items w.held) (g.S.MemberStore.meaning w.below) m b x c.in-None.ensures (subst P (ap g.S.MemberStore.meaning c.below.ensures) c.copy_current.ensures)
