use Rattle.std.proofs.Common.{refl, inl}
use Rattle.std.proofs.lemmas.Result.{err_from_is_err_and}
use Rattle.array_model.specs.Meaning.{stripe, home, holder}
use Rattle.array_work.specs.Outcomes.{sized}
use Rattle.array_work.proofs.Fetching.{unread}
use Rattle.array_work.proofs.read.read_held.Goals as goal

pub returns-in_err-read : goal.returns-in_err-read
returns-in_err-read g c =
    let a = sized g.L.Layout.arrangement c.args.geometry.now.shape in
    let at = c.held_address-at.result in
    let h = c.in_err-read.ensures.means in
    let p = err_from_is_err_and c.from_residual.result c.from_residual.ensures.1 in
    rw (p.1, p.2) (
      λ l. inl (
        _,
        refl,
        unread at.member at.block (holder a c.args.block) (stripe a (home a c.args.block)).block c.args.into.now c.read.new.into (g.S.MemberStore.meaning c.args.store.now) _ (g.S.MemberStore.meaning c.read.new.self)
            c.held_address-at.ensures.member c.held_address-at.ensures.block c.requires.1 h,
        refl,
      ),
      h.0,
    )
