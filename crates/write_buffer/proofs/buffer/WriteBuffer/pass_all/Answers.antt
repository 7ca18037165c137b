use Rattle.std.proofs.Common.{◌≡◌, [], Ok, vec_items, sym, ◌∙◌, arith}
use Rattle.std.proofs.lemmas.Bool.{eqb-true}
use Rattle.std.proofs.lemmas.List.{nil_from_length}
use Rattle.std.proofs.lemmas.Result.{err_from_is_err_and}
use Rattle.write_buffer.proofs.Orders.{oldest_then_all, oldest_stops, passes_none}
use Rattle.write_buffer.proofs.Passed.{fewer_then, cut_then}
use Rattle.write_buffer.proofs.buffer.WriteBuffer.pass_all.Goals as goal

pub returns-in_err-pass_oldest : goal.returns-in_err-pass_oldest
returns-in_err-pass_oldest g c =
    let told = c.in_err-pass_oldest.ensures in
    let p = err_from_is_err_and c.from_residual.result c.from_residual.ensures.1 in
    rw (p.1, p.2) record {
      passes = c.loop-self.invariant.2 _ _ _ (oldest_stops g.S.MemberStore.meaning g.S.MemberStore.storing _ _ _ _ _ told.passes);
      means = (told.means.0, cut_then _ _ _ c.loop-self.invariant.1 told.means.1);
      none = tt;
    }

pub loop-self-preserved : goal.loop-self-preserved
loop-self-preserved g c =
    let told = c.in_ok-pass_oldest.ensures in (
      told.means.on ∙ c.loop-self.invariant.0,
      fewer_then _ _ _ c.loop-self.invariant.1 told.means,
      λ o left t p. c.loop-self.invariant.2 o left t (oldest_then_all g.S.MemberStore.meaning g.S.MemberStore.storing _ _ left _ _ t o told.passes p),
    )

pub returns : goal.returns
returns g c =
    let v = c.loop-self.self in
    let empty = eqb-true _ 0 (sym c.loop-self-test.ensures) in
    let nil : vec_items v.held ≡ [] = nil_from_length _ (omega (arith, empty, v.held.ok.0)) in
    record {
      passes = c.loop-self.invariant.2 (Ok tt) (vec_items v.held) v.below (passes_none g.S.MemberStore.meaning g.S.MemberStore.storing (vec_items v.held) v.below nil);
      means = c.loop-self.invariant.1;
      none = nil;
    }
