use Rattle.std.proofs.Common.{◌≡◌, ℕ, List, length, drop, refl, ◌∙◌, subst, inr, arith, rules}
use Rattle.array.specs.Sound.{means}
use Rattle.array_model.specs.Meaning.{geometry}
use Rattle.array_model.specs.Calls.{ReadsShort}
use Rattle.array_run.specs.Calls.{ReadTold}
use Rattle.array_run.proofs.Buffers.{filled}
use Rattle.array_run.proofs.short.read_short.Goals as goal

pub returns-in-Some-clause-made : goal.returns-in-Some-clause-made
returns-in-Some-clause-made g c =
    let s = means g.S.MemberStore.meaning g.G.IntentLog.meaning c.args.array.now in
    let o = c.read_short-outcome in
    let t = means g.S.MemberStore.meaning g.G.IntentLog.meaning o.new.self in
    let new = o.new.into in
    let buffer = c.in_ok-buffer.buffer in
    let long : length new ≡ buffer.len = omega (arith, o.auto.into, c.as_mut_slice.ensures.len) in
    λ h. inr (
      search rules,
      (
        (o.result, new),
        subst (λ (x : List ℕ). ReadTold o.result x c.read_told.result) (filled buffer.len new (drop (length new) buffer.items) long) c.read_told.ensures,
        subst (λ (old : List ℕ). ReadsShort (geometry g.L.Layout.arrangement s) c.args.block old new s o.result t) (c.as_mut_slice.ensures.value ∙ c.in_ok-buffer.ensures) (o.ensures.does h),
        refl,
      ),
    )
