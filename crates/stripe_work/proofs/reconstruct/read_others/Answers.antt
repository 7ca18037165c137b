use Rattle.std.proofs.Common.{◌≡◌, ℕ, ◌-◌, ◌<◌, ◌≤◌, List, [], ◌∷◌, length, take, Err, sym, refl, ap, ◌∙◌, subst, arith, rules}
use Rattle.std.proofs.lemmas.List.{take-append-le}
use Rattle.geometry.specs.Counts.{counted}
use Rattle.geometry.specs.Layouts.{restarted}
use Rattle.parity.specs.Xor.{without}
use Rattle.member_store.specs.Meaning.{current}
use Rattle.device_calls.specs.Lists.{read, Completed, Stopped}
use Rattle.stripe_work.specs.Stripe.{row_blocks}
use Rattle.stripe_work.specs.Work.{other_reads}
use Rattle.stripe_work.proofs.Without.{rest_absent, next_other, next_last, next_below, next_row, first_row, more_row}
use Rattle.stripe_work.proofs.Recovering.{pass_absent, more_other, stop_other}
use Rattle.stripe_work.proofs.reconstruct.read_others.Goals as goal

pub loop-row-init : goal.loop-row-init
loop-row-init g c =
    let s = g.S.MemberStore.meaning c.args.store.now in
    let b = c.args.absent.block in
    let d = c.args.absent.member in (
      refl,
      first_row d (λ n. Completed (other_reads n b d) s s) (pass_absent b d s d refl) refl,
      refl,
      first_row d (λ n. [] ≡ without d (row_blocks n b s)) (λ q. q ∙ sym (rest_absent (λ t. current s t b) d d refl)) refl,
    )

pub loop-row-preserved : goal.loop-row-preserved
loop-row-preserved g c =
    let s = g.S.MemberStore.meaning c.args.store.now in
    let u = g.S.MemberStore.meaning c.loop-row.store in
    let v = g.S.MemberStore.meaning c.read_block.new.store in
    let b = c.args.absent.block in
    let d = c.args.absent.member in
    let r = c.loop-row.row in
    let i = c.loop-row.invariant in
    let k = c.in_ok-read_block.ensures in
    let e = c.other_member-member.ensures in
    let cell : ℕ → List ℕ = (λ t. current s t b) in
    let long : r < length c.loop-row.others = omega arith in
    let calls = subst (λ (t : ℕ). Completed (read t b ∷ []) u v) e k.calls in
    let got : c.read_block.new.into ≡ cell (restarted d r) = k.bytes.0 ∙ ap (λ m. current m c.other_member-member.result b) i.0 ∙ ap cell e in (
      k.bytes.1 ∙ i.0,
      next_row d (λ n. Completed (other_reads n b d) s s) (pass_absent b d s d refl) r (more_other b d s (restarted d r) u v (next_other d r) i.0 k.bytes.1 calls i.1),
      search rules,
      more_row cell d c.loop-row.others r c.read_block.new.into long i.3 got,
    )

pub returns-in_err-read_block-clause-calls : goal.returns-in_err-read_block-clause-calls
returns-in_err-read_block-clause-calls g c =
    let s = g.S.MemberStore.meaning c.args.store.now in
    let u = g.S.MemberStore.meaning c.loop-row.store in
    let v = g.S.MemberStore.meaning c.read_block.new.store in
    let b = c.args.absent.block in
    let d = c.args.absent.member in
    let m = counted c.args.members in
    let r = c.loop-row.row in
    let i = c.loop-row.invariant in
    let f = c.in_err-read_block.field-0.0 in
    let l = next_below d m r c.requires (omega arith) in
    let calls = subst (λ (t : ℕ). Stopped (read t b ∷ []) u f v) c.other_member-member.ensures c.in_err-read_block.ensures.calls in
    let e : c.from_residual.result ≡ Err f = search rules in
    rw e (stop_other b d s (restarted d r) m u v f l (next_other d r) i.0 calls i.1)

pub returns : goal.returns
returns g c =
    let s = g.S.MemberStore.meaning c.args.store.now in
    let b = c.args.absent.block in
    let d = c.args.absent.member in
    let m = counted c.args.members in
    let i = c.loop-row.invariant in
    let e : c.loop-row.row ≡ m - 1 = omega arith in
    let long : m - 1 ≤ length c.loop-row.others = omega arith in
    let all = ap (restarted d) e ∙ next_last d m c.requires in
    record {
      calls = subst (λ u. Completed (other_reads m b d) s u) (sym i.0) (subst (λ (n : ℕ). Completed (other_reads n b d) s s) all i.1);
      rows = take-append-le (m - 1) c.loop-row.others _ long ∙ ap (λ (n : ℕ). take n c.loop-row.others) (sym e) ∙ i.3 ∙ ap (λ (n : ℕ). without d (row_blocks n b s)) all;
    }
