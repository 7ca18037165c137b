use Rattle.std.proofs.Common.{◌≡◌, ℕ, ◌-◌, ◌<◌, ◌≤◌, take, sym, refl, ap, ◌∙◌, subst, arith, rules}
use Rattle.std.proofs.lemmas.Result.{err_from_is_err_and}
use Rattle.geometry.specs.Counts.{counted, members_of, blocks_of}
use Rattle.parity.specs.Xor.{parity_of, without}
use Rattle.device_calls.specs.Lists.{Completed, Stopped}
use Rattle.stripe_work.specs.Stripe.{row_blocks}
use Rattle.stripe_work.specs.Work.{other_reads, reconstructed}
use Rattle.stripe_work.specs.Outcomes.{Recovers}
use Rattle.stripe_work.specs.Stripe.{stripe_at}
use Rattle.stripe_work.proofs.Addresses.{no_member, no_block, passes}
use Rattle.stripe_work.proofs.Recovering.{others_avoid, others_keep, others_cut, recovers}
use Rattle.stripe_work.proofs.reconstruct.reconstruct_block.Goals as goal

pub returns-then-absent-get : goal.returns-then-absent-get
returns-then-absent-get g c =
    let m = members_of c.args.geometry.now.shape in
    let l : m ≤ c.args.absent.member = omega arith in
    record {
      calls = (no_member g.L.Layout.arrangement m (blocks_of c.args.geometry.now.shape) c.args.absent l, refl);
      avoids = others_avoid m c.args.absent.block c.args.absent.member;
      bytes = refl;
      recovers = tt;
      leaves = refl;
    }

pub returns-then-is_none : goal.returns-then-is_none
returns-then-is_none g c =
    let m = members_of c.args.geometry.now.shape in
    let l : c.args.absent.member < m = omega arith in
    record {
      calls = (no_block g.L.Layout.arrangement m (blocks_of c.args.geometry.now.shape) c.args.absent c.content.result l c.content.ensures.value c.if-is_none.ensures, refl);
      avoids = others_avoid m c.args.absent.block c.args.absent.member;
      bytes = refl;
      recovers = tt;
      leaves = refl;
    }

pub returns-in_err-read_others : goal.returns-in_err-read_others
returns-in_err-read_others g c =
    let s = g.S.MemberStore.meaning c.args.store.now in
    let t = g.S.MemberStore.meaning c.read_others.new.store in
    let m = members_of c.args.geometry.now.shape in
    let b = c.args.absent.block in
    let d = c.args.absent.member in
    let f = c.in_err-read_others.field-0.0 in
    let l : d < m = omega arith in
    let e : counted c.members-members.result ≡ m = omega arith in
    let k = subst (λ (n : ℕ). Stopped (other_reads n b d) s f t) e c.in_err-read_others.ensures.calls in
    let p = err_from_is_err_and c.from_residual.result c.from_residual.ensures.1 in
    rw (p.1, p.2) (record {
      calls = (passes g.L.Layout.arrangement m (blocks_of c.args.geometry.now.shape) c.args.absent c.content.result l c.content.ensures.value c.if-is_none.ensures, k);
      avoids = others_avoid m b d;
      bytes = refl;
      recovers = tt;
      leaves = others_cut m b d s f t k;
    })

pub returns : goal.returns
returns g c =
    let s = g.S.MemberStore.meaning c.args.store.now in
    let t = g.S.MemberStore.meaning c.read_others.new.store in
    let m = members_of c.args.geometry.now.shape in
    let b = c.args.absent.block in
    let d = c.args.absent.member in
    let l : d < m = omega arith in
    let e : counted c.members-members.result ≡ m = omega arith in
    let k = subst (λ (n : ℕ). Completed (other_reads n b d) s t) e c.in_ok-read_others.ensures.calls in
    let sum : c.missing_block.new.into ≡ parity_of (take (counted c.members-members.result - 1) c.read_others.new.rows) = search rules in
    let bytes : c.missing_block.new.into ≡ reconstructed m b d s = sum ∙ ap parity_of c.in_ok-read_others.ensures.rows ∙ ap (λ (n : ℕ). parity_of (without d (row_blocks n b s))) e in
    let w = stripe_at g.L.Layout.arrangement m b in
    let lawful = g.met.L.Layout.lawful m b c.args.geometry.now.shape.members.least c.args.geometry.now.shape.members.most in
    record {
      calls = (passes g.L.Layout.arrangement m (blocks_of c.args.geometry.now.shape) c.args.absent c.content.result l c.content.ensures.value c.if-is_none.ensures, k);
      avoids = others_avoid m b d;
      bytes = bytes;
      recovers = subst (λ x. Recovers w m d s x) (sym bytes) (recovers g.L.Layout.arrangement m b d s lawful l);
      leaves = others_keep m b d s t k;
    }
