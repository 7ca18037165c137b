use Rattle.std.proofs.Common.{◌∙◌, arith, rules}
use Rattle.std.proofs.lemmas.List.{drop_all}
use Rattle.record.proofs.Writing.{begun, written_more, next, whole, opened}
use Rattle.record.proofs.write.Goals as goal

pub loop-s-init : goal.loop-s-init
loop-s-init c = (omega arith, omega arith, c.requires.2, begun c.args.version c.args.stripes.now _ c.put-at.new.buf c.put-at-2.new.buf c.put-at.result c.put-at-2.result (opened c.fill.new.self c.copy_from_slice.new.self (search rules) c.copy_from_slice.ensures.after) c.put-at.ensures.bytes c.put-at.ensures.end c.put-at-2.ensures.bytes c.put-at-2.ensures.end)

pub overflow_sub-s : goal.overflow_sub-s
overflow_sub-s c = (next c.args.stripes.now c.loop-s.before c.loop-s.s-index c.loop-s-test.true c.loop-s.invariant.2).0

pub loop-s-preserved : goal.loop-s-preserved
loop-s-preserved c = (
  omega arith,
  omega (arith, c.put-at-in-loop-s.ensures.room),
  (next c.args.stripes.now c.loop-s.before c.loop-s.s-index c.loop-s-test.true c.loop-s.invariant.2).1,
  written_more c.loop-s.buf c.put-at-in-loop-s.new.buf c.args.stripes.now c.loop-s.at c.put-at-in-loop-s.result c.loop-s.before c.loop-s.s-index c.loop-s-test.true c.put-at-in-loop-s.ensures.bytes c.put-at-in-loop-s.ensures.end
      ∙ c.loop-s.invariant.3,
)

pub returns : goal.returns
returns c =
    let e = drop_all c.loop-s.s-index c.args.stripes.now c.loop-s-test.false in
    (rw e at c.loop-s.invariant.3) ∙ whole c.args.version c.args.stripes.now c.requires.1
