use Rattle.std.proofs.Common.{◌≡◌, ◌≤◌, Err, rules, true, false, [], ◌∷◌, ◌++◌, length, get_or, vec_items, refl, ap, ◌∙◌, arith}
use Rattle.std.proofs.lemmas.List.{take_more}
use Rattle.array.specs.Sound.{means}
use Rattle.array_run.specs.TokenCounts.{counts_of}
use Rattle.array_run.specs.declared.call.Call.TheVariants.{PowerOn}
use Rattle.array_run.proofs.Trace.{unmade, at_first, still, keeps, one_more, made_unused}
use Rattle.array_run.proofs.Rooms.{not_grown, grown_more, room_left, unbuffered_at, before_most, before_at, is_read}
use Rattle.array_run.proofs.run.run.Goals as goal

pub loop-call-init : goal.loop-call-init
loop-call-init g c =
    let m = means g.S.MemberStore.meaning g.G.IntentLog.meaning in (
      λ f. f,
      λ f o r. at_first g.L.Layout.arrangement c.args.calls.now (vec_items c.args.answers.now) (counts_of c.args.tokens.now) (m c.args.array.now) o 0 refl r,
      not_grown c.args.tokens.now,
      omega arith,
      omega arith,
    )

pub returns-in_err-reserve-clause-promise : goal.returns-in_err-reserve-clause-promise
returns-in_err-reserve-clause-promise g c =
    let few : c.loop-call.call-index ≤ length c.args.calls.now = omega arith in
    let e : c.from_residual.result ≡ Err c.in_err-reserve.field-0.0 = search rules in
    let m = means g.S.MemberStore.meaning g.G.IntentLog.meaning in
    let n = c.loop-call.call-index in
    λ f o r. rw e (keeps g.L.Layout.arrangement c.args.calls.now (vec_items c.args.answers.now) (counts_of c.args.tokens.now) (m c.args.array.now) o
    (vec_items c.reserve.new.self) n (counts_of c.loop-call.tokens) (m c.loop-call.array) (false ≡ true) g.met.L.Layout.lawful few (λ x. unmade x)
    (still g.L.Layout.arrangement c.args.calls.now (vec_items c.args.answers.now) (counts_of c.args.tokens.now) (m c.args.array.now) o
    (vec_items c.loop-call.answers) (vec_items c.reserve.new.self) n (counts_of c.loop-call.tokens) (counts_of c.loop-call.tokens) (m c.loop-call.array) (m c.loop-call.array)
    c.reserve.ensures.items refl refl (c.loop-call.invariant.1 f o r)))

pub returns-in_err-answer-clause-enough : goal.returns-in_err-answer-clause-enough
returns-in_err-answer-clause-enough g c =
    let n = c.loop-call.call-index in
    let e : c.from_residual-in_err-answer.result ≡ Err c.in_err-answer.field-0.0 = search rules in
    λ p r a. rw e (c.in_err-answer.ensures.enough (unbuffered_at c.args.calls.now n PowerOn c.loop-call-test.true p)
    (room_left (length c.args.calls.now) n c.args.tokens.now c.loop-call.tokens c.loop-call-test.true r c.loop-call.invariant.2))

pub returns-in_err-answer-clause-reaches : goal.returns-in_err-answer-clause-reaches
returns-in_err-answer-clause-reaches g c =
    let n = c.loop-call.call-index in
    λ r a. let most = before_at c.args.calls.now n PowerOn c.loop-call-test.true
    (is_read (get_or c.args.calls.now n PowerOn) (λ p. c.in_err-answer.ensures.enough p
    (room_left (length c.args.calls.now) n c.args.tokens.now c.loop-call.tokens c.loop-call-test.true r c.loop-call.invariant.2))) in
    omega (arith, most, c.loop-call.invariant.4, c.reserve.ensures.len)

pub returns-in_err-answer-clause-promise : goal.returns-in_err-answer-clause-promise
returns-in_err-answer-clause-promise g c =
    let few : c.loop-call.call-index ≤ length c.args.calls.now = omega arith in
    let e : c.from_residual-in_err-answer.result ≡ Err c.in_err-answer.field-0.0 = search rules in
    let m = means g.S.MemberStore.meaning g.G.IntentLog.meaning in
    let n = c.loop-call.call-index in
    λ f o r. let made = c.in_err-answer.ensures.made (c.loop-call.invariant.0 f).0 in
    rw e (keeps g.L.Layout.arrangement c.args.calls.now (vec_items c.args.answers.now) (counts_of c.args.tokens.now) (m c.args.array.now) o
    (vec_items c.reserve.new.self) n (counts_of c.make.new.tokens) (m c.make.new.array) (false ≡ true) g.met.L.Layout.lawful few (λ x. unmade x)
    (still g.L.Layout.arrangement c.args.calls.now (vec_items c.args.answers.now) (counts_of c.args.tokens.now) (m c.args.array.now) o
    (vec_items c.loop-call.answers) (vec_items c.reserve.new.self) n (counts_of c.loop-call.tokens) (counts_of c.make.new.tokens) (m c.loop-call.array) (m c.make.new.array)
    c.reserve.ensures.items made.0 made.1 (c.loop-call.invariant.1 f o r)))

pub loop-call-preserved : goal.loop-call-preserved
loop-call-preserved g c =
    let m = means g.S.MemberStore.meaning g.G.IntentLog.meaning in
    let n = c.loop-call.call-index in
    let call = get_or c.args.calls.now n PowerOn in (
      λ f. (
        c.make.ensures.sound (c.loop-call.invariant.0 f).0,
        made_unused g.L.Layout.arrangement call (counts_of c.loop-call.tokens) (m c.loop-call.array) c.in_ok-answer.answer (counts_of c.make.new.tokens) (m c.make.new.array)
            (c.in_ok-answer.ensures.made (c.loop-call.invariant.0 f).0) (c.loop-call.invariant.0 f).1,
      ),
      λ f o r. one_more g.L.Layout.arrangement c.args.calls.now (vec_items c.args.answers.now) (counts_of c.args.tokens.now) (m c.args.array.now) o
          g.met.L.Layout.lawful (vec_items c.loop-call.answers) (vec_items c.push_reserved.new.self) n (counts_of c.loop-call.tokens) (counts_of c.make.new.tokens)
          (m c.loop-call.array) (m c.make.new.array) call c.in_ok-answer.answer (c.loop-call.invariant.0 f).1
          (take_more c.args.calls.now n PowerOn c.loop-call-test.true)
          (c.push_reserved.ensures.items ∙ ap (λ l. l ++ c.in_ok-answer.answer ∷ []) c.reserve.ensures.items)
          (c.in_ok-answer.ensures.made (c.loop-call.invariant.0 f).0) (c.loop-call.invariant.1 f o r),
      grown_more n c.args.tokens.now c.loop-call.tokens c.make.new.tokens c.loop-call.invariant.2 c.make.ensures.grown,
      omega (arith, c.loop-call.invariant.3, c.reserve.ensures.capacity, c.push_reserved.ensures.capacity),
      omega (arith, c.loop-call.invariant.4, c.reserve.ensures.len, c.push_reserved.ensures.len),
    )

pub returns : goal.returns
returns g c =
    let few : c.loop-call.call-index ≤ length c.args.calls.now = omega arith in
    let all : c.loop-call.call-index ≡ length c.args.calls.now = omega arith in
    let m = means g.S.MemberStore.meaning g.G.IntentLog.meaning in
    let n = c.loop-call.call-index in
    record {
      enough = λ p r a. refl;
      reaches = λ r a. omega (arith, before_most c.args.calls.now, c.loop-call.invariant.4, all);
      well_formed = c.loop-call.invariant.0;
      promise = λ f o r. keeps g.L.Layout.arrangement c.args.calls.now (vec_items c.args.answers.now) (counts_of c.args.tokens.now) (m c.args.array.now) o
          (vec_items c.loop-call.answers) n (counts_of c.loop-call.tokens) (m c.loop-call.array) (true ≡ true) g.met.L.Layout.lawful few (λ e. all) (c.loop-call.invariant.1 f o r);
    }
