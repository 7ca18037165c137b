use Rattle.std.proofs.Common.{refl, inr, lit<, rules}
use Rattle.array.specs.Sound.{means}
use Rattle.array_run.specs.TokenCounts.{counts_of}
use Rattle.array_run.specs.declared.answer.Answer.TheVariants.{Plain}
use Rattle.array_run.specs.declared.call.Call.TheVariants as call
use Rattle.array_run.proofs.Calls.{made_as}
use Rattle.array_run.proofs.Rooms.{none_grown}
use Rattle.array_run.proofs.run.make.Goals as goal

pub returns-in-PowerOn : goal.returns-in-PowerOn
returns-in-PowerOn g c =
    let m = means g.S.MemberStore.meaning g.G.IntentLog.meaning in
    record {
      sound = search rules;
      made = λ h. made_as g.L.Layout.arrangement c.args.call call.PowerOn (counts_of c.args.tokens.now) (m c.args.array.now) (Plain c.power_on.result) (counts_of c.args.tokens.now) (m c.power_on.new.self) c.in-PowerOn.is (inr (lit< tt, (c.power_on.result, refl, c.power_on.ensures.does, refl)));
      grown = none_grown c.args.tokens.now;
      enough = λ _ _. refl;
    }

pub returns-in-Format : goal.returns-in-Format
returns-in-Format g c =
    let m = means g.S.MemberStore.meaning g.G.IntentLog.meaning in
    record {
      sound = search rules;
      made = λ h. made_as g.L.Layout.arrangement c.args.call call.Format (counts_of c.args.tokens.now) (m c.args.array.now) (Plain c.format.result) (counts_of c.args.tokens.now) (m c.format.new.self) c.in-Format.is (inr (lit< tt, (c.format.result, refl, c.format.ensures.does h, refl)));
      grown = none_grown c.args.tokens.now;
      enough = λ _ _. refl;
    }

pub returns-in-Step : goal.returns-in-Step
returns-in-Step g c =
    let m = means g.S.MemberStore.meaning g.G.IntentLog.meaning in
    record {
      sound = search rules;
      made = λ h. made_as g.L.Layout.arrangement c.args.call call.Step (counts_of c.args.tokens.now) (m c.args.array.now) c.step.result (counts_of c.args.tokens.now) (m c.step.new.array) c.in-Step.is (c.step.ensures.made h);
      grown = none_grown c.args.tokens.now;
      enough = λ _ _. refl;
    }

pub returns-in-Write : goal.returns-in-Write
returns-in-Write g c =
    let m = means g.S.MemberStore.meaning g.G.IntentLog.meaning in
    record {
      sound = search rules;
      made = λ h. made_as g.L.Layout.arrangement c.args.call (call.Write c.in-Write.block c.in-Write.bytes) (counts_of c.args.tokens.now) (m c.args.array.now) c.write.result (counts_of c.args.tokens.now) (m c.write.new.array) c.in-Write.is (c.write.ensures.made h);
      grown = none_grown c.args.tokens.now;
      enough = λ _ _. refl;
    }

pub returns-in-Destage : goal.returns-in-Destage
returns-in-Destage g c =
    let m = means g.S.MemberStore.meaning g.G.IntentLog.meaning in
    record {
      sound = search rules;
      made = λ h. made_as g.L.Layout.arrangement c.args.call call.Destage (counts_of c.args.tokens.now) (m c.args.array.now) c.destage.result (counts_of c.args.tokens.now) (m c.destage.new.array) c.in-Destage.is (c.destage.ensures.made h);
      grown = none_grown c.args.tokens.now;
      enough = λ _ _. refl;
    }

pub returns-in-Flush : goal.returns-in-Flush
returns-in-Flush g c =
    let m = means g.S.MemberStore.meaning g.G.IntentLog.meaning in
    record {
      sound = search rules;
      made = λ h. made_as g.L.Layout.arrangement c.args.call call.Flush (counts_of c.args.tokens.now) (m c.args.array.now) c.flush.result (counts_of c.args.tokens.now) (m c.flush.new.array) c.in-Flush.is (c.flush.ensures.made h);
      grown = none_grown c.args.tokens.now;
      enough = λ _ _. refl;
    }

pub returns-in-Close : goal.returns-in-Close
returns-in-Close g c =
    let m = means g.S.MemberStore.meaning g.G.IntentLog.meaning in
    record {
      sound = search rules;
      made = λ h. made_as g.L.Layout.arrangement c.args.call call.Close (counts_of c.args.tokens.now) (m c.args.array.now) c.close.result (counts_of c.close.new.tokens) (m c.close.new.array) c.in-Close.is (c.close.ensures.made h);
      grown = c.close.ensures.grown;
      enough = λ _ _. refl;
    }
