-- What checks answer. Assumes nothing.
use Rattle.std.proofs.Common.{◌≡◌, ℕ, Bool, true, cond, Some, None, Ok, Err, Option, Result, ap, ◌∙◌, subst, arith}
use Rattle.std.specs.Option as options
use Rattle.intent_log.specs.Meaning as intent
use Rattle.intent_log.specs.Calls.{Answers}
use Rattle.intent_log.specs.declared.refusal.LogRefusal.{LogRefusal}
use Rattle.intent_log.specs.declared.refusal.LogRefusal.TheVariants.{Off}
use Rattle.array_model.specs.Calls.{Plain}
use Rattle.array_model.specs.declared.refusal.ArrayRefusal.{ArrayRefusal}
use Rattle.array.specs.Sound.{verdict}

-- the checks named no refusal; they named e
pub passed : (P : Type 0) (Q : ArrayRefusal → Type 0) (o : Option ArrayRefusal) → ◌≡◌ {A = Plain} (Ok tt) (verdict o) → P → options.MatchOption o P Q
passed P Q None e p = p
passed P Q (Some x) e p = let z : ◌≡◌ {A = ℕ} 0 1 = cc in absurd (omega arith)

pub refused : (P : Type 0) (Q : ArrayRefusal → Type 0) (o : Option ArrayRefusal) (e : ArrayRefusal) → ◌≡◌ {A = Plain} (Err e) (verdict o) → Q e → options.MatchOption o P Q
refused P Q None e h p = let z : ◌≡◌ {A = ℕ} 0 1 = cc in absurd (omega arith)
refused P Q (Some x) e h p = let z : e ≡ x = cc in subst Q z p

-- a question, while power is on: what was told is so, and it is answered
pub told : (l : intent.Meaning) (a b : Bool) → l.on ≡ true → Answers l a (Ok b) → b ≡ a
told l a b on h = same (h ∙ ap (λ o. cond o (Ok a) (Err Off)) on)
  where
    same : ◌≡◌ {A = Result Bool LogRefusal} (Ok b) (Ok a) → b ≡ a
    same k = cc

pub answered : (l : intent.Meaning) (a : Bool) (e : LogRefusal) → l.on ≡ true → Answers l a (Err e) → ⊥
answered l a e on h = clash (h ∙ ap (λ o. cond o (Ok a) (Err Off)) on)
  where
    clash : ◌≡◌ {A = Result Bool LogRefusal} (Err e) (Ok a) → ⊥
    clash k = let z : ◌≡◌ {A = ℕ} 0 1 = cc in absurd (omega arith)
