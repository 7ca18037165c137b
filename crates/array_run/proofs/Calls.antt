-- A call by the value of its enum, and give-ups one after the other. Assumes nothing.
use Rattle.std.proofs.Common.{◌≡◌, ℕ, zero, suc, ◌+◌, ◌<◌, sym, refl, ap, ◌∙◌, subst, arith}
use Rattle.array_model.specs.Meaning.{Meaning, Arrange, array}
use Rattle.array_model.specs.Calls.{given_up, GivesUp}
use Rattle.array_model.specs.declared.state.State.{State}
use Rattle.array_model.specs.declared.state.State.TheVariants.{Fallen, Down, Resync, Ready, Short}
use Rattle.cache.specs.Contents.{empty}
use Rattle.array_run.specs.TokenCounts.{TokenCounts}
use Rattle.array_run.specs.Calls.{Made, AfterGiveUps}
use Rattle.array_run.specs.declared.answer.Answer.{Answer}
use Rattle.array_run.specs.declared.call.Call.{Call}

pub made_as : (arrange : Arrange) (c d : Call) (h : TokenCounts) (s : Meaning) (a : Answer) (h' : TokenCounts) (t : Meaning) → c ≡ d → Made arrange d h s a h' t → Made arrange c h s a h' t
made_as arrange c d h s a h' t e m = subst (λ x. Made arrange x h s a h' t) (sym e) m

twice : (q : State) → given_up (given_up q) ≡ given_up q
twice Fallen = refl
twice Down = refl
twice (Resync p) = refl
twice Ready = refl
twice (Short d) = refl

-- a give-up after a give-up
pub again : (s t u : Meaning) → GivesUp s t → GivesUp t u → GivesUp s u
again s t u d e =
    let f : array (given_up t.state) empty t.members t.log ≡ array (given_up (given_up s.state)) empty s.members s.log = ap (λ x. array (given_up x.state) empty x.members x.log) d in
    e ∙ f ∙ ap (λ q. array q empty s.members s.log) (twice s.state)

pub none_given : (s : Meaning) → AfterGiveUps 0 s s
none_given s = record { same = λ _. refl; given = λ h. absurd (omega arith) }

pub one_more : (n : ℕ) (s t u : Meaning) → AfterGiveUps n s t → GivesUp t u → AfterGiveUps (n + 1) s u
one_more n s t u d e = record { same = λ h. absurd (omega arith); given = λ h. go n d }
  where
    go : (k : ℕ) → AfterGiveUps k s t → GivesUp s u
    go zero w = subst (λ x. GivesUp x u) (w.same refl) e
    go (suc k) w = again s t u (w.given (omega arith)) e

pub then_given : (n k : ℕ) (s t u : Meaning) → AfterGiveUps n s t → AfterGiveUps k t u → AfterGiveUps (n + k) s u
then_given n k s t u d e = record { same = λ h. e.same (omega arith) ∙ d.same (omega arith); given = λ h. go n k h d e }
  where
    go : (i j : ℕ) → 0 < i + j → AfterGiveUps i s t → AfterGiveUps j t u → GivesUp s u
    go zero j h v w = subst (λ x. GivesUp x u) (v.same refl) (w.given (omega arith))
    go (suc i) zero h v w = subst (λ x. GivesUp s x) (sym (w.same refl)) (v.given (omega arith))
    go (suc i) (suc j) h v w = again s t u (v.given (omega arith)) (w.given (omega arith))
