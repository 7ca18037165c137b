-- Calls made one after the other keep the promise. Assumes nothing.
use Rattle.std.proofs.Common.{◌≡◌, ℕ, ◌+◌, ◌≤◌, true, false, List, [], ◌∷◌, ◌++◌, length, take, Some, None, Ok, Err, Option, sym, refl, ap, ◌∙◌, subst, inl, inr, append_assoc, append-nil, arith}
use Rattle.cache.specs.Contents.{empty}
use Rattle.array_model.specs.Meaning.{Meaning, Arrange, LawfulLayout, geometry}
use Rattle.array_model.specs.Checks.{limits_check}
use Rattle.array_model.specs.Work.{Performs}
use Rattle.array_model.specs.Calls.{Plain, Checked, format_actions, Formats}
use Rattle.array_model.specs.Book as model
use Rattle.array_model.specs.Runs.{formatted, next, Does}
use Rattle.array_model.specs.declared.state.State.TheVariants.{Down}
use Rattle.array_model.proofs.Cases.{ok≢err, in_down}
use Rattle.array_model.proofs.Promised.{crash_promise}
use Rattle.array_run.specs.TokenCounts.{TokenCounts}
use Rattle.array_run.specs.Calls.{as_call, Made}
use Rattle.array_run.specs.Trace.{EmptyUnlessReady, Account, account_begun, accounted, InRun, Promised, Trace, begin, then_none, then_made, Keeps}
use Rattle.array_run.specs.declared.answer.Answer.{Answer}
use Rattle.array_run.specs.declared.answer.Answer.TheVariants.{NoToken}
use Rattle.array_run.specs.declared.call.Call.{Call}
use Rattle.array_run.proofs.Emptiness.{Idle, does_unused}

pub promised : (arrange : Arrange) → LawfulLayout arrange → (o : Option Account) (s : Meaning) → InRun arrange o s → Promised arrange o s
promised arrange lawful None s h = tt
promised arrange lawful (Some a) s h = crash_promise.along_every_run arrange a.book a.known s lawful h

module _ (arrange : Arrange) (s t : Meaning) (h : Idle s) where
  -- an array that is formatted was down, so its caches were empty
  was_empty : Formats (geometry arrange s) s (Ok tt) t → s.caches ≡ empty
  was_empty d =
      in_down s (Ok tt) t (λ q. EmptyUnlessReady q s.caches) (s.caches ≡ empty)
      (λ x r u. Checked (limits_check (geometry arrange s)) x r u (Performs (format_actions (geometry arrange s)) tt Down x.caches x r u))
      (λ n. absurd (ok≢err n.0))
      (λ i w e. i)
      s.state refl h d

  formats : (r : Plain) → Formats (geometry arrange s) s r t → InRun arrange (account_begun model.format r t) t
  formats (Ok a) d = formatted s t (was_empty d) d
  formats (Err e) d = tt

  -- an account begins with an accepted format
  begins : (c : model.Call) (r : model.Reply c) → Does (geometry arrange s) c s r t → InRun arrange (account_begun c r t) t
  begins model.power_on r d = tt
  begins model.format r d = formats r d
  begins model.open_whole r d = tt
  begins model.step r d = tt
  begins model.finish r d = tt
  begins model.destage r d = tt
  begins model.flush r d = tt
  begins model.close r d = tt
  begins model.give_up r d = tt
  begins (model.open_short x) r d = tt
  begins (model.write k x) r d = tt
  begins (model.read_block k old) r d = tt
  begins (model.read_short k old) r d = tt

  pub goes_on : (c : model.Call) (r : model.Reply c) (o : Option Account) → InRun arrange o s → Does (geometry arrange s) c s r t → InRun arrange (accounted (geometry arrange s) c r t o) t
  goes_on c r None h d = begins c r d
  goes_on c r (Some a) h d = next t c r h d

-- nothing follows from a refused answer that would be accepted
pub unmade : {A : Type 0} → false ≡ true → A
unmade e = let z : ◌≡◌ {A = ℕ} 0 1 = cc in absurd (omega arith)

-- The first n calls were made.
pub record Sofar (arrange : Arrange) (cs : List Call) (old new : List Answer) (h : TokenCounts) (s : Meaning) (n : ℕ) (i : TokenCounts) (t : Meaning) (o : Option Account) : Type 0 where
  pub answers : List Answer
  pub behind : new ≡ old ++ answers
  pub account : Option Account
  pub trace : Trace arrange o h s (take n cs) answers account i t
  pub run : InRun arrange account t

module _ (arrange : Arrange) (cs : List Call) (old : List Answer) (h : TokenCounts) (s : Meaning) (o : Option Account) where
  pub at_first : (n : ℕ) → n ≡ 0 → InRun arrange o s → Sofar arrange cs old old h s n h s o
  at_first n e r = record {
    answers = [];
    behind = sym (append-nil old);
    account = o;
    trace = subst (λ k. Trace arrange o h s (take k cs) [] o h s) (sym e) begin;
    run = r;
  }

  -- the same answers and tokens, and the same array
  pub still : (mid new : List Answer) (n : ℕ) (i j : TokenCounts) (t u : Meaning) → new ≡ mid → j ≡ i → u ≡ t → Sofar arrange cs old mid h s n i t o → Sofar arrange cs old new h s n j u o
  still mid new n i j t u e k d f =
      subst (λ x. Sofar arrange cs old x h s n j u o) (sym e)
      (subst (λ x. Sofar arrange cs old mid h s n x u o) (sym k) (subst (λ x. Sofar arrange cs old mid h s n i x o) (sym d) f))

  -- all of the promise, once a number of calls was made
  pub keeps : (new : List Answer) (n : ℕ) (i : TokenCounts) (t : Meaning) (whole : Type 0) → LawfulLayout arrange → n ≤ length cs → (whole → n ≡ length cs) → Sofar arrange cs old new h s n i t o → Keeps arrange cs old new h s i t whole o
  keeps new n i t whole lawful few all f = record {
    number = n;
    few = few;
    all = all;
    answers = f.answers;
    behind = f.behind;
    account = f.account;
    trace = f.trace;
    promised = promised arrange lawful f.account t f.run;
    run = f.run;
  }

  module _ (lawful : LawfulLayout arrange) (mid new : List Answer) (n : ℕ) (i j : TokenCounts) (t u : Meaning) (c : Call) (a : Answer) (idle : Idle t) (took : take (n + 1) cs ≡ take n cs ++ c ∷ []) (put : new ≡ mid ++ a ∷ []) where
    -- one call more
    pub one_more : Made arrange c i t a j u → Sofar arrange cs old mid h s n i t o → Sofar arrange cs old new h s (n + 1) j u o
    one_more (inl (none, is, held, same)) f = record {
      answers = f.answers ++ a ∷ [];
      behind = put ∙ ap (λ l. l ++ a ∷ []) f.behind ∙ append_assoc old f.answers (a ∷ []);
      account = f.account;
      trace =
          subst (λ l. Trace arrange o h s l (f.answers ++ a ∷ []) f.account j u) (sym took)
          (subst (λ x. Trace arrange o h s (take n cs ++ c ∷ []) (f.answers ++ x ∷ []) f.account j u) (sym is)
          (subst (λ x. Trace arrange o h s (take n cs ++ c ∷ []) (f.answers ++ NoToken ∷ []) f.account x u) (sym held)
          (subst (λ x. Trace arrange o h s (take n cs ++ c ∷ []) (f.answers ++ NoToken ∷ []) f.account i x) (sym same) (then_none c f.trace none))));
      run = subst (λ x. InRun arrange f.account x) (sym same) f.run;
    }
    one_more (inr (some, (r, told, does, held))) f = record {
      answers = f.answers ++ a ∷ [];
      behind = put ∙ ap (λ l. l ++ a ∷ []) f.behind ∙ append_assoc old f.answers (a ∷ []);
      account = accounted (geometry arrange t) (as_call c) r u f.account;
      trace =
          subst (λ l. Trace arrange o h s l (f.answers ++ a ∷ []) (accounted (geometry arrange t) (as_call c) r u f.account) j u) (sym took)
          (subst (λ x. Trace arrange o h s (take n cs ++ c ∷ []) (f.answers ++ a ∷ []) (accounted (geometry arrange t) (as_call c) r u f.account) x u) (sym held)
          (then_made c r a u f.trace (promised arrange lawful f.account t f.run) some told does));
      run = goes_on arrange t u idle (as_call c) r f.account f.run does;
    }

-- a call, made or not, leaves the caches empty where they have to be
pub made_unused : (arrange : Arrange) (c : Call) (h : TokenCounts) (s : Meaning) (a : Answer) (i : TokenCounts) (t : Meaning) → Made arrange c h s a i t → Idle s → Idle t
made_unused arrange c h s a i t (inl d) idle = subst Idle (sym d.3) idle
made_unused arrange c h s a i t (inr (some, (r, told, does, held))) idle = does_unused (geometry arrange s) (as_call c) s r t does idle
