-- The destages of a flush, one after the other: what is known after each. Assumes nothing.
use Rattle.std.proofs.Common.{◌≡◌, ℕ, ◌+◌, ◌<◌, ◌≤◌, true, Ok, subst, arith}
use Rattle.member_store.specs.Meaning as members
use Rattle.intent_log.specs.Meaning as intent
use Rattle.cache.specs.Contents.{Contents}
use Rattle.array_model.specs.Meaning.{Meaning, Geometry, array}
use Rattle.array_model.specs.Calls.{DestagesReady, Drains}
use Rattle.array_model.specs.declared.answer.Destage.{Destage}
use Rattle.array_model.specs.declared.answer.Destage.TheVariants.{Moved, Changed}
use Rattle.array_model.specs.declared.state.State.TheVariants.{Ready}
use Rattle.array_work.specs.Draining.{After}
use Rattle.array_work.proofs.Falling.{left_in, falls_moved, falls_changed}
use Rattle.array_work.proofs.Emptying.{destaged_on, more_moved, more_changed}

-- After n stripes and p puts, from s: the log, which was sound, is sound, and the caches have less to move.
pub record Turn (g : Geometry) (s : Meaning) (was is : Type 0) (n p : ℕ) (c : Contents) (m : members.Meaning) (l : intent.Meaning) : Type 0 where
  pub sound : was → is
  pub drains : was → s.log.on ≡ true → (l.on ≡ true) × Drains g s n p (array Ready c m l)
  pub few : n + p + left_in g.members g.blocks c ≤ 352321536

module _ (g : Geometry) (s : Meaning) (was is next : Type 0) (n p : ℕ) (c : Contents) (m : members.Meaning) (l : intent.Meaning) (i : Turn g s was is n p c m l) where
  module _ (a : Destage) (d : Contents) (m' : members.Meaning) (l' : intent.Meaning) (keeps : is → next)
      (does : is → l.on ≡ true → DestagesReady g (array Ready c m l) (Ok a) (array Ready d m' l')) (drained : After g.members g.blocks c a d) (k : ℕ) where
    pub one_moved : a ≡ Moved k → Turn g s was next (n + 1) p d m' l'
    one_moved e =
        let f : left_in g.members g.blocks d < left_in g.members g.blocks c = falls_moved g.members g.blocks c d k (subst (λ x. After g.members g.blocks c x d) e drained) in
        let most : n + p + left_in g.members g.blocks c ≤ 352321536 = i.few in
        record {
          sound = λ h. keeps (i.sound h);
          drains = λ h on.
              let q = i.drains h on in
              let r = does (i.sound h) q.0 in
              (destaged_on g (array Ready c m l) (array Ready d m' l') a r q.0, more_moved g s n p c m l (array Ready d m' l') a k e r q.1);
          few = omega arith;
        }

    pub one_changed : a ≡ Changed k → Turn g s was next n (p + k) d m' l'
    one_changed e =
        let h = subst (λ x. After g.members g.blocks c x d) e drained in
        let one : k ≤ 1 = h.1.0 in
        let f : left_in g.members g.blocks d < left_in g.members g.blocks c = falls_changed g.members g.blocks c d k h in
        let most : n + p + left_in g.members g.blocks c ≤ 352321536 = i.few in
        record {
          sound = λ h. keeps (i.sound h);
          drains = λ h on.
              let q = i.drains h on in
              let r = does (i.sound h) q.0 in
              (destaged_on g (array Ready c m l) (array Ready d m' l') a r q.0, more_changed g s n p c m l (array Ready d m' l') a k e r q.1);
          few = omega arith;
        }
