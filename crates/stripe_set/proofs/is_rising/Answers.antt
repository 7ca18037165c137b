use Rattle.std.proofs.Common.{◌≡◌, ℕ, ◌+◌, ◌<◌, Bool, true, false, ltb, List, length, get_or, sym, ⊎_elim, arith, rules}
use Rattle.std.specs.List.{IsAllAdjacentAnswer}
use Rattle.std.proofs.lemmas.Bool.{ltb-true, ltb-false, cases_Bool}
use Rattle.std.proofs.lemmas.List.Sorted.{answers_always}
use Rattle.stripe_set.specs.Rising.{rising}
use Rattle.stripe_set.proofs.Lists.{rising_pair, rising_pairs}
use Rattle.stripe_set.proofs.is_rising.Goals as goal

decided : (ss : List ℕ) (r : Bool) → ((k : ℕ) → k < length ss → get_or ss k 0 < 4294967296) → IsAllAdjacentAnswer (λ x y b. b ≡ ltb x y) ss r → r ≡ rising 0 ss
decided ss true small h = sym (rising_pairs 0 ss (λ _. omega arith) small (λ k j e l. rw e (ltb-true (get_or ss k 0) (get_or ss (k + 1) 0) (sym (h k 0 (omega arith))))))
decided ss false small h =
    ⊎_elim
    (λ up. let k : ℕ = h.0 in
    let l = ltb-false (get_or ss k 0) (get_or ss (k + 1) 0) (sym (h.2 0)) in
    let p = rising_pair 0 k ss up h.1 in
    absurd (omega arith))
    (λ down. sym down)
    (cases_Bool (rising 0 ss))

pub returns : goal.returns
returns c =
    decided c.args.list.now _ (λ k _. let f = c.type_inv.list k in omega arith) (c.is_sorted_by.ensures.cases ltb (answers_always _ _ _ (λ f a r g h. search rules)))
