-- Copies of a stripe's four blocks cancel out exactly where the stripe is right.
use Rattle.std.proofs.Common.{◌≡◌, ℕ, Bool, List, Decides, subst}
use Rattle.member_store.specs.Meaning.{Meaning, HasBlock, current}
use Rattle.sheet_parity.specs.Right.{CancelOut, RightStripe}

pub copied : (m : Meaning) (s : ℕ) (a b c d : List ℕ) (r : Bool) → a ≡ current m 0 s → b ≡ current m 1 s → c ≡ current m 2 s → d ≡ current m 3 s → HasBlock m 3 s → Decides r (CancelOut a b c d) → Decides r (RightStripe m s)
copied m s a b c d r ea eb ec ed has tells =
    let A : List ℕ → Type 0 = λ x. Decides r (CancelOut x b c d) in
    let B : List ℕ → Type 0 = λ x. Decides r (CancelOut (current m 0 s) x c d) in
    let C : List ℕ → Type 0 = λ x. Decides r (CancelOut (current m 0 s) (current m 1 s) x d) in
    let D : List ℕ → Type 0 = λ x. Decides r (CancelOut (current m 0 s) (current m 1 s) (current m 2 s) x) in
    let whole = subst D ed (subst C ec (subst B eb (subst A ea tells))) in
    ((λ e. (has, whole.0 e)), (λ right. whole.1 right.1))
