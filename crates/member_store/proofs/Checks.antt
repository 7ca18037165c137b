-- What it means that the checks pass.
use Rattle.std.proofs.Common.{◌≡◌, ℕ, ◌<◌, Bool, true, None, arith}
use Rattle.std.proofs.lemmas.Bool.Decides.{nat_tests}
use Rattle.std.proofs.lemmas.Bool.{lt-ltb, eq-eqb}
use Rattle.member_store.specs.Calls.{checked}

pub record Passed (power : Bool) (members blocks m b n : ℕ) : Type 0 where
  pub on : power ≡ true
  pub member : m < members
  pub block : b < blocks
  pub long : n ≡ 512

pub passed : (on : Bool) (members blocks m b n : ℕ) → checked on members blocks m b n ≡ None → Passed on members blocks m b n
passed on members blocks m b n e = record {
  on = grind (arith, nat_tests);
  member = grind (arith, nat_tests);
  block = grind (arith, nat_tests);
  long = grind (arith, nat_tests);
}

pub passing : (on : Bool) (members blocks m b n : ℕ) → Passed on members blocks m b n → checked on members blocks m b n ≡ None
passing on members blocks m b n p =
    let h = p.member in
    let k = p.block in
    simp (p.on, lt-ltb m members h, lt-ltb b blocks k, eq-eqb n 512 p.long)
