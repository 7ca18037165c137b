-- What a close answers, and whether it takes its permit.
use Rattle.std.specs.Prelude.{◌≡◌, Ok, Err, Result}
use Rattle.array_model.specs.Calls.{Plain}
use Rattle.array_model.specs.declared.state.State.{State}
use Rattle.array_model.specs.declared.state.State.TheVariants.{Fallen, Down, Resync, Ready, Short}
use Rattle.array_model.specs.declared.refusal.ArrayRefusal.TheVariants.{WrongState}
use Rattle.array.specs.declared.tokens.Token.{Token}
use Rattle.array.specs.declared.tokens.Writing.{Writing}
use Rattle.array.specs.declared.refusal.TokenRefusal.{TokenRefusal}
use Rattle.array.specs.declared.refusal.TokenRefusal.TheVariants.{Returned, Taken}
use Rattle.array.specs.Tickets.{TokenTaken}

-- What a close answers without its permit.
abbrev pub closed : Result (Unit {0}) (TokenRefusal Writing) → Plain
closed (Ok a) = Ok tt
closed (Err (Returned q permit)) = Err (WrongState q)
closed (Err (Taken e)) = Err e

-- A ready array's close takes the permit, refused or not; in any other state it comes back.
abbrev pub PermitBack : State → Token Writing → Result (Unit {0}) (TokenRefusal Writing) → Type 0
PermitBack Fallen permit r = r ≡ Err (Returned Fallen permit)
PermitBack Down permit r = r ≡ Err (Returned Down permit)
PermitBack (Resync p) permit r = r ≡ Err (Returned (Resync p) permit)
PermitBack Ready permit r = TokenTaken r
PermitBack (Short d) permit r = r ≡ Err (Returned (Short d) permit)
