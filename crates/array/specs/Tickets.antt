-- What a finish answers, and whether it takes its ticket.
use Rattle.std.specs.Prelude.{◌≡◌, Ok, Err, Result}
use Rattle.array_model.specs.declared.answer.ResyncCounts.{ResyncCounts}
use Rattle.array_model.specs.declared.state.State.{State}
use Rattle.array_model.specs.declared.state.State.TheVariants.{Fallen, Down, Resync, Ready, Short}
use Rattle.array_model.specs.declared.refusal.ArrayRefusal.{ArrayRefusal}
use Rattle.array_model.specs.declared.refusal.ArrayRefusal.TheVariants.{WrongState}
use Rattle.array.specs.declared.tokens.Token.{Token}
use Rattle.array.specs.declared.tokens.Resyncing.{Resyncing}
use Rattle.array.specs.declared.tokens.Writing.{Writing}
use Rattle.array.specs.declared.refusal.TokenRefusal.{TokenRefusal}
use Rattle.array.specs.declared.refusal.TokenRefusal.TheVariants.{Returned, Taken}

-- What a finish answers without its permit or its ticket.
abbrev pub counted : Result (Token Writing × ResyncCounts) (TokenRefusal Resyncing) → Result ResyncCounts ArrayRefusal
counted (Ok a) = Ok a.1
counted (Err (Returned q ticket)) = Err (WrongState q)
counted (Err (Taken e)) = Err e

-- The ticket or permit was taken.
abbrev pub TokenTaken : {A K : Type 0} → Result A (TokenRefusal K) → Type 0
TokenTaken (Ok a) = Unit {0}
TokenTaken (Err (Returned q t)) = ⊥
TokenTaken (Err (Taken e)) = Unit {0}

-- A resynchronization's finish takes the ticket, refused or not; in any other state it comes back.
abbrev pub TicketBack : State → Token Resyncing → Result (Token Writing × ResyncCounts) (TokenRefusal Resyncing) → Type 0
TicketBack Fallen ticket r = r ≡ Err (Returned Fallen ticket)
TicketBack Down ticket r = r ≡ Err (Returned Down ticket)
TicketBack (Resync p) ticket r = TokenTaken r
TicketBack Ready ticket r = r ≡ Err (Returned Ready ticket)
TicketBack (Short d) ticket r = r ≡ Err (Returned (Short d) ticket)
