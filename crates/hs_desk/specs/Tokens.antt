-- What the calls of a clerk make of a token.
use Rattle.std.specs.Prelude.{◌≡◌, ℕ, List, [], ◌∷◌, ◌++◌, Option, Some, None, Result, Ok, Err, IsSome, IfSome}
use Rattle.hs_limits.specs.declared.address.Held.{Held}
use Rattle.hs_model.specs.Deed.{deed_of}
use Rattle.hs_model.specs.Judge.{given_address}
use Rattle.hs_model.specs.Op.{session_of}
use Rattle.hs_model.specs.declared.op.Asked.{Asked}
use Rattle.hs_model.specs.declared.op.Asked.TheVariants as asked
use Rattle.hs_model.specs.declared.op.Op.{Op}
use Rattle.hs_model.specs.declared.op.Op.TheVariants as op
use Rattle.hs_model.specs.declared.reply.Reply.{Reply}
use Rattle.hs_model.specs.declared.reply.Reply.TheVariants as reply
use Rattle.hs_desk.specs.declared.fault.CoreFault.{CoreFault}
use Rattle.hs_desk.specs.declared.token.Token.{Token}

-- the operation's session, where it has one, is this one
abbrev pub IsOfSession : List ℕ → Op → Type 0
IsOfSession session o = IfSome (session_of o) (λ name. name ≡ session)

-- a write has an address
abbrev pub HasAddress : Op → Type 0
HasAddress (op.Open name) = Unit {0}
HasAddress (op.Close name) = Unit {0}
HasAddress (op.Write name payload handles address) = IsSome address
HasAddress (op.Read name handle) = Unit {0}
HasAddress (op.Look name key) = Unit {0}
HasAddress (op.Root name key handle) = Unit {0}
HasAddress (op.Drop key) = Unit {0}
HasAddress (op.Forget name handle) = Unit {0}
HasAddress (op.Name name handle) = Unit {0}
HasAddress op.Delete = Unit {0}
HasAddress op.Stat = Unit {0}

-- what an answer gives to hold: a write that is answered New or Dup its address in the epoch told, any other answer nothing
abbrev pub newly_held : Asked → Reply → List Held
newly_held (asked.Write name length handles address) (reply.New handle epoch) = record { address = given_address address; epoch = epoch } ∷ []
newly_held (asked.Write name length handles address) (reply.Dup handle epoch) = record { address = given_address address; epoch = epoch } ∷ []
newly_held o r = []

-- the token behind `begin`: with a fault nothing was begun
abbrev pub begun : Asked → Result ℕ CoreFault → Token → Token
begun o (Ok number) token = record token { asked = Some o; number = number }
begun o (Err fault) token = record token { fault = Some fault }

-- the token behind an answer with a place in the journal
abbrev pub answered : ℕ → Asked → Reply → Token → Token
answered place o r token = record token { asked = None; held = token.held ++ newly_held o r; kept = token.kept ++ (place, deed_of token.held o r, r) ∷ [] }

-- what `answer` makes of a token whose operation is this
abbrev pub HasAnswered : Asked → Token → Token → Result (Option Reply) CoreFault → Type 0
HasAnswered o old new (Ok None) = new ≡ old
HasAnswered o old new (Ok (Some r)) = (place : ℕ) × (new ≡ answered place o r old)
HasAnswered o old new (Err fault) = new ≡ record old { fault = Some fault }
