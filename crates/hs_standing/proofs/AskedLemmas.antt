-- A line of a script comes as its command asks: the address that it comes with is the one that the plain store's naming gives.
use Rattle.std.proofs.Common.{◌≡◌, ◌∙◌, ap, ℕ, ◌≤◌, ◌&&◌, Bool, true, false, cond, List, [], ◌∷◌, length, map, nat_le, Option, Some, None, is_some, refl}
use Rattle.std.specs.List.{list_all}
use Rattle.std.specs.Option.{option_map}
use Rattle.std.specs.Prelude.{if◌then◌else◌, unwrap_or}
use Rattle.hs_answered.proofs.AnswerLemmas.{session_is}
use Rattle.hs_answered.specs.Standing.{store_with}
use Rattle.hs_answered.specs.Telling.{Judging}
use Rattle.hs_core_words.specs.Looking.{operation_of}
use Rattle.hs_core_words.specs.State.{Core}
use Rattle.hs_effects.proofs.StepLemmas.{held_same}
use Rattle.hs_effects.specs.Logged.{IsCalled}
use Rattle.hs_events.proofs.AddressLemmas.{address_found}
use Rattle.hs_events.specs.Asked.{addressed, address_for}
use Rattle.hs_fold.specs.Runs.Facts.{Catalogue as Folded}
use Rattle.hs_journal.specs.Events.{client_op}
use Rattle.hs_journal.specs.Events.{addressed as said_at}
use Rattle.hs_standing.specs.Commands.{IsLineOf}
use Rattle.hs_limits.specs.Block.{spell}
use Rattle.hs_limits.specs.declared.address.Address.{Address}
use Rattle.hs_limits.specs.declared.address.Held.{Held}
use Rattle.hs_limits.specs.declared.spelling.TheConstants.{MOST_BYTES, MOST_POINTERS}
use Rattle.hs_model.specs.declared.op.Op.{Op}
use Rattle.hs_model.specs.declared.op.Op.TheVariants as op
use Rattle.hs_model.specs.Judge.{nothing}
use Rattle.hs_model.specs.Store.{Session, held_in, session_at}
use Rattle.hs_ops.specs.Speaking.{asked_block, asked_pointers}
use Rattle.hs_ops.specs.Views.{as_session}
use Rattle.hs_tokens.specs.Seats.{Seat, Seats, held_at, found, seat_of}

-- the address of a block by what its handles stand for
abbrev address_with : (List ℕ → Address) → (ℕ → Option Held) → List ℕ → List ℕ → Option Address
address_with name held payload handles =
    if (list_all (λ handle. is_some (held handle)) handles && nat_le (length handles) MOST_POINTERS) && nat_le (length payload) MOST_BYTES
    then Some (name (spell (record { pointers = map (λ handle. (unwrap_or (held handle) nothing).address) handles; bytes = payload }))) else None

-- tests in another order
both_ways : (a b c : Bool) (x y : Option Address) → x ≡ y → cond ((a && b) && c) x None ≡ cond (a && (b && c)) y None
both_ways true true true x y e = e
both_ways true true false x y e = refl
both_ways true false c x y e = refl
both_ways false b c x y e = refl

pointers_are : (seats : Seats) (session handles : List ℕ) → map (λ handle. (unwrap_or (held_at (seat_of session seats) handle) nothing).address) handles ≡ asked_pointers seats session handles
pointers_are seats session [] = refl
pointers_are seats session (h ∷ handles) = ap (λ (rest : List Address). (found seats session h).address ∷ rest) (pointers_are seats session handles)

held_alike : (name : List ℕ → Address) (seat : Option Seat) (payload handles : List ℕ) → address_with name (held_in (option_map as_session seat)) payload handles ≡ address_with name (held_at seat) payload handles
held_alike name seat payload handles = λ i. address_with name (λ handle. held_same seat handle i) payload handles

write_address : (name : List ℕ → Address) (cs : List Folded) (seats : Seats) (session payload handles : List ℕ) → address_with name (held_in (session_at (store_with cs seats) session)) payload handles ≡ address_for name seats session payload handles
unfolding asked_block
write_address name cs seats session payload handles =
    ap (λ (x : Option Session). address_with name (held_in x) payload handles) (session_is (store_with cs seats) seats refl session)
    ∙ held_alike name (seat_of session seats) payload handles
    ∙ both_ways (list_all (λ handle. is_some (held_at (seat_of session seats) handle)) handles) (nat_le (length handles) MOST_POINTERS) (nat_le (length payload) MOST_BYTES)
    (Some (name (spell (record { pointers = map (λ handle. (unwrap_or (held_at (seat_of session seats) handle) nothing).address) handles; bytes = payload }))))
    (Some (name (spell (record { pointers = asked_pointers seats session handles; bytes = payload }))))
    (ap (λ (ps : List Address). Some (name (spell (record { pointers = ps; bytes = payload })))) (pointers_are seats session handles))

said_alike : (name : List ℕ → Address) (cs : List Folded) (seats : Seats) (o : Op) → said_at name (store_with cs seats) o ≡ addressed name seats o
said_alike name cs seats (op.Open session) = refl
said_alike name cs seats (op.Close session) = refl
said_alike name cs seats (op.Write session payload handles address) = ap (λ (a : Option Address). op.Write session payload handles a) (write_address name cs seats session payload handles)
said_alike name cs seats (op.Read session handle) = refl
said_alike name cs seats (op.Look session key) = refl
said_alike name cs seats (op.Root session key handle) = refl
said_alike name cs seats (op.Drop key) = refl
said_alike name cs seats (op.Forget session handle) = refl
said_alike name cs seats (op.Name session handle) = refl
said_alike name cs seats op.Delete = refl
said_alike name cs seats op.Stat = refl

called : (name : List ℕ → Address) (seats : Seats) (o : Op) → IsCalled name seats (addressed name seats o)
unfolding asked_block
called name seats (op.Open session) = tt
called name seats (op.Close session) = tt
called name seats (op.Write session payload handles address) = λ has. address_found name seats session payload handles has.held has.few has.short
called name seats (op.Read session handle) = tt
called name seats (op.Look session key) = tt
called name seats (op.Root session key handle) = tt
called name seats (op.Drop key) = tt
called name seats (op.Forget session handle) = tt
called name seats (op.Name session handle) = tt
called name seats op.Delete = tt
called name seats op.Stat = tt

pub line_comes : (by : Judging) (core : Core) (line : ℕ) (said : Op) → client_op (by.commands line) ≡ Some said → operation_of line core ≡ None → 1 ≤ line → IsLineOf by core line (addressed by.name core.sessions said)
line_comes by core line said asks new counted = record {
  fresh = record { new = new; counted = counted; called = called by.name core.sessions said };
  says = record { said = said; asks = asks; same = λ cs. said_alike by.name cs core.sessions said };
}
