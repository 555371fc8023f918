-- What the command of a line asks for rests on its own session alone.
use Rattle.std.proofs.Common.{◌≡◌, ◌∙◌, sym, ap, subst, ℕ, ◌&&◌, List, length, map, nat_le, Option, Some, None, IsSome, is_some, refl}
use Rattle.std.specs.List.{list_all}
use Rattle.std.specs.Option.{option_map}
use Rattle.std.specs.Prelude.{if◌then◌else◌, unwrap_or}
use Rattle.hs_answered.proofs.AnswerLemmas.{session_is}
use Rattle.hs_answered.specs.Standing.{IsAddressed, store_with}
use Rattle.hs_answered.specs.Telling.{Judging}
use Rattle.hs_effects.proofs.SeatLemmas.{IsSameFor}
use Rattle.hs_fold.specs.Runs.Facts.{Catalogue as Folded}
use Rattle.hs_journal.specs.Events.{address_of, addressed}
use Rattle.hs_journal.specs.Order.{session_of}
use Rattle.hs_standing.specs.Commands.{IsCommanded, IsOfCommand}
use Rattle.hs_limits.specs.declared.address.Address.{Address}
use Rattle.hs_limits.specs.declared.spelling.TheConstants.{MOST_BYTES, MOST_POINTERS}
use Rattle.hs_model.specs.declared.op.Op.{Op}
use Rattle.hs_model.specs.declared.op.Op.TheVariants as op
use Rattle.hs_model.specs.Judge.{nothing}
use Rattle.hs_model.specs.Store.{Session, Store, held_in, session_at}
use Rattle.hs_ops.specs.Views.{as_session}
use Rattle.hs_tokens.specs.Seats.{Seat, Seats, held_at, seat_of}

-- the address of a block by its session
abbrev said_in : (List ℕ → Address) → Option Session → List ℕ → List ℕ → Option Address
said_in name session payload handles =
    if (list_all (λ handle. is_some (held_in session handle)) handles && nat_le (length handles) MOST_POINTERS) && nat_le (length payload) MOST_BYTES
    then Some (address_of name (record { pointers = map (λ handle. (unwrap_or (held_in session handle) nothing).address) handles; bytes = payload })) else None

-- the session in the plain store, whatever its catalogues
session_seat : (cs : List Folded) (seats : Seats) (name : List ℕ) → session_at (store_with cs seats) name ≡ option_map as_session (seat_of name seats)
session_seat cs seats name = session_is (store_with cs seats) seats refl name

session_same : (cs ds : List Folded) (a b : Seats) (name : List ℕ) → seat_of name b ≡ seat_of name a → session_at (store_with ds b) name ≡ session_at (store_with cs a) name
session_same cs ds a b name e = session_seat ds b name ∙ ap (λ (seat : Option Seat). option_map as_session seat) e ∙ sym (session_seat cs a name)

addressed_session : (name : List ℕ → Address) (s : Store) (o : Op) → session_of (Some (addressed name s o)) ≡ session_of (Some o)
addressed_session name s (op.Open session) = refl
addressed_session name s (op.Close session) = refl
addressed_session name s (op.Write session payload handles address) = refl
addressed_session name s (op.Read session handle) = refl
addressed_session name s (op.Look session key) = refl
addressed_session name s (op.Root session key handle) = refl
addressed_session name s (op.Drop key) = refl
addressed_session name s (op.Forget session handle) = refl
addressed_session name s (op.Name session handle) = refl
addressed_session name s op.Delete = refl
addressed_session name s op.Stat = refl

pub addressed_on : (name : List ℕ → Address) (cs ds : List Folded) (a b : Seats) (o : Op) → IsSameFor o a b → addressed name (store_with ds b) o ≡ addressed name (store_with cs a) o
addressed_on name cs ds a b (op.Open session) same = refl
addressed_on name cs ds a b (op.Close session) same = refl
addressed_on name cs ds a b (op.Write session payload handles address) same =
    ap (λ (x : Option Session). op.Write session payload handles (said_in name x payload handles)) (session_same cs ds a b session (same session refl))
addressed_on name cs ds a b (op.Read session handle) same = refl
addressed_on name cs ds a b (op.Look session key) same = refl
addressed_on name cs ds a b (op.Root session key handle) same = refl
addressed_on name cs ds a b (op.Drop key) same = refl
addressed_on name cs ds a b (op.Forget session handle) same = refl
addressed_on name cs ds a b (op.Name session handle) same = refl
addressed_on name cs ds a b op.Delete same = refl
addressed_on name cs ds a b op.Stat same = refl

-- so an operation is of its command whatever the catalogues
pub any_folds : (by : Judging) (seats : Seats) (cs : List Folded) (said o : Op) → addressed by.name (store_with cs seats) said ≡ o → (ds : List Folded) → addressed by.name (store_with ds seats) said ≡ o
any_folds by seats cs said o e ds = addressed_on by.name cs ds seats seats said (λ q s. refl) ∙ e

-- and where its session is the same
pub command_on : (by : Judging) (a b : Seats) (line : ℕ) (o : Op) → IsSameFor o a b → IsOfCommand by a line o → IsOfCommand by b line o
command_on by a b line o same its = record {
  said = its.said;
  asks = its.asks;
  same = λ cs. addressed_on by.name cs cs a b its.said (λ q s. same q (session cs q s)) ∙ its.same cs;
}
  where
    session : (cs : List Folded) (q : List ℕ) → session_of (Some its.said) ≡ Some q → session_of (Some o) ≡ Some q
    session cs q s = ap (λ (p : Op). session_of (Some p)) (sym (its.same cs)) ∙ addressed_session by.name (store_with cs a) its.said ∙ s

has_on : (a b : Seats) (o : Op) → IsSameFor o a b → IsAddressed a o → IsAddressed b o
has_on a b (op.Open session) same h = tt
has_on a b (op.Close session) same h = tt
has_on a b (op.Write session payload handles address) same h = h
has_on a b (op.Read session handle) same h = subst (λ (seat : Option Seat). IsSome (held_at seat handle)) (sym (same session refl)) h
has_on a b (op.Look session key) same h = tt
has_on a b (op.Root session key handle) same h = tt
has_on a b (op.Drop key) same h = tt
has_on a b (op.Forget session handle) same h = tt
has_on a b (op.Name session handle) same h = tt
has_on a b op.Delete same h = tt
has_on a b op.Stat same h = tt

pub commanded_on : (by : Judging) (a b : Seats) (line : ℕ) (o : Op) → IsSameFor o a b → IsCommanded by a line o → IsCommanded by b line o
commanded_on by a b line o same its = record { says = command_on by a b line o same its.says; has = has_on a b o same its.has }
