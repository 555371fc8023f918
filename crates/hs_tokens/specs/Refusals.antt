-- Why a call on the sessions is refused, where it is: the first cause that holds, in the order of the rules.
use Rattle.std.specs.Prelude.{ℕ, ◌+◌, List, length, Option, Some, None, is_some, is_none, if◌then◌else◌, nat_le, nat_lt}
use Rattle.hs_limits.specs.declared.limits.Limits.{Limits}
use Rattle.hs_tokens.specs.declared.fault.SeatFault.{SeatFault}
use Rattle.hs_tokens.specs.declared.fault.SeatFault.TheVariants.{NoSession, SessionTaken, SessionsFull, NoHandle, HandlesFull}
use Rattle.hs_tokens.specs.Seats.{Seat, Seats, seat_of, held_at, held_count}

-- the session is open, or as many sessions as the limit are
abbrev pub open_refusal : Limits → List ℕ → Seats → Option SeatFault
open_refusal limits name seats =
    if is_some (seat_of name seats) then Some SessionTaken else
    if nat_le limits.sessions (length seats) then Some (SessionsFull limits.sessions) else None

-- the session is not open
abbrev pub close_refusal : Option Seat → Option SeatFault
close_refusal None = Some NoSession
close_refusal (Some seat) = None

-- the session is not open, or one handle more would make more than the limit
abbrev pub hold_refusal : Limits → Option Seat → Option SeatFault
hold_refusal limits None = Some NoSession
hold_refusal limits (Some seat) = if nat_lt limits.handles (held_count seat + 1) then Some (HandlesFull limits.handles) else None

-- the session is not open, or does not hold the handle
abbrev pub handle_refusal : Option Seat → ℕ → Option SeatFault
handle_refusal None handle = Some NoSession
handle_refusal (Some seat) handle = if is_none (held_at (Some seat) handle) then Some NoHandle else None
