-- The open sessions: what each holds, and how they change.
use Rattle.std.specs.Prelude.{ℕ, ◌+◌, List, [], ◌∷◌, Option, Some, None, length, replicate, unwrap_or}
use Rattle.std.specs.declared.cmp.Ordering.{Ordering}
use Rattle.std.specs.Option.{option_map}
use Rattle.std.specs.Ordering.{nat_cmp}
use Rattle.std.specs.Cmp.Lexicographic.{slice_cmp}
use Rattle.std.specs.BTreeMap.{is_at, insert_entry}
use Rattle.std.specs.Map.{lookup, remove_entry, set_value}
use Rattle.hs_limits.specs.declared.address.Held.{Held}
use Rattle.hs_limits.specs.declared.limits.Limits.{Limits}

-- an open session: its next handle number, and what it holds by number
pub record Seat : Type 0 where
  pub next : ℕ
  pub handles : List (ℕ × Held)

-- the open sessions by name
abbrev pub Seats : Type 0
Seats = List (List ℕ × Seat)

-- the open sessions, and how much they may hold
pub record Seating : Type 0 where
  pub limits : Limits
  pub seats : Seats

-- ---- one session

-- a new session holds nothing
abbrev pub new_seat : Seat
new_seat = record { next = 0; handles = [] }

-- one handle more, under the next number
abbrev pub with_held : Held → Seat → Seat
with_held held seat = record { next = seat.next + 1; handles = insert_entry nat_cmp seat.handles seat.next held }

-- some handles more, one after another
abbrev pub with_helds : List Held → Seat → Seat
with_helds [] seat = seat
with_helds (held ∷ rest) seat = with_helds rest (with_held held seat)

-- without the handle of a number; its number is not given again
abbrev pub without_handle : ℕ → Seat → Seat
without_handle handle seat = record seat { handles = remove_entry (is_at (nat_cmp handle)) seat.handles }

-- what a handle stands for
abbrev pub held_at : Option Seat → ℕ → Option Held
held_at None handle = None
held_at (Some seat) handle = lookup (is_at (nat_cmp handle)) seat.handles

-- how many handles a session holds, and its next handle number
abbrev pub held_count : Seat → ℕ
held_count seat = length seat.handles

abbrev pub next_number : Option Seat → ℕ
next_number None = 0
next_number (Some seat) = seat.next

-- ---- all of them

-- names are in the order of their bytes
abbrev pub name_cmp : List ℕ → List ℕ → Ordering
name_cmp a b = slice_cmp nat_cmp a b

-- the open session of a name
abbrev pub seat_of : List ℕ → Seats → Option Seat
seat_of name seats = lookup (is_at (name_cmp name)) seats

-- an open session put into the place of what it was
abbrev pub put_seat : List ℕ → Option Seat → Seats → Seats
put_seat name None seats = seats
put_seat name (Some seat) seats = set_value (is_at (name_cmp name)) seats seat

-- one session more
abbrev pub open_session : List ℕ → Seats → Seats
open_session name seats = insert_entry name_cmp seats name new_seat

-- the session and what it held are gone
abbrev pub close_session : List ℕ → Seats → Seats
close_session name seats = remove_entry (is_at (name_cmp name)) seats

-- the session holds these too, where it is open
abbrev pub hold : List ℕ → List Held → Seats → Seats
hold name helds seats = put_seat name (option_map (with_helds helds) (seat_of name seats)) seats

-- the session does not hold this number any more, where it is open
abbrev pub forget : List ℕ → ℕ → Seats → Seats
forget name handle seats = put_seat name (option_map (without_handle handle) (seat_of name seats)) seats

-- the zero address in epoch 0 stands for what is not held
abbrev pub nothing : Held
nothing = record { address = record { 0 = replicate 32 0 }; epoch = 0 }

-- what a handle of a session stands for
abbrev pub found : Seats → List ℕ → ℕ → Held
found seats name handle = unwrap_or (held_at (seat_of name seats) handle) nothing
