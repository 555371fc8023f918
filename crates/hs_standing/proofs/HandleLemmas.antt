-- What the handles of open sessions stand for, as sessions come, go and gain handles.
use Rattle.std.proofs.Common.{◌≡◌, ℕ, Bool, true, false, cond, map, List, [], ◌∷◌, Option, Some, None, refl, unwrap_or}
use Rattle.std.proofs.lemmas.List.{length-replicate}
use Rattle.std.specs.BTreeMap.{is_at}
use Rattle.std.specs.List.{AllByRecursion}
use Rattle.std.specs.Option.{option_map}
use Rattle.std.specs.Ordering.{nat_cmp}
use Rattle.hs_effects.specs.Answered.{HoldAddresses}
use Rattle.hs_standing.specs.Held.{Has32Bytes, StandForAddresses}
use Rattle.hs_standing.proofs.AllLemmas.{each_found, each_insert, each_remove, each_set}
use Rattle.hs_limits.specs.declared.address.Held.{Held}
use Rattle.hs_model.specs.declared.op.Op.{Op}
use Rattle.hs_model.specs.declared.op.Op.TheVariants as op
use Rattle.hs_model.specs.declared.reply.Reply.{Reply}
use Rattle.hs_ops.specs.Answers.{is_done, seated, seats_after}
use Rattle.hs_ops.specs.Speaking.{asked_block}
use Rattle.hs_tokens.specs.Seats.{Seat, Seats, found, forget, held_at, hold, name_cmp, new_seat, nothing, put_seat, seat_of, with_held, with_helds, without_handle}

-- ---- one session

-- what some handles stand for
abbrev pub AreWhole : List Held → Type 0
AreWhole helds = AllByRecursion (λ (held : Held). Has32Bytes held.address) helds

-- the handles of one session
abbrev pub SeatStands : Seat → Type 0
SeatStands seat = AllByRecursion (λ (h : ℕ × Held). Has32Bytes h.1.address) seat.handles

-- the zero address has its bytes too
pub nothing_is : Has32Bytes nothing.address
nothing_is = length-replicate {A = ℕ} 32 0

helds_more : (helds : List Held) (seat : Seat) → AreWhole helds → SeatStands seat → SeatStands (with_helds helds seat)
helds_more [] seat w h = h
helds_more (held ∷ rest) seat w h =
    helds_more rest (with_held held seat) w.1
    (each_insert (λ (n : ℕ) (x : Held). Has32Bytes x.address) nat_cmp seat.handles seat.next held w.0 (λ n old r. w.0) h)

-- ---- all of them

seat_stands : (name : List ℕ) (seats : Seats) (seat : Seat) → seat_of name seats ≡ Some seat → StandForAddresses seats → SeatStands seat
seat_stands name seats seat e h = (each_found (λ (q : List ℕ) (x : Seat). SeatStands x) (is_at (name_cmp name)) seats seat e h).1

put_stands : (name : List ℕ) (seat : Seat) (seats : Seats) → SeatStands seat → StandForAddresses seats → StandForAddresses (put_seat name (Some seat) seats)
put_stands name seat seats new h = each_set (λ (q : List ℕ) (x : Seat). SeatStands x) (is_at (name_cmp name)) seats seat (λ q old r. new) h

hold_stands : (name : List ℕ) (helds : List Held) (seats : Seats) → AreWhole helds → StandForAddresses seats → StandForAddresses (hold name helds seats)
hold_stands name helds seats w h = go (seat_of name seats) refl
  where
    go : (o : Option Seat) → seat_of name seats ≡ o → StandForAddresses (put_seat name (option_map (with_helds helds) o) seats)
    go None e = h
    go (Some seat) e = put_stands name (with_helds helds seat) seats (helds_more helds seat w (seat_stands name seats seat e h)) h

forget_stands : (name : List ℕ) (handle : ℕ) (seats : Seats) → StandForAddresses seats → StandForAddresses (forget name handle seats)
forget_stands name handle seats h = go (seat_of name seats) refl
  where
    go : (o : Option Seat) → seat_of name seats ≡ o → StandForAddresses (put_seat name (option_map (without_handle handle) o) seats)
    go None e = h
    go (Some seat) e = put_stands name (without_handle handle seat) seats
        (each_remove (λ (n : ℕ) (x : Held). Has32Bytes x.address) (is_at (nat_cmp handle)) seat.handles (seat_stands name seats seat e h)) h

seated_stands : (gains : List Held) (o : Op) (seats : Seats) → AreWhole gains → StandForAddresses seats → StandForAddresses (seated gains o seats)
seated_stands gains (op.Open name) seats w h = each_insert (λ (q : List ℕ) (x : Seat). SeatStands x) name_cmp seats name new_seat tt (λ q old r. tt) h
seated_stands gains (op.Close name) seats w h = each_remove (λ (q : List ℕ) (x : Seat). SeatStands x) (is_at (name_cmp name)) seats h
seated_stands gains (op.Write name payload handles address) seats w h = hold_stands name gains seats w h
seated_stands gains (op.Read name handle) seats w h = hold_stands name gains seats w h
seated_stands gains (op.Look name key) seats w h = hold_stands name gains seats w h
seated_stands gains (op.Root name key handle) seats w h = h
seated_stands gains (op.Drop key) seats w h = h
seated_stands gains (op.Forget name handle) seats w h = forget_stands name handle seats h
seated_stands gains (op.Name name handle) seats w h = h
seated_stands gains op.Delete seats w h = h
seated_stands gains op.Stat seats w h = h

-- a reply changes them only where it answers what was done
pub after_stands : (gains : List Held) (o : Op) (told : Reply) (seats : Seats) → (is_done told ≡ true → AreWhole gains) → StandForAddresses seats → StandForAddresses (seats_after gains o told seats)
unfolding seats_after
after_stands gains o told seats w h = go (is_done told) refl
  where
    go : (b : Bool) → is_done told ≡ b → StandForAddresses (cond b (seated gains o seats) seats)
    go true e = seated_stands gains o seats (w e) h
    go false e = h

-- ---- what a handle stands for

pub hold_addresses : (seats : Seats) → StandForAddresses seats → HoldAddresses seats
hold_addresses seats h = λ session handle. by_seat session handle (seat_of session seats) refl
  where
    by_held : (handle : ℕ) (seat : Seat) → SeatStands seat → (o : Option Held) → held_at (Some seat) handle ≡ o → Has32Bytes (unwrap_or o nothing).address
    by_held handle seat k None e = nothing_is
    by_held handle seat k (Some held) e = (each_found (λ (n : ℕ) (x : Held). Has32Bytes x.address) (is_at (nat_cmp handle)) seat.handles held e k).1

    by_seat : (session : List ℕ) (handle : ℕ) (o : Option Seat) → seat_of session seats ≡ o → Has32Bytes (unwrap_or (held_at o handle) nothing).address
    by_seat session handle None e = nothing_is
    by_seat session handle (Some seat) e = by_held handle seat (seat_stands session seats seat e h) (held_at (Some seat) handle) refl

-- so have the pointers of a write's block
pub asked_whole : (seats : Seats) (session payload : List ℕ) → HoldAddresses seats → (handles : List ℕ) → AllByRecursion Has32Bytes (asked_block seats session payload handles).pointers
unfolding asked_block
asked_whole seats session payload all handles = each handles
  where
    each : (hs : List ℕ) → AllByRecursion Has32Bytes (map (λ held. held.address) (map (λ handle. found seats session handle) hs))
    each [] = tt
    each (handle ∷ hs) = (all session handle, each hs)
