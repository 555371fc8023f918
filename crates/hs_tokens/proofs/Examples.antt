-- What the definitions give for scripts of the rules: opens and handles under small limits, numbers that are not given again.
use Rattle.std.proofs.Common.{◌≡◌, ℕ, List, [], ◌∷◌, map, replicate, Some, None, refl}
use Rattle.std.specs.Option.{option_map}
use Rattle.hs_limits.specs.declared.address.Held.{Held}
use Rattle.hs_limits.specs.declared.limits.Limits.{Limits}
use Rattle.hs_limits.specs.Limits.{greatest_limits}
use Rattle.hs_tokens.specs.declared.fault.SeatFault.TheVariants.{NoSession, SessionTaken, SessionsFull, NoHandle, HandlesFull}
use Rattle.hs_tokens.specs.Refusals.{open_refusal, close_refusal, hold_refusal, handle_refusal}
use Rattle.hs_tokens.specs.Seats.{Seats, open_session, close_session, hold, forget, found, nothing, seat_of, next_number, held_count}

-- sessions a, b and c, and two addresses given in an epoch
abbrev a : List ℕ
a = 97 ∷ []

abbrev b : List ℕ
b = 98 ∷ []

abbrev c : List ℕ
c = 99 ∷ []

abbrev given : ℕ → ℕ → Held
given byte epoch = record { address = record { 0 = replicate 32 byte }; epoch = epoch }

-- two sessions, and two handles each
abbrev two : Limits
two = record greatest_limits { sessions = 2; handles = 2 }

-- a and b are open
abbrev both : Seats
both = open_session b (open_session a [])

-- open a / open a / open b / open c
opens : open_refusal two a [] ∷ open_refusal two a (open_session a []) ∷ open_refusal two b (open_session a []) ∷ open_refusal two c both ∷ []
    ≡ None ∷ Some SessionTaken ∷ None ∷ Some (SessionsFull 2) ∷ []
opens = refl

-- session a writes twice, and may not write again
abbrev written : Seats
written = hold a (given 5 1 ∷ []) (hold a (given 4 1 ∷ []) both)

writes : hold_refusal two (seat_of a both) ∷ hold_refusal two (seat_of a (hold a (given 4 1 ∷ []) both)) ∷ hold_refusal two (seat_of a written) ∷ hold_refusal two (seat_of c written) ∷ []
    ≡ None ∷ None ∷ Some (HandlesFull 2) ∷ Some NoSession ∷ []
writes = refl

-- the numbers were 0 and 1, and the other session's is 0
numbers : map (λ name. next_number (seat_of name written)) (a ∷ b ∷ []) ≡ 2 ∷ 0 ∷ []
numbers = refl

holds : found written a 0 ∷ found written a 1 ∷ found written b 0 ∷ [] ≡ given 4 1 ∷ given 5 1 ∷ nothing ∷ []
holds = refl

-- look b k / forget b h0 / forget b h0: the number goes, and is not given again
abbrev looked : Seats
looked = hold b (given 5 1 ∷ []) written

forgets : handle_refusal (seat_of b looked) 0 ∷ handle_refusal (seat_of b (forget b 0 looked)) 0 ∷ [] ≡ None ∷ Some NoHandle ∷ []
forgets = refl

next_after : option_map (λ seat. seat.next) (seat_of b (forget b 0 looked)) ∷ option_map held_count (seat_of b (forget b 0 looked)) ∷ [] ≡ Some 1 ∷ Some 0 ∷ []
next_after = refl

-- close b / read b h0
closes : close_refusal (seat_of b both) ∷ handle_refusal (seat_of b (close_session b both)) 0 ∷ [] ≡ None ∷ Some NoSession ∷ []
closes = refl

-- write a 61, write a 62 in the epoch after, and write a 63 in the one after that: h0, h1 and h2, each with its epoch
given_later : found (hold a (given 4 1 ∷ given 5 2 ∷ given 6 3 ∷ []) both) a 2 ≡ given 6 3
given_later = refl
