-- The address of a block that a write asks for.
use Rattle.std.proofs.Common.{◌≡◌, ◌≤◌, ℕ, true, List, Some, length, refl, arith, is_some, nat_le}
use Rattle.std.proofs.lemmas.Bool.Decides.{nat_tests}
use Rattle.std.specs.List.{list_all}
use Rattle.hs_events.specs.Asked.{address_for}
use Rattle.hs_limits.specs.Block.{spell}
use Rattle.hs_limits.specs.declared.address.Address.{Address}
use Rattle.hs_limits.specs.declared.spelling.TheConstants.{MOST_BYTES, MOST_POINTERS}
use Rattle.hs_ops.specs.Speaking.{asked_block, asked_pointers}
use Rattle.hs_tokens.specs.Seats.{Seats, held_at, seat_of}

le-is : (k m : ℕ) → k ≤ m → nat_le k m ≡ true
le-is k m h = grind (arith, nat_tests, h)

pub address_found : (name : List ℕ → Address) (seats : Seats) (session payload handles : List ℕ) → list_all (λ handle. is_some (held_at (seat_of session seats) handle)) handles ≡ true
    → length handles ≤ MOST_POINTERS → length payload ≤ MOST_BYTES
    → address_for name seats session payload handles ≡ Some (name (spell (record { pointers = asked_pointers seats session handles; bytes = payload })))
unfolding asked_block
address_found name seats session payload handles held few short = rw (held, le-is (length handles) MOST_POINTERS few, le-is (length payload) MOST_BYTES short) refl
