-- What a session's operations make of its token, one after another.
use Rattle.std.proofs.Common.{◌≡◌, ℕ, List, [], ◌∷◌, Option, Some, None, Ok, Err, replicate, refl}
use Rattle.hs_limits.specs.declared.address.Address.{Address}
use Rattle.hs_limits.specs.declared.address.Held.{Held}
use Rattle.hs_model.specs.Deed.{deed_of}
use Rattle.hs_model.specs.declared.deed.Deed.{Deed}
use Rattle.hs_model.specs.declared.deed.Deed.TheVariants as deed
use Rattle.hs_model.specs.declared.op.Asked.{Asked}
use Rattle.hs_model.specs.declared.op.Asked.TheVariants as asked
use Rattle.hs_model.specs.declared.reply.Reply.{Reply}
use Rattle.hs_model.specs.declared.reply.Reply.TheVariants as reply
use Rattle.hs_desk.specs.Tokens.{answered, begun}
use Rattle.hs_desk.specs.declared.fault.CoreFault.TheVariants as fault
use Rattle.hs_desk.specs.declared.token.Token.{Token}

-- three addresses
abbrev zero : Address
zero = record { 0 = replicate 32 0 }

abbrev one : Address
one = record { 0 = replicate 32 1 }

abbrev two : Address
two = record { 0 = replicate 32 2 }

-- the session w0
abbrev name : List ℕ
name = 119 ∷ 48 ∷ []

abbrev token_with : ℕ → Option Asked → List Held → List (ℕ × Deed × Reply) → Token
token_with number o held kept = record { session = name; number = number; asked = o; held = held; kept = kept; fault = None }

abbrev write : List ℕ → Address → Asked
write handles address = asked.Write name 5 handles (Some address)

-- ---- begin

begins : begun (write [] one) (Ok 4) (token_with 1 None [] []) ≡ token_with 4 (Some (write [] one)) [] []
begins = refl

-- what was not begun is not asked
not_begun : begun (write [] one) (Err fault.OpsFull) (token_with 1 None [] []) ≡ record { session = name; number = 1; asked = None; held = []; kept = []; fault = Some fault.OpsFull }
not_begun = refl

-- ---- answers

-- what the first write gave to hold
abbrev first_held : List Held
first_held = record { address = one; epoch = 6 } ∷ []

abbrev first_kept : List (ℕ × Deed × Reply)
first_kept = (10, deed.Wrote name one [] 0, reply.New 0 6) ∷ []

a_new : answered 10 (write [] one) (reply.New 0 6) (token_with 4 (Some (write [] one)) [] []) ≡ token_with 4 None first_held first_kept
unfolding deed_of
a_new = refl

-- handle 0 is what the first write gave; nothing is held as handle 9, which stands for the zero address
abbrev second : Asked
second = write (0 ∷ 9 ∷ []) two

a_second : answered 11 second (reply.New 1 6) (token_with 5 (Some second) first_held first_kept)
    ≡ token_with 5 None (record { address = one; epoch = 6 } ∷ record { address = two; epoch = 6 } ∷ []) ((10, deed.Wrote name one [] 0, reply.New 0 6) ∷ (11, deed.Wrote name two (one ∷ zero ∷ []) 1, reply.New 1 6) ∷ [])
unfolding deed_of
a_second = refl

-- a block that is there already is held too, in the epoch told
a_dup : answered 12 (write [] one) (reply.Dup 1 7) (token_with 6 (Some (write [] one)) first_held first_kept)
    ≡ token_with 6 None (record { address = one; epoch = 6 } ∷ record { address = one; epoch = 7 } ∷ []) ((10, deed.Wrote name one [] 0, reply.New 0 6) ∷ (12, deed.Marked name one 1, reply.Dup 1 7) ∷ [])
unfolding deed_of
a_dup = refl

-- a refusal is kept, and gives nothing to hold
a_stale : answered 13 second (reply.Stale 0 6 8) (token_with 7 (Some second) first_held [])
    ≡ token_with 7 None first_held ((13, deed.Refused second, reply.Stale 0 6 8) ∷ [])
unfolding deed_of
a_stale = refl

-- the handles that a read gives are in its deed, with the epoch of the handle read through, and are not held
a_read : answered 14 (asked.Read name 0) (reply.Bytes (104 ∷ []) (1 ∷ 2 ∷ [])) (token_with 8 (Some (asked.Read name 0)) first_held [])
    ≡ token_with 8 None first_held ((14, deed.ReadBlock name one 6 (1 ∷ 2 ∷ []), reply.Bytes (104 ∷ []) (1 ∷ 2 ∷ [])) ∷ [])
unfolding deed_of
a_read = refl
