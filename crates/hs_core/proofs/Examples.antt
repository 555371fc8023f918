-- Scripts of the rules on writes and reads, computed: what the journal tells.
use Rattle.std.proofs.Common.{◌≡◌, ℕ, List, [], ◌∷◌, Option, Some, None, refl, map}
use Rattle.hs_core.proofs.Driving.{Leaves, Says, does_lines, opened, tail_name}
use Rattle.hs_desk.specs.declared.fault.CoreFault.TheVariants as fault
use Rattle.hs_journal.specs.declared.entry.Who.{Who}
use Rattle.hs_journal.specs.declared.entry.Who.TheVariants as who
use Rattle.hs_limits.specs.Block.{spell}
use Rattle.hs_limits.specs.Limits.{greatest_limits}
use Rattle.hs_limits.specs.Reading.{addresses, block_at, read_block}
use Rattle.hs_model.specs.declared.command.Command.{Command}
use Rattle.hs_model.specs.declared.command.Command.TheVariants as command
use Rattle.hs_model.specs.declared.deed.Deed.{Deed}
use Rattle.hs_model.specs.declared.deed.Deed.TheVariants as deed
use Rattle.hs_model.specs.declared.op.Asked.TheVariants as asked
use Rattle.hs_model.specs.declared.op.Op.TheVariants as op
use Rattle.hs_model.specs.declared.reply.Reply.{Reply}
use Rattle.hs_model.specs.declared.reply.Reply.TheVariants as reply
use Rattle.hs_model.specs.Refusals.{no_handle_in, stale_in}
use Rattle.hs_model.specs.Store.{helds_of}
use Rattle.hs_ops.specs.Answers.{deed_of, gained, seats_after}
use Rattle.hs_ops.specs.Going.{asked_for, begin, block_entry, compared, data_of, go, is_same_block, judged_in, mark_entry, on_bytes, on_effect}
use Rattle.hs_ops.specs.Refusals.{refusals_of}
use Rattle.hs_ops.specs.Speaking.{asked_block, least_epoch}

-- sessions and keys
abbrev a : List ℕ
a = 97 ∷ []

abbrev b : List ℕ
b = 98 ∷ []

abbrev c : List ℕ
c = 99 ∷ []

abbrev d : List ℕ
d = 100 ∷ []

abbrev j : List ℕ
j = 106 ∷ []

abbrev k : List ℕ
k = 107 ∷ []

abbrev z : List ℕ
z = 122 ∷ []

-- open a / write a 6162 / settle / read a h0 / settle
abbrev two_copies_lines : List Command
two_copies_lines =
    command.Client (op.Open a) ∷ command.Client (op.Write a (97 ∷ 98 ∷ []) [] None) ∷ command.Settle ∷ command.Client (op.Read a 0) ∷ command.Settle ∷ []

abbrev two_copies_told : List (Who × Reply)
two_copies_told =
    (who.Line 1, reply.Ok) ∷ (who.Line 2, reply.New 0 1) ∷ (who.Line 4, reply.Bytes (97 ∷ 98 ∷ []) []) ∷ []

two_copies : Says (1, 2) greatest_limits two_copies_lines two_copies_told (None)
unfolding gained addresses block_at read_block no_handle_in stale_in helds_of deed_of seats_after asked_for begin block_entry compared data_of go is_same_block judged_in mark_entry on_bytes on_effect refusals_of asked_block least_epoch
two_copies = record { told = refl; ended = refl }

-- open a / write a 6162 / write a 61 / turn 0 / turn 0 / read a h0 / stat / turn 0
abbrev busy_lines : List Command
busy_lines =
    command.Client (op.Open a) ∷ command.Client (op.Write a (97 ∷ 98 ∷ []) [] None) ∷ command.Client (op.Write a (97 ∷ []) [] None) ∷ command.Turn 0 ∷ command.Turn 0 ∷
    command.Client (op.Read a 0) ∷ command.Client op.Stat ∷ command.Turn 0 ∷ []

abbrev busy_told : List (Who × Reply)
busy_told =
    (who.Line 1, reply.Ok) ∷ (who.Line 3, reply.Busy 2) ∷ (who.Line 2, reply.New 0 1) ∷ (who.Line 7, reply.Stat 1 0 1 (1 ∷ []) (1 ∷ [])) ∷
    (who.Line 6, reply.Bytes (97 ∷ 98 ∷ []) []) ∷ []

busy : Says (1, 1) greatest_limits busy_lines busy_told (None)
unfolding gained addresses block_at read_block no_handle_in stale_in helds_of deed_of seats_after asked_for begin block_entry compared data_of go is_same_block judged_in mark_entry on_bytes on_effect refusals_of asked_block least_epoch
busy = record { told = refl; ended = refl }

-- open a / open b / write a 61 / write b 62 / turn 0 x2 / turn 1 x2
abbrev two_shards_lines : List Command
two_shards_lines =
    command.Client (op.Open a) ∷ command.Client (op.Open b) ∷ command.Client (op.Write a (97 ∷ []) [] None) ∷ command.Client (op.Write b (98 ∷ []) [] None) ∷
    command.Turn 0 ∷ command.Turn 0 ∷ command.Turn 1 ∷ command.Turn 1 ∷ []

abbrev two_shards_told : List (Who × Reply)
two_shards_told =
    (who.Line 1, reply.Ok) ∷ (who.Line 2, reply.Ok) ∷ (who.Line 4, reply.New 0 1) ∷ (who.Line 3, reply.New 0 1) ∷ []

two_shards : Says (2, 1) greatest_limits two_shards_lines two_shards_told (None)
unfolding gained addresses block_at read_block no_handle_in stale_in helds_of deed_of seats_after asked_for begin block_entry compared data_of go is_same_block judged_in mark_entry on_bytes on_effect refusals_of asked_block least_epoch
two_shards = record { told = refl; ended = refl }

-- open a / write a 6162 / turn 0 x2 / stat / turn 1 x3 / turn 0 / stat
abbrev turn_by_turn_lines : List Command
turn_by_turn_lines =
    command.Client (op.Open a) ∷ command.Client (op.Write a (97 ∷ 98 ∷ []) [] None) ∷ command.Turn 0 ∷ command.Turn 0 ∷ command.Client op.Stat ∷ command.Turn 1 ∷
    command.Turn 1 ∷ command.Turn 1 ∷ command.Turn 0 ∷ command.Client op.Stat ∷ []

abbrev turn_by_turn_told : List (Who × Reply)
turn_by_turn_told =
    (who.Line 1, reply.Ok) ∷ (who.Line 5, reply.Stat 0 0 1 (1 ∷ []) (1 ∷ [])) ∷ (who.Line 2, reply.New 0 1) ∷ (who.Line 10, reply.Stat 1 0 1 (1 ∷ []) (1 ∷ [])) ∷ []

turn_by_turn : Says (1, 2) greatest_limits turn_by_turn_lines turn_by_turn_told (None)
unfolding gained addresses block_at read_block no_handle_in stale_in helds_of deed_of seats_after asked_for begin block_entry compared data_of go is_same_block judged_in mark_entry on_bytes on_effect refusals_of asked_block least_epoch
turn_by_turn = record { told = refl; ended = refl }

-- open a / open b / write a 61 / write b 61 / settle / write a 61 / settle
abbrev dup_marks_lines : List Command
dup_marks_lines =
    command.Client (op.Open a) ∷ command.Client (op.Open b) ∷ command.Client (op.Write a (97 ∷ []) [] None) ∷ command.Client (op.Write b (97 ∷ []) [] None) ∷
    command.Settle ∷ command.Client (op.Write a (97 ∷ []) [] None) ∷ command.Settle ∷ []

abbrev dup_marks_told : List (Who × Reply)
dup_marks_told =
    (who.Line 1, reply.Ok) ∷ (who.Line 2, reply.Ok) ∷ (who.Line 3, reply.New 0 1) ∷ (who.Line 4, reply.Dup 0 1) ∷ (who.Line 6, reply.Dup 1 1) ∷ []

dup_marks : Says (1, 1) greatest_limits dup_marks_lines dup_marks_told (None)
unfolding gained addresses block_at read_block no_handle_in stale_in helds_of deed_of seats_after asked_for begin block_entry compared data_of go is_same_block judged_in mark_entry on_bytes on_effect refusals_of asked_block least_epoch
dup_marks = record { told = refl; ended = refl }

-- open a / write a 01010101010101010..0..0..0000 / settle / write a 020202020202020200000000000000000
abbrev collision_lines : List Command
collision_lines =
    command.Client (op.Open a) ∷
    command.Client (op.Write a (1 ∷ 1 ∷ 1 ∷ 1 ∷ 1 ∷ 1 ∷ 1 ∷ 1 ∷ 0 ∷ 0 ∷ 0 ∷ 0 ∷ 0 ∷ 0 ∷ 0 ∷ 0 ∷ 0 ∷ 0 ∷ 0 ∷ 0 ∷ 0 ∷ 0 ∷ 0 ∷ 0 ∷ 0 ∷ 0 ∷ 0 ∷ 0 ∷ 0 ∷ 0 ∷ 0 ∷ 0 ∷ 0 ∷ 0 ∷ 0 ∷ 0 ∷ 0 ∷ 0 ∷ 0 ∷ 0 ∷ []) [] None) ∷
    command.Settle ∷
    command.Client (op.Write a (2 ∷ 2 ∷ 2 ∷ 2 ∷ 2 ∷ 2 ∷ 2 ∷ 2 ∷ 0 ∷ 0 ∷ 0 ∷ 0 ∷ 0 ∷ 0 ∷ 0 ∷ 0 ∷ 0 ∷ 0 ∷ 0 ∷ 0 ∷ 0 ∷ 0 ∷ 0 ∷ 0 ∷ 0 ∷ 0 ∷ 0 ∷ 0 ∷ 0 ∷ 0 ∷ 0 ∷ 0 ∷ 0 ∷ 0 ∷ 0 ∷ 0 ∷ 0 ∷ 0 ∷ 0 ∷ 0 ∷ []) [] None) ∷
    command.Settle ∷ command.Client op.Delete ∷ command.Settle ∷ command.Client op.Delete ∷ command.Settle ∷
    command.Client (op.Write a (2 ∷ 2 ∷ 2 ∷ 2 ∷ 2 ∷ 2 ∷ 2 ∷ 2 ∷ 0 ∷ 0 ∷ 0 ∷ 0 ∷ 0 ∷ 0 ∷ 0 ∷ 0 ∷ 0 ∷ 0 ∷ 0 ∷ 0 ∷ 0 ∷ 0 ∷ 0 ∷ 0 ∷ 0 ∷ 0 ∷ 0 ∷ 0 ∷ 0 ∷ 0 ∷ 0 ∷ 0 ∷ 0 ∷ 0 ∷ 0 ∷ 0 ∷ 0 ∷ 0 ∷ 0 ∷ 0 ∷ []) [] None) ∷
    command.Settle ∷ []

abbrev collision_told : List (Who × Reply)
collision_told =
    (who.Line 1, reply.Ok) ∷ (who.Line 2, reply.New 0 1) ∷ (who.Line 4, reply.Collision) ∷ (who.Line 6, reply.Run 2) ∷ (who.Shard 0, reply.Sweep 2 0) ∷
    (who.Store, reply.Done 2) ∷ (who.Line 8, reply.Run 3) ∷ (who.Shard 0, reply.Sweep 3 1) ∷ (who.Store, reply.Done 3) ∷ (who.Line 10, reply.New 1 3) ∷ []

collision : Says (1, 1) greatest_limits collision_lines collision_told (None)
unfolding gained addresses block_at read_block no_handle_in stale_in helds_of deed_of seats_after asked_for begin block_entry compared data_of go is_same_block judged_in mark_entry on_bytes on_effect refusals_of asked_block least_epoch
collision = record { told = refl; ended = refl }

-- open a / write a 61 / settle / write a 62 h0 / settle / read a h1 / settle / read a h2 / settle / name a h2 / write a - / settle / read a h3 / settle
abbrev read_walk_lines : List Command
read_walk_lines =
    command.Client (op.Open a) ∷ command.Client (op.Write a (97 ∷ []) [] None) ∷ command.Settle ∷ command.Client (op.Write a (98 ∷ []) (0 ∷ []) None) ∷ command.Settle ∷
    command.Client (op.Read a 1) ∷ command.Settle ∷ command.Client (op.Read a 2) ∷ command.Settle ∷ command.Client (op.Name a 2) ∷
    command.Client (op.Write a [] [] None) ∷ command.Settle ∷ command.Client (op.Read a 3) ∷ command.Settle ∷ []

abbrev read_walk_told : List (Who × Reply)
read_walk_told =
    (who.Line 1, reply.Ok) ∷ (who.Line 2, reply.New 0 1) ∷ (who.Line 4, reply.New 1 1) ∷ (who.Line 6, reply.Bytes (98 ∷ []) (2 ∷ [])) ∷
    (who.Line 8, reply.Bytes (97 ∷ []) []) ∷ (who.Line 10, reply.Name (tail_name (spell (record { pointers = []; bytes = (97 ∷ []) })))) ∷ (who.Line 11, reply.New 3 1) ∷
    (who.Line 13, reply.Bytes [] []) ∷ []

read_walk : Says (1, 1) greatest_limits read_walk_lines read_walk_told (None)
unfolding gained addresses block_at read_block no_handle_in stale_in helds_of deed_of seats_after asked_for begin block_entry compared data_of go is_same_block judged_in mark_entry on_bytes on_effect refusals_of asked_block least_epoch
read_walk = record { told = refl; ended = refl }

-- a View, a Block and two Marks: the second write waited for the first
dup_marks_leaves : Leaves (1, 1) greatest_limits dup_marks_lines ((4, 4) ∷ []) 0
unfolding gained addresses block_at read_block no_handle_in stale_in helds_of deed_of seats_after asked_for begin block_entry compared data_of go is_same_block judged_in mark_entry on_bytes on_effect refusals_of asked_block least_epoch
dup_marks_leaves = record { lists = refl; messages = refl }

-- one shard's Block each, behind its View
two_shards_leaves : Leaves (2, 1) greatest_limits two_shards_lines ((2, 2) ∷ (2, 2) ∷ []) 0
unfolding gained addresses block_at read_block no_handle_in stale_in helds_of deed_of seats_after asked_for begin block_entry compared data_of go is_same_block judged_in mark_entry on_bytes on_effect refusals_of asked_block least_epoch
two_shards_leaves = record { lists = refl; messages = refl }

-- and what each entry did
busy_did : List Deed
busy_did = deed.Opened a ∷ deed.Refused (asked.Write a 1 [] (Some (tail_name (spell (record { pointers = []; bytes = 97 ∷ [] })))))
    ∷ deed.Wrote a (tail_name (spell (record { pointers = []; bytes = 97 ∷ 98 ∷ [] }))) [] 0 ∷ deed.Nothing
    ∷ deed.ReadBlock a (tail_name (spell (record { pointers = []; bytes = 97 ∷ 98 ∷ [] }))) 1 [] ∷ []

busy_deeds : map (λ e. e.deed) (does_lines 1 busy_lines (opened (1, 1) greatest_limits)).core.journal ≡ busy_did
unfolding busy_did gained addresses block_at read_block no_handle_in stale_in helds_of deed_of seats_after asked_for begin block_entry compared data_of go is_same_block judged_in mark_entry on_bytes on_effect refusals_of asked_block least_epoch
busy_deeds = refl

turn_by_turn_leaves : Leaves (1, 2) greatest_limits turn_by_turn_lines ((2, 2) ∷ (2, 2) ∷ []) 0
unfolding gained addresses block_at read_block no_handle_in stale_in helds_of deed_of seats_after asked_for begin block_entry compared data_of go is_same_block judged_in mark_entry on_bytes on_effect refusals_of asked_block least_epoch
turn_by_turn_leaves = record { lists = refl; messages = refl }
