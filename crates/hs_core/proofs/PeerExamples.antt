-- Scripts of the rules on peers and messages, computed: what the journal tells, and how the core ends.
use Rattle.std.proofs.Common.{◌≡◌, ℕ, List, [], ◌∷◌, Option, Some, None, length, refl}
use Rattle.hs_core.proofs.Driving.{Leaves, Says, World, does, does_lines, opened, said}
use Rattle.hs_core_words.specs.declared.event.Event.TheVariants as event
use Rattle.hs_core_words.specs.Looking.{tasks_of}
use Rattle.hs_desk.specs.declared.done.Done.TheVariants as done
use Rattle.hs_desk.specs.declared.fault.CoreFault.TheVariants as fault
use Rattle.hs_journal.specs.declared.entry.Who.{Who}
use Rattle.hs_journal.specs.declared.entry.Who.TheVariants as who
use Rattle.hs_limits.specs.Block.{spell}
use Rattle.hs_limits.specs.Limits.{greatest_limits}
use Rattle.hs_limits.specs.Reading.{addresses, block_at, read_block}
use Rattle.hs_model.specs.declared.command.Command.{Command}
use Rattle.hs_model.specs.declared.command.Command.TheVariants as command
use Rattle.hs_model.specs.declared.op.Op.TheVariants as op
use Rattle.hs_model.specs.declared.reply.Reply.{Reply}
use Rattle.hs_model.specs.declared.reply.Reply.TheVariants as reply
use Rattle.hs_model.specs.Refusals.{no_handle_in, stale_in}
use Rattle.hs_model.specs.Store.{helds_of}
use Rattle.hs_ops.specs.Answers.{deed_of, gained, seats_after}
use Rattle.hs_ops.specs.Going.{asked_for, begin, block_entry, compared, data_of, go, is_same_block, judged_in, mark_entry, on_bytes, on_effect}
use Rattle.hs_ops.specs.Refusals.{refusals_of}
use Rattle.hs_ops.specs.Speaking.{asked_block, least_epoch}

-- sessions and keys
abbrev a : List ℕ
a = 97 ∷ []

abbrev b : List ℕ
b = 98 ∷ []

abbrev c : List ℕ
c = 99 ∷ []

abbrev d : List ℕ
d = 100 ∷ []

abbrev j : List ℕ
j = 106 ∷ []

abbrev k : List ℕ
k = 107 ∷ []

abbrev z : List ℕ
z = 122 ∷ []

-- open a / write a 61 / turn 0 x2 / fail 0 / settle / write a 61 / settle / fail 0
abbrev fail_one_copy_lines : List Command
fail_one_copy_lines =
    command.Client (op.Open a) ∷ command.Client (op.Write a (97 ∷ []) [] None) ∷ command.Turn 0 ∷ command.Turn 0 ∷ command.Fail 0 ∷ command.Settle ∷
    command.Client (op.Write a (97 ∷ []) [] None) ∷ command.Settle ∷ command.Fail 0 ∷ []

abbrev fail_one_copy_told : List (Who × Reply)
fail_one_copy_told =
    (who.Line 1, reply.Ok) ∷ (who.Line 2, reply.New 0 1) ∷ (who.Line 7, reply.Dup 1 1) ∷ (who.Line 9, reply.NotUp 0) ∷ []

fail_one_copy : Says (1, 2) greatest_limits fail_one_copy_lines fail_one_copy_told (None)
unfolding gained addresses block_at read_block no_handle_in stale_in helds_of deed_of seats_after asked_for begin block_entry compared data_of go is_same_block judged_in mark_entry on_bytes on_effect refusals_of asked_block least_epoch
fail_one_copy = record { told = refl; ended = refl }

-- open a / write a 6162 / turn 0 x2 / fail 0 / settle / start 0 / settle / write a 6162 / settle / fail 1 / read a h0 / settle / stat
abbrev rejoin_lines : List Command
rejoin_lines =
    command.Client (op.Open a) ∷ command.Client (op.Write a (97 ∷ 98 ∷ []) [] None) ∷ command.Turn 0 ∷ command.Turn 0 ∷ command.Fail 0 ∷ command.Settle ∷
    command.Start 0 ∷ command.Settle ∷ command.Client (op.Write a (97 ∷ 98 ∷ []) [] None) ∷ command.Settle ∷ command.Fail 1 ∷ command.Client (op.Read a 0) ∷
    command.Settle ∷ command.Client op.Stat ∷ []

abbrev rejoin_told : List (Who × Reply)
rejoin_told =
    (who.Line 1, reply.Ok) ∷ (who.Line 2, reply.New 0 1) ∷ (who.Line 9, reply.Dup 1 1) ∷ (who.Line 12, reply.Bytes (97 ∷ 98 ∷ []) []) ∷
    (who.Line 14, reply.Stat 1 0 1 (1 ∷ []) (1 ∷ [])) ∷ []

rejoin : Says (1, 2) greatest_limits rejoin_lines rejoin_told (None)
unfolding gained addresses block_at read_block no_handle_in stale_in helds_of deed_of seats_after asked_for begin block_entry compared data_of go is_same_block judged_in mark_entry on_bytes on_effect refusals_of asked_block least_epoch
rejoin = record { told = refl; ended = refl }

-- open a / open b / open c / write a 01 / settle / write a 02 / write b 03 / write c 04 / turn 0 x6 / fail 0 / turn 1 x2
abbrev lower_view_lines : List Command
lower_view_lines =
    command.Client (op.Open a) ∷ command.Client (op.Open b) ∷ command.Client (op.Open c) ∷ command.Client (op.Write a (1 ∷ []) [] None) ∷ command.Settle ∷
    command.Client (op.Write a (2 ∷ []) [] None) ∷ command.Client (op.Write b (3 ∷ []) [] None) ∷ command.Client (op.Write c (4 ∷ []) [] None) ∷ command.Turn 0 ∷
    command.Turn 0 ∷ command.Turn 0 ∷ command.Turn 0 ∷ command.Turn 0 ∷ command.Turn 0 ∷ command.Fail 0 ∷ command.Turn 1 ∷ command.Turn 1 ∷ []

abbrev lower_view_told : List (Who × Reply)
lower_view_told =
    (who.Line 1, reply.Ok) ∷ (who.Line 2, reply.Ok) ∷ (who.Line 3, reply.Ok) ∷ (who.Line 4, reply.New 0 1) ∷ []

lower_view : Says (1, 2) greatest_limits lower_view_lines lower_view_told (None)
unfolding gained addresses block_at read_block no_handle_in stale_in helds_of deed_of seats_after asked_for begin block_entry compared data_of go is_same_block judged_in mark_entry on_bytes on_effect refusals_of asked_block least_epoch
lower_view = record { told = refl; ended = refl }

-- start 0 / fail 1 / start 1 / fail 0
abbrev not_joined_lines : List Command
not_joined_lines =
    command.Start 0 ∷ command.Fail 1 ∷ command.Start 1 ∷ command.Fail 0 ∷ []

abbrev not_joined_told : List (Who × Reply)
not_joined_told =
    (who.Line 1, reply.NotDown 0) ∷ []

not_joined : Says (1, 2) greatest_limits not_joined_lines not_joined_told (Some (fault.ShardLost 0))
unfolding gained addresses block_at read_block no_handle_in stale_in helds_of deed_of seats_after asked_for begin block_entry compared data_of go is_same_block judged_in mark_entry on_bytes on_effect refusals_of asked_block least_epoch
not_joined = record { told = refl; ended = refl }

-- open a / write a 61 / settle / fail 0
abbrev last_copy_fails_lines : List Command
last_copy_fails_lines =
    command.Client (op.Open a) ∷ command.Client (op.Write a (97 ∷ []) [] None) ∷ command.Settle ∷ command.Fail 0 ∷ []

abbrev last_copy_fails_told : List (Who × Reply)
last_copy_fails_told =
    (who.Line 1, reply.Ok) ∷ (who.Line 2, reply.New 0 1) ∷ []

last_copy_fails : Says (1, 1) greatest_limits last_copy_fails_lines last_copy_fails_told (Some (fault.ShardLost 0))
unfolding gained addresses block_at read_block no_handle_in stale_in helds_of deed_of seats_after asked_for begin block_entry compared data_of go is_same_block judged_in mark_entry on_bytes on_effect refusals_of asked_block least_epoch
last_copy_fails = record { told = refl; ended = refl }

-- turn 1
abbrev no_such_peer_lines : List Command
no_such_peer_lines =
    command.Turn 1 ∷ []

abbrev no_such_peer_told : List (Who × Reply)
no_such_peer_told =
    (who.Line 1, reply.NoPeer 1) ∷ []

no_such_peer : Says (1, 1) greatest_limits no_such_peer_lines no_such_peer_told (None)
unfolding gained addresses block_at read_block no_handle_in stale_in helds_of deed_of seats_after asked_for begin block_entry compared data_of go is_same_block judged_in mark_entry on_bytes on_effect refusals_of asked_block least_epoch
no_such_peer = record { told = refl; ended = refl }

-- fail 1 / turn 1 / fail 1 / start 1 / start 1
abbrev peer_states_lines : List Command
peer_states_lines =
    command.Fail 1 ∷ command.Turn 1 ∷ command.Fail 1 ∷ command.Start 1 ∷ command.Start 1 ∷ []

abbrev peer_states_told : List (Who × Reply)
peer_states_told =
    (who.Line 2, reply.NotUp 1) ∷ (who.Line 3, reply.NotUp 1) ∷ (who.Line 5, reply.NotDown 1) ∷ []

peer_states : Says (1, 2) greatest_limits peer_states_lines peer_states_told (None)
unfolding gained addresses block_at read_block no_handle_in stale_in helds_of deed_of seats_after asked_for begin block_entry compared data_of go is_same_block judged_in mark_entry on_bytes on_effect refusals_of asked_block least_epoch
peer_states = record { told = refl; ended = refl }

-- open a / write a 61 / repeat 1 x16 / settle
abbrev full_pool_lines : List Command
full_pool_lines =
    command.Client (op.Open a) ∷ command.Client (op.Write a (97 ∷ []) [] None) ∷ command.Repeat 1 ∷ command.Repeat 1 ∷ command.Repeat 1 ∷ command.Repeat 1 ∷
    command.Repeat 1 ∷ command.Repeat 1 ∷ command.Repeat 1 ∷ command.Repeat 1 ∷ command.Repeat 1 ∷ command.Repeat 1 ∷ command.Repeat 1 ∷ command.Repeat 1 ∷
    command.Repeat 1 ∷ command.Repeat 1 ∷ command.Repeat 1 ∷ command.Repeat 1 ∷ command.Settle ∷ []

abbrev full_pool_told : List (Who × Reply)
full_pool_told =
    (who.Line 1, reply.Ok) ∷ (who.Line 18, reply.PoolFull 16) ∷ (who.Line 2, reply.New 0 1) ∷ []

full_pool : Says (1, 2) (record greatest_limits { pool = 16 }) full_pool_lines full_pool_told (None)
unfolding gained addresses block_at read_block no_handle_in stale_in helds_of deed_of seats_after asked_for begin block_entry compared data_of go is_same_block judged_in mark_entry on_bytes on_effect refusals_of asked_block least_epoch
full_pool = record { told = refl; ended = refl }

-- a disk fails while an entry is appended: its peer is told of, and the other answers
abbrev after_failure : World
after_failure = does (event.Report 0 (done.Failed 0)) (does_lines 1 (command.Client (op.Open a) ∷ command.Client (op.Write a (97 ∷ []) [] None) ∷ []) (opened (1, 2) greatest_limits))

abbrev disk_fails_told : List (Who × Reply)
disk_fails_told = (who.Line 1, reply.Ok) ∷ (who.Store, reply.Down 0 2) ∷ (who.Line 2, reply.New 0 1) ∷ []

disk_fails : said (does_lines 3 (command.Settle ∷ []) after_failure).core ≡ disk_fails_told
unfolding gained addresses block_at read_block no_handle_in stale_in helds_of deed_of seats_after asked_for begin block_entry compared data_of go is_same_block judged_in mark_entry on_bytes on_effect refusals_of asked_block least_epoch
disk_fails = refl

fail_one_copy_leaves : Leaves (1, 2) greatest_limits fail_one_copy_lines ((2, 2) ∷ (4, 4) ∷ []) 0
unfolding gained addresses block_at read_block no_handle_in stale_in helds_of deed_of seats_after asked_for begin block_entry compared data_of go is_same_block judged_in mark_entry on_bytes on_effect refusals_of asked_block least_epoch
fail_one_copy_leaves = record { lists = refl; messages = refl }

lower_view_leaves : Leaves (1, 2) greatest_limits lower_view_lines ((5, 5) ∷ (6, 3) ∷ []) 3
unfolding gained addresses block_at read_block no_handle_in stale_in helds_of deed_of seats_after asked_for begin block_entry compared data_of go is_same_block judged_in mark_entry on_bytes on_effect refusals_of asked_block least_epoch
lower_view_leaves = record { lists = refl; messages = refl }

rejoin_leaves : Leaves (1, 2) greatest_limits rejoin_lines ((6, 6) ∷ (5, 5) ∷ []) 0
unfolding gained addresses block_at read_block no_handle_in stale_in helds_of deed_of seats_after asked_for begin block_entry compared data_of go is_same_block judged_in mark_entry on_bytes on_effect refusals_of asked_block least_epoch
rejoin_leaves = record { lists = refl; messages = refl }

not_joined_leaves : Leaves (1, 2) greatest_limits not_joined_lines ((2, 1) ∷ (1, 1) ∷ []) 0
unfolding gained addresses block_at read_block no_handle_in stale_in helds_of deed_of seats_after asked_for begin block_entry compared data_of go is_same_block judged_in mark_entry on_bytes on_effect refusals_of asked_block least_epoch
not_joined_leaves = record { lists = refl; messages = refl }

-- a Have for the lead is under way when the lead fails
abbrev lost_lead_lines : List Command
lost_lead_lines = command.Client (op.Open a) ∷ command.Client (op.Write a (97 ∷ []) [] None) ∷ command.Turn 1 ∷ command.Turn 1 ∷ command.Turn 1 ∷ command.Fail 0 ∷ []

lost_lead_leaves : Leaves (1, 2) greatest_limits lost_lead_lines ((2, 1) ∷ (3, 2) ∷ []) 0
unfolding gained addresses block_at read_block no_handle_in stale_in helds_of deed_of seats_after asked_for begin block_entry compared data_of go is_same_block judged_in mark_entry on_bytes on_effect refusals_of asked_block least_epoch
lost_lead_leaves = record { lists = refl; messages = refl }

-- a report that answers no job changes nothing
abbrev writing : World
writing = does_lines 1 (command.Client (op.Open a) ∷ command.Client (op.Write a (97 ∷ []) [] None) ∷ []) (opened (1, 1) greatest_limits)

other_reports : length (tasks_of 0 (does (event.Report 0 (done.Sealed 2)) writing).core) ≡ 2
unfolding gained addresses block_at read_block no_handle_in stale_in helds_of deed_of seats_after asked_for begin block_entry compared data_of go is_same_block judged_in mark_entry on_bytes on_effect refusals_of asked_block least_epoch
other_reports = refl
