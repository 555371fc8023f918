-- Scripts of the rules on deletion runs, computed: what the journal tells.
use Rattle.std.proofs.Common.{◌≡◌, ℕ, List, [], ◌∷◌, Option, Some, None, length, refl, take, ◌++◌}
use Rattle.hs_core.proofs.Driving.{Leaves, Says, does_lines, lists_of, opened, tail_name}
use Rattle.hs_core_words.specs.Looking.{catalogue_of}
use Rattle.hs_core_words.specs.Plain.{plain_store}
use Rattle.hs_desk.specs.declared.fault.CoreFault.TheVariants as fault
use Rattle.hs_journal.specs.declared.entry.Who.{Who}
use Rattle.hs_journal.specs.declared.entry.Who.TheVariants as who
use Rattle.hs_limits.specs.declared.address.Address.{Address}
use Rattle.hs_limits.specs.Block.{spell}
use Rattle.hs_limits.specs.Limits.{greatest_limits}
use Rattle.hs_limits.specs.Reading.{addresses, block_at, read_block}
use Rattle.hs_model.specs.declared.command.Command.{Command}
use Rattle.hs_model.specs.declared.command.Command.TheVariants as command
use Rattle.hs_model.specs.declared.op.Op.TheVariants as op
use Rattle.hs_model.specs.declared.reply.Reply.{Reply}
use Rattle.hs_model.specs.declared.reply.Reply.TheVariants as reply
use Rattle.hs_model.specs.Refusals.{no_handle_in, stale_in}
use Rattle.hs_model.specs.Store.{helds_of}
use Rattle.hs_ops.specs.Answers.{deed_of, gained, seats_after}
use Rattle.hs_ops.specs.Going.{asked_for, begin, block_entry, compared, data_of, go, is_same_block, judged_in, mark_entry, on_bytes, on_effect}
use Rattle.hs_ops.specs.Refusals.{refusals_of}
use Rattle.hs_ops.specs.Speaking.{asked_block, least_epoch}

-- sessions and keys
abbrev a : List ℕ
a = 97 ∷ []

abbrev b : List ℕ
b = 98 ∷ []

abbrev c : List ℕ
c = 99 ∷ []

abbrev d : List ℕ
d = 100 ∷ []

abbrev j : List ℕ
j = 106 ∷ []

abbrev k : List ℕ
k = 107 ∷ []

abbrev z : List ℕ
z = 122 ∷ []

-- open a / write a 61 / settle / root a k h0 / settle / drop k / settle / delete / settle / delete / settle
abbrev dropped_root_lines : List Command
dropped_root_lines =
    command.Client (op.Open a) ∷ command.Client (op.Write a (97 ∷ []) [] None) ∷ command.Settle ∷ command.Client (op.Root a k 0) ∷ command.Settle ∷
    command.Client (op.Drop k) ∷ command.Settle ∷ command.Client op.Delete ∷ command.Settle ∷ command.Client op.Delete ∷ command.Settle ∷ []

abbrev dropped_root_told : List (Who × Reply)
dropped_root_told =
    (who.Line 1, reply.Ok) ∷ (who.Line 2, reply.New 0 1) ∷ (who.Line 4, reply.Ok) ∷ (who.Line 6, reply.Ok) ∷ (who.Line 8, reply.Run 2) ∷ (who.Shard 0, reply.Sweep 2 0) ∷
    (who.Store, reply.Done 2) ∷ (who.Line 10, reply.Run 3) ∷ (who.Shard 0, reply.Sweep 3 1) ∷ (who.Store, reply.Done 3) ∷ []

dropped_root : Says (1, 1) greatest_limits dropped_root_lines dropped_root_told (None)
unfolding gained addresses block_at read_block no_handle_in stale_in helds_of deed_of seats_after asked_for begin block_entry compared data_of go is_same_block judged_in mark_entry on_bytes on_effect refusals_of asked_block least_epoch
dropped_root = record { told = refl; ended = refl }

-- what the shards have behind the drop, as one plain store
abbrev one : Address
one = tail_name (spell (record { pointers = []; bytes = 97 ∷ [] }))

dropped_root_plain : plain_store (does_lines 1 (take 7 dropped_root_lines) (opened (1, 1) greatest_limits)).core ≡ record {
  blocks = (one, record { pointers = []; bytes = []; born = 1 }) ∷ [];
  given = (one, 1) ∷ [];
  roots = record { key = k; address = one; dropped = Some 1 } ∷ [];
  epochs = 1 ∷ [];
  swept = 1 ∷ [];
  sessions = [];
}
unfolding gained addresses block_at read_block no_handle_in stale_in helds_of deed_of seats_after asked_for begin block_entry compared data_of go is_same_block judged_in mark_entry on_bytes on_effect refusals_of asked_block least_epoch
dropped_root_plain = refl

-- where the second run has entered the shard has the root still, which counts no more
abbrev past_root_lines : List Command
past_root_lines = take 9 dropped_root_lines ++ command.Client op.Delete ∷ command.Turn 0 ∷ command.Turn 0 ∷ []

past_root : length (catalogue_of 0 (does_lines 1 past_root_lines (opened (1, 1) greatest_limits)).core).roots ≡ 1
unfolding gained addresses block_at read_block no_handle_in stale_in helds_of deed_of seats_after asked_for begin block_entry compared data_of go is_same_block judged_in mark_entry on_bytes on_effect refusals_of asked_block least_epoch
past_root = refl

past_root_plain : (plain_store (does_lines 1 past_root_lines (opened (1, 1) greatest_limits)).core).roots ≡ []
unfolding gained addresses block_at read_block no_handle_in stale_in helds_of deed_of seats_after asked_for begin block_entry compared data_of go is_same_block judged_in mark_entry on_bytes on_effect refusals_of asked_block least_epoch
past_root_plain = refl

-- open a / write a 63 / settle / write a 70 h0 / settle / delete / settle / delete / turn 0 x8 / write a 63 / turn 0 x3 / write a 70 h2 / turn 0 x3 / se
abbrev undelete_lines : List Command
undelete_lines =
    command.Client (op.Open a) ∷ command.Client (op.Write a (99 ∷ []) [] None) ∷ command.Settle ∷ command.Client (op.Write a (112 ∷ []) (0 ∷ []) None) ∷ command.Settle ∷
    command.Client op.Delete ∷ command.Settle ∷ command.Client op.Delete ∷ command.Turn 0 ∷ command.Turn 0 ∷ command.Turn 0 ∷ command.Turn 0 ∷ command.Turn 0 ∷
    command.Turn 0 ∷ command.Turn 0 ∷ command.Turn 0 ∷ command.Client (op.Write a (99 ∷ []) [] None) ∷ command.Turn 0 ∷ command.Turn 0 ∷ command.Turn 0 ∷
    command.Client (op.Write a (112 ∷ []) (2 ∷ []) None) ∷ command.Turn 0 ∷ command.Turn 0 ∷ command.Turn 0 ∷ command.Settle ∷ command.Client op.Delete ∷
    command.Settle ∷ command.Client op.Delete ∷ command.Settle ∷ []

abbrev undelete_told : List (Who × Reply)
undelete_told =
    (who.Line 1, reply.Ok) ∷ (who.Line 2, reply.New 0 1) ∷ (who.Line 4, reply.New 1 1) ∷ (who.Line 6, reply.Run 2) ∷ (who.Shard 0, reply.Sweep 2 0) ∷
    (who.Store, reply.Done 2) ∷ (who.Line 8, reply.Run 3) ∷ (who.Line 17, reply.Dup 2 3) ∷ (who.Line 21, reply.Dup 3 3) ∷ (who.Shard 0, reply.Sweep 3 0) ∷
    (who.Store, reply.Done 3) ∷ (who.Line 26, reply.Run 4) ∷ (who.Shard 0, reply.Sweep 4 0) ∷ (who.Store, reply.Done 4) ∷ (who.Line 28, reply.Run 5) ∷
    (who.Shard 0, reply.Sweep 5 2) ∷ (who.Store, reply.Done 5) ∷ []

undelete : Says (1, 1) greatest_limits undelete_lines undelete_told (None)
unfolding gained addresses block_at read_block no_handle_in stale_in helds_of deed_of seats_after asked_for begin block_entry compared data_of go is_same_block judged_in mark_entry on_bytes on_effect refusals_of asked_block least_epoch
undelete = record { told = refl; ended = refl }

-- open a / write a 63 / settle / write a 70 h0 / settle / delete / turn 0 x2 / lose 1 / nudge 0 / repeat 2 / deliver 2 / deliver 3 / settle / lose 9 / d
abbrev lost_and_repeated_lines : List Command
lost_and_repeated_lines =
    command.Client (op.Open a) ∷ command.Client (op.Write a (99 ∷ []) [] None) ∷ command.Settle ∷ command.Client (op.Write a (112 ∷ []) (0 ∷ []) None) ∷ command.Settle ∷
    command.Client op.Delete ∷ command.Turn 0 ∷ command.Turn 0 ∷ command.Lose 1 ∷ command.Nudge 0 ∷ command.Repeat 2 ∷ command.Deliver 2 ∷ command.Deliver 3 ∷
    command.Settle ∷ command.Lose 9 ∷ command.Client op.Delete ∷ command.Settle ∷ []

abbrev lost_and_repeated_told : List (Who × Reply)
lost_and_repeated_told =
    (who.Line 1, reply.Ok) ∷ (who.Line 2, reply.New 0 1) ∷ (who.Line 4, reply.New 1 1) ∷ (who.Line 6, reply.Run 2) ∷ (who.Shard 0, reply.Sweep 2 0) ∷
    (who.Store, reply.Done 2) ∷ (who.Line 15, reply.NoMessage 9) ∷ (who.Line 16, reply.Run 3) ∷ (who.Shard 0, reply.Sweep 3 2) ∷ (who.Store, reply.Done 3) ∷ []

lost_and_repeated : Says (1, 1) greatest_limits lost_and_repeated_lines lost_and_repeated_told (None)
unfolding gained addresses block_at read_block no_handle_in stale_in helds_of deed_of seats_after asked_for begin block_entry compared data_of go is_same_block judged_in mark_entry on_bytes on_effect refusals_of asked_block least_epoch
lost_and_repeated = record { told = refl; ended = refl }

-- open a / write a 61 / settle / delete / settle / write a 62 h0 / settle / delete / settle / write a 63 h0 / write a 63 h1 / settle
abbrev stale_pointer_lines : List Command
stale_pointer_lines =
    command.Client (op.Open a) ∷ command.Client (op.Write a (97 ∷ []) [] None) ∷ command.Settle ∷ command.Client op.Delete ∷ command.Settle ∷
    command.Client (op.Write a (98 ∷ []) (0 ∷ []) None) ∷ command.Settle ∷ command.Client op.Delete ∷ command.Settle ∷
    command.Client (op.Write a (99 ∷ []) (0 ∷ []) None) ∷ command.Client (op.Write a (99 ∷ []) (1 ∷ []) None) ∷ command.Settle ∷ []

abbrev stale_pointer_told : List (Who × Reply)
stale_pointer_told =
    (who.Line 1, reply.Ok) ∷ (who.Line 2, reply.New 0 1) ∷ (who.Line 4, reply.Run 2) ∷ (who.Shard 0, reply.Sweep 2 0) ∷ (who.Store, reply.Done 2) ∷
    (who.Line 6, reply.New 1 2) ∷ (who.Line 8, reply.Run 3) ∷ (who.Shard 0, reply.Sweep 3 0) ∷ (who.Store, reply.Done 3) ∷ (who.Line 10, reply.Stale 0 1 3) ∷
    (who.Line 11, reply.New 2 3) ∷ []

stale_pointer : Says (1, 1) greatest_limits stale_pointer_lines stale_pointer_told (None)
unfolding gained addresses block_at read_block no_handle_in stale_in helds_of deed_of seats_after asked_for begin block_entry compared data_of go is_same_block judged_in mark_entry on_bytes on_effect refusals_of asked_block least_epoch
stale_pointer = record { told = refl; ended = refl }

-- open a / write a 62 / settle / delete / turn 0 x2 / turn 1 x5 / turn 0 x6 / turn 1 x3 / turn 0 x6 / delete / turn 0 x2 / write a 63 h0 / turn 1 x2 / w
abbrev epochs_apart_lines : List Command
epochs_apart_lines =
    command.Client (op.Open a) ∷ command.Client (op.Write a (98 ∷ []) [] None) ∷ command.Settle ∷ command.Client op.Delete ∷ command.Turn 0 ∷ command.Turn 0 ∷
    command.Turn 1 ∷ command.Turn 1 ∷ command.Turn 1 ∷ command.Turn 1 ∷ command.Turn 1 ∷ command.Turn 0 ∷ command.Turn 0 ∷ command.Turn 0 ∷ command.Turn 0 ∷
    command.Turn 0 ∷ command.Turn 0 ∷ command.Turn 1 ∷ command.Turn 1 ∷ command.Turn 1 ∷ command.Turn 0 ∷ command.Turn 0 ∷ command.Turn 0 ∷ command.Turn 0 ∷
    command.Turn 0 ∷ command.Turn 0 ∷ command.Client op.Delete ∷ command.Turn 0 ∷ command.Turn 0 ∷ command.Client (op.Write a (99 ∷ []) (0 ∷ []) None) ∷ command.Turn 1 ∷
    command.Turn 1 ∷ command.Client (op.Write a (100 ∷ []) (0 ∷ []) None) ∷ command.Client (op.Read a 0) ∷ command.Settle ∷ []

abbrev epochs_apart_told : List (Who × Reply)
epochs_apart_told =
    (who.Line 1, reply.Ok) ∷ (who.Line 2, reply.New 0 1) ∷ (who.Line 4, reply.Run 2) ∷ (who.Shard 1, reply.Enter 2) ∷ (who.Shard 0, reply.Sweep 2 0) ∷
    (who.Line 27, reply.Run 3) ∷ (who.Line 30, reply.New 1 2) ∷ (who.Line 33, reply.Stale 0 1 3) ∷ (who.Line 34, reply.Stale 0 1 3) ∷ (who.Shard 1, reply.Sweep 2 0) ∷
    (who.Store, reply.Done 2) ∷ (who.Shard 1, reply.Enter 3) ∷ (who.Shard 0, reply.Sweep 3 0) ∷ (who.Shard 1, reply.Sweep 3 0) ∷ (who.Store, reply.Done 3) ∷ []

epochs_apart : Says (2, 1) greatest_limits epochs_apart_lines epochs_apart_told (None)
unfolding gained addresses block_at read_block no_handle_in stale_in helds_of deed_of seats_after asked_for begin block_entry compared data_of go is_same_block judged_in mark_entry on_bytes on_effect refusals_of asked_block least_epoch
epochs_apart = record { told = refl; ended = refl }

-- delete / turn 0 x2 / lose 1 / lose 1 / nudge 0 / repeat 2 / deliver 3 / deliver 2 / settle / delete / turn 0 x2
abbrev round_zero_and_on_lines : List Command
round_zero_and_on_lines =
    command.Client op.Delete ∷ command.Turn 0 ∷ command.Turn 0 ∷ command.Lose 1 ∷ command.Lose 1 ∷ command.Nudge 0 ∷ command.Repeat 2 ∷ command.Deliver 3 ∷
    command.Deliver 2 ∷ command.Settle ∷ command.Client op.Delete ∷ command.Turn 0 ∷ command.Turn 0 ∷ []

abbrev round_zero_and_on_told : List (Who × Reply)
round_zero_and_on_told =
    (who.Line 1, reply.Run 2) ∷ (who.Line 5, reply.NoMessage 1) ∷ (who.Shard 0, reply.Sweep 2 0) ∷ (who.Store, reply.Done 2) ∷ (who.Line 11, reply.Run 3) ∷ []

round_zero_and_on : Says (1, 1) greatest_limits round_zero_and_on_lines round_zero_and_on_told (None)
unfolding gained addresses block_at read_block no_handle_in stale_in helds_of deed_of seats_after asked_for begin block_entry compared data_of go is_same_block judged_in mark_entry on_bytes on_effect refusals_of asked_block least_epoch
round_zero_and_on = record { told = refl; ended = refl }

-- a round that comes twice is logged once
lost_and_repeated_leaves : Leaves (1, 1) greatest_limits lost_and_repeated_lines ((11, 11) ∷ []) 0
unfolding gained addresses block_at read_block no_handle_in stale_in helds_of deed_of seats_after asked_for begin block_entry compared data_of go is_same_block judged_in mark_entry on_bytes on_effect refusals_of asked_block least_epoch
lost_and_repeated_leaves = record { lists = refl; messages = refl }

-- a write and a read are judged again where their entry takes effect and where their bytes come
abbrev judged_again_lines : List Command
judged_again_lines =
    command.Client (op.Open a) ∷ command.Client (op.Write a (97 ∷ []) [] None) ∷ command.Settle ∷ command.Client (op.Write a (98 ∷ []) (0 ∷ []) None) ∷ command.Settle ∷
    command.Client op.Delete ∷ command.Settle ∷ command.Client op.Delete ∷ command.Client (op.Write a (98 ∷ []) (0 ∷ []) None) ∷ command.Client (op.Read a 0) ∷ command.Settle ∷
    command.Client op.Delete ∷ command.Client (op.Read a 0) ∷ command.Settle ∷ []

abbrev judged_again_told : List (Who × Reply)
judged_again_told =
    (who.Line 1, reply.Ok) ∷ (who.Line 2, reply.New 0 1) ∷ (who.Line 4, reply.New 1 1) ∷ (who.Line 6, reply.Run 2) ∷ (who.Shard 0, reply.Sweep 2 0) ∷ (who.Store, reply.Done 2) ∷
    (who.Line 10, reply.Busy 9) ∷ (who.Line 8, reply.Run 3) ∷ (who.Line 9, reply.Stale 0 1 3) ∷ (who.Shard 0, reply.Sweep 3 2) ∷ (who.Store, reply.Done 3) ∷
    (who.Line 13, reply.Stale 0 1 3) ∷ (who.Line 12, reply.Run 4) ∷ (who.Shard 0, reply.Sweep 4 0) ∷ (who.Store, reply.Done 4) ∷ []

judged_again : Says (1, 1) greatest_limits judged_again_lines judged_again_told None
unfolding gained addresses block_at read_block no_handle_in stale_in helds_of deed_of seats_after asked_for begin block_entry compared data_of go is_same_block judged_in mark_entry on_bytes on_effect refusals_of asked_block least_epoch
judged_again = record { told = refl; ended = refl }

judged_again_leaves : Leaves (1, 1) greatest_limits judged_again_lines ((14, 14) ∷ []) 0
unfolding gained addresses block_at read_block no_handle_in stale_in helds_of deed_of seats_after asked_for begin block_entry compared data_of go is_same_block judged_in mark_entry on_bytes on_effect refusals_of asked_block least_epoch
judged_again_leaves = record { lists = refl; messages = refl }

undelete_leaves : Leaves (1, 1) greatest_limits undelete_lines ((21, 21) ∷ []) 0
unfolding gained addresses block_at read_block no_handle_in stale_in helds_of deed_of seats_after asked_for begin block_entry compared data_of go is_same_block judged_in mark_entry on_bytes on_effect refusals_of asked_block least_epoch
undelete_leaves = record { lists = refl; messages = refl }

-- each shard's Enter is logged once
epochs_apart_leaves : Leaves (2, 1) greatest_limits epochs_apart_lines ((12, 12) ∷ (12, 12) ∷ []) 0
unfolding gained addresses block_at read_block no_handle_in stale_in helds_of deed_of seats_after asked_for begin block_entry compared data_of go is_same_block judged_in mark_entry on_bytes on_effect refusals_of asked_block least_epoch
epochs_apart_leaves = record { lists = refl; messages = refl }

-- round 0 of the second run is under way
round_zero_and_on_leaves : Leaves (1, 1) greatest_limits round_zero_and_on_lines ((5, 5) ∷ []) 1
unfolding gained addresses block_at read_block no_handle_in stale_in helds_of deed_of seats_after asked_for begin block_entry compared data_of go is_same_block judged_in mark_entry on_bytes on_effect refusals_of asked_block least_epoch
round_zero_and_on_leaves = record { lists = refl; messages = refl }

-- round 0 of the next run comes to shard 1 while it has not swept: it is logged, and no Enter is proposed
abbrev early_round_lines : List Command
early_round_lines = take 29 epochs_apart_lines ++ command.Deliver 10 ∷ command.Turn 1 ∷ command.Turn 1 ∷ []

early_round_lists : lists_of (does_lines 1 early_round_lines (opened (2, 1) greatest_limits)).core ≡ (8, 8) ∷ (5, 5) ∷ []
unfolding gained addresses block_at read_block no_handle_in stale_in helds_of deed_of seats_after asked_for begin block_entry compared data_of go is_same_block judged_in mark_entry on_bytes on_effect refusals_of asked_block least_epoch
early_round_lists = refl
