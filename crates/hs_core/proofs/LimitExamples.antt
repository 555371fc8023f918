-- Scripts of the rules on refusals, computed: what the journal tells, and how the core ends.
use Rattle.std.proofs.Common.{◌≡◌, ℕ, List, [], ◌∷◌, Option, Some, None, refl, true}
use Rattle.hs_core.proofs.Driving.{Says, tail_name}
use Rattle.hs_desk.specs.declared.fault.CoreFault.TheVariants as fault
use Rattle.hs_journal.specs.declared.entry.Who.{Who}
use Rattle.hs_journal.specs.declared.entry.Who.TheVariants as who
use Rattle.hs_limits.specs.Block.{spell}
use Rattle.hs_limits.specs.Limits.{greatest_limits}
use Rattle.hs_limits.specs.Reading.{addresses, block_at, read_block}
use Rattle.hs_model.specs.declared.command.Command.{Command}
use Rattle.hs_model.specs.declared.command.Command.TheVariants as command
use Rattle.hs_model.specs.declared.op.Op.TheVariants as op
use Rattle.hs_model.specs.declared.reply.Reply.{Reply}
use Rattle.hs_model.specs.declared.reply.Reply.TheVariants as reply
use Rattle.hs_model.specs.Refusals.{no_handle_in, stale_in}
use Rattle.hs_model.specs.Store.{helds_of}
use Rattle.hs_ops.specs.Answers.{deed_of, gained, seats_after}
use Rattle.hs_ops.specs.Going.{asked_for, begin, block_entry, compared, data_of, go, is_same_block, judged_in, mark_entry, on_bytes, on_effect}
use Rattle.hs_ops.specs.Refusals.{refusals_of}
use Rattle.hs_ops.specs.Speaking.{asked_block, least_epoch}

-- sessions and keys
abbrev a : List ℕ
a = 97 ∷ []

abbrev b : List ℕ
b = 98 ∷ []

abbrev c : List ℕ
c = 99 ∷ []

abbrev d : List ℕ
d = 100 ∷ []

abbrev j : List ℕ
j = 106 ∷ []

abbrev k : List ℕ
k = 107 ∷ []

abbrev z : List ℕ
z = 122 ∷ []

-- open a / open b / open c / open d
abbrev small_limits_lines : List Command
small_limits_lines =
    command.Client (op.Open a) ∷ command.Client (op.Open b) ∷ command.Client (op.Open c) ∷ command.Client (op.Open d) ∷ []

abbrev small_limits_told : List (Who × Reply)
small_limits_told =
    (who.Line 1, reply.Ok) ∷ (who.Line 2, reply.Ok) ∷ (who.Line 3, reply.Ok) ∷ []

small_limits : Says (1, 1) (record greatest_limits { ops = 3 }) small_limits_lines small_limits_told (Some fault.OpsFull)
unfolding gained addresses block_at read_block no_handle_in stale_in helds_of deed_of seats_after asked_for begin block_entry compared data_of go is_same_block judged_in mark_entry on_bytes on_effect refusals_of asked_block least_epoch
small_limits = record { told = refl; ended = refl }

-- delete
abbrev first_epoch_only_lines : List Command
first_epoch_only_lines =
    command.Client op.Delete ∷ []

abbrev first_epoch_only_told : List (Who × Reply)
first_epoch_only_told =
    (who.Line 1, reply.EpochEnd 1) ∷ []

first_epoch_only : Says (1, 1) (record greatest_limits { epochs = 1 }) first_epoch_only_lines first_epoch_only_told (None)
unfolding gained addresses block_at read_block no_handle_in stale_in helds_of deed_of seats_after asked_for begin block_entry compared data_of go is_same_block judged_in mark_entry on_bytes on_effect refusals_of asked_block least_epoch
first_epoch_only = record { told = refl; ended = refl }

-- write a 61 / open a / open a / open b / open c / write a 61 / write a 62 / settle / write a 62 h5 / write a 62 / settle / write a 63 / write b 63 / wr
abbrev refusals_lines : List Command
refusals_lines =
    command.Client (op.Write a (97 ∷ []) [] None) ∷ command.Client (op.Open a) ∷ command.Client (op.Open a) ∷ command.Client (op.Open b) ∷ command.Client (op.Open c) ∷
    command.Client (op.Write a (97 ∷ []) [] None) ∷ command.Client (op.Write a (98 ∷ []) [] None) ∷ command.Settle ∷
    command.Client (op.Write a (98 ∷ []) (5 ∷ []) None) ∷ command.Client (op.Write a (98 ∷ []) [] None) ∷ command.Settle ∷
    command.Client (op.Write a (99 ∷ []) [] None) ∷ command.Client (op.Write b (99 ∷ []) [] None) ∷ command.Client (op.Write b (97 ∷ []) [] None) ∷ command.Settle ∷
    command.Client (op.Look b k) ∷ command.Client (op.Root a k 0) ∷ command.Settle ∷ command.Client (op.Root a k 1) ∷ command.Client (op.Root a j 1) ∷
    command.Client (op.Root a k 0) ∷ command.Client (op.Look b k) ∷ command.Client (op.Forget b 0) ∷ command.Client (op.Forget b 0) ∷ command.Client op.Delete ∷
    command.Client op.Delete ∷ command.Settle ∷ command.Client (op.Drop z) ∷ command.Turn 4 ∷ command.Start 0 ∷ command.Client (op.Close b) ∷
    command.Client (op.Read b 0) ∷ []

abbrev refusals_told : List (Who × Reply)
refusals_told =
    (who.Line 1, reply.NoSession a) ∷ (who.Line 2, reply.Ok) ∷ (who.Line 3, reply.SessionTaken a) ∷ (who.Line 4, reply.Ok) ∷ (who.Line 5, reply.SessionsFull 2) ∷
    (who.Line 7, reply.Busy 6) ∷ (who.Line 6, reply.New 0 1) ∷ (who.Line 9, reply.NoHandle 5) ∷ (who.Line 10, reply.New 1 1) ∷ (who.Line 12, reply.HandlesFull 2) ∷
    (who.Line 13, reply.ShardFull 2) ∷ (who.Line 14, reply.Dup 0 1) ∷ (who.Line 16, reply.NoKey k) ∷ (who.Line 17, reply.Ok) ∷ (who.Line 19, reply.KeyTaken k) ∷
    (who.Line 20, reply.RootsFull 1) ∷ (who.Line 21, reply.Ok) ∷ (who.Line 22, reply.Held 1 1) ∷ (who.Line 23, reply.Ok) ∷ (who.Line 24, reply.NoHandle 0) ∷
    (who.Line 25, reply.Run 2) ∷ (who.Line 26, reply.Running 2) ∷ (who.Shard 0, reply.Sweep 2 0) ∷ (who.Store, reply.Done 2) ∷ (who.Line 28, reply.NoKey z) ∷
    (who.Line 29, reply.NoPeer 4) ∷ (who.Line 30, reply.NotDown 0) ∷ (who.Line 31, reply.Ok) ∷ (who.Line 32, reply.NoSession b) ∷ []

refusals : Says (1, 1) (record greatest_limits { sessions = 2; handles = 2; blocks = 2; roots = 1 }) refusals_lines refusals_told (None)
unfolding gained addresses block_at read_block no_handle_in stale_in helds_of deed_of seats_after asked_for begin block_entry compared data_of go is_same_block judged_in mark_entry on_bytes on_effect refusals_of asked_block least_epoch
refusals = record { told = refl; ended = refl }

-- a core that has ended does nothing more: the last copy's failure is not heard of
abbrev full_and_on_lines : List Command
full_and_on_lines = command.Client (op.Open a) ∷ command.Client (op.Open b) ∷ command.Client (op.Open c) ∷ command.Client (op.Open d) ∷ command.Fail 0 ∷ []

full_and_on : Says (1, 1) (record greatest_limits { ops = 3 }) full_and_on_lines small_limits_told (Some fault.OpsFull)
unfolding gained addresses block_at read_block no_handle_in stale_in helds_of deed_of seats_after asked_for begin block_entry compared data_of go is_same_block judged_in mark_entry on_bytes on_effect refusals_of asked_block least_epoch
full_and_on = record { told = refl; ended = refl }
