-- The single changes of the core, of which every event is made.
use Rattle.std.specs.BTreeMap.{insert_entry, is_at}
use Rattle.std.specs.Map.{remove_entry, set_value}
use Rattle.std.specs.Option.{option_map}
use Rattle.std.specs.Ordering.{nat_cmp}
use Rattle.std.specs.Prelude.{ℕ, ◌+◌, ◌++◌, Bool, List, [], ◌∷◌, Option, slice_set}
use Rattle.hs_awaiting.specs.declared.wait.Wait.{Wait}
use Rattle.hs_awaiting.specs.declared.waiting.Waiting.{Waiting}
use Rattle.hs_awaiting.specs.Words.{change_with, ◌▸◌}
use Rattle.hs_core_words.specs.declared.task.Task.{Task}
use Rattle.hs_core_words.specs.Looking.{group_of, operation_of, rejoin_of, tasks_of}
use Rattle.hs_core_words.specs.State.{Core}
use Rattle.hs_desk.specs.declared.job.Job.TheVariants as job
use Rattle.hs_entry.specs.declared.entry.Entry.{Entry}
use Rattle.hs_journal.specs.declared.entry.Who.{Who}
use Rattle.hs_journal.specs.declared.entry.Who.TheVariants as who
use Rattle.hs_limits.specs.declared.limits.PeerStatus.{PeerStatus}
use Rattle.hs_members.specs.Members.{become}
use Rattle.hs_model.specs.declared.deed.Deed.{Deed}
use Rattle.hs_model.specs.declared.deed.Deed.TheVariants as deed
use Rattle.hs_model.specs.declared.reply.Reply.{Reply}
use Rattle.hs_post.specs.declared.message.Message.{Message}
use Rattle.hs_post.specs.Pool.{Pool}
use Rattle.hs_rejoin.specs.Rejoin.{Rejoin}
use Rattle.hs_replica.specs.Group.{Group, send_all}
use Rattle.hs_shard.specs.Facts.{Catalogue}

-- ---- a shard

abbrev pub set_catalogue : ℕ → Catalogue → Core → Core
set_catalogue shard c core = record core { catalogues = slice_set core.catalogues shard c }

abbrev pub change_group : ℕ → (Group → Group) → Core → Core
change_group shard f core = record core { groups = slice_set core.groups shard (f (group_of shard core)) }

abbrev pub set_viewed : ℕ → Bool → Core → Core
set_viewed shard now core = record core { progress = record core.progress { viewed = slice_set core.progress.viewed shard now } }

-- ---- a peer

-- another status; its shard's view rises where the good peers change
abbrev pub set_status : ℕ → PeerStatus → Core → Core
set_status peer new core = record core { members = become peer new core.members }

abbrev pub set_tasks : ℕ → List Task → Core → Core
set_tasks peer tasks core = record core { tasks = slice_set core.tasks peer tasks }

abbrev pub add_task : ℕ → Task → Core → Core
add_task peer task core = set_tasks peer (tasks_of peer core ++ task ∷ []) core

-- a taken entry makes two jobs: it is appended, then sealed
abbrev pub add_entry_tasks : ℕ → ℕ → Entry → Core → Core
add_entry_tasks peer number entry core =
    core ▸ add_task peer (record { job = job.Append number entry; line = 0 })
    ▸ add_task peer (record { job = job.Seal number; line = 0 })

abbrev pub set_rejoin : ℕ → Option Rejoin → Core → Core
set_rejoin peer rejoin core = record core { progress = record core.progress { rejoins = slice_set core.progress.rejoins peer rejoin } }

abbrev pub change_rejoin : ℕ → (Rejoin → Rejoin) → Core → Core
change_rejoin peer f core = set_rejoin peer (option_map f (rejoin_of peer core)) core

-- ---- messages

abbrev pub change_pool : (Pool → Pool) → Core → Core
change_pool f core = record core { pool = f core.pool }

abbrev pub post : List Message → Core → Core
post messages core = change_pool (send_all messages) core

-- ---- operations

abbrev pub add_operation : ℕ → Waiting → Core → Core
add_operation line waiting core = record core { operations = insert_entry nat_cmp core.operations line waiting }

-- an operation that has no answer, put into the place of what it was
abbrev pub put_operation : ℕ → Waiting → Core → Core
put_operation line waiting core = record core { operations = set_value (is_at (nat_cmp line)) core.operations waiting }

abbrev pub end_operation : ℕ → Core → Core
end_operation line core = record core { operations = remove_entry (is_at (nat_cmp line)) core.operations }

-- ---- what is told

-- an entry of the journal, at the event's moment
abbrev pub note : Who → Deed → Reply → Core → Core
note who deed reply core =
    record core { entries = core.entries ++ record { who = who; moment = core.moment; deed = deed; reply = reply } ∷ [] }

-- the refusal of a line that is not a client's
abbrev pub refuse : ℕ → Reply → Core → Core
refuse line reply core = note (who.Line line) deed.Nothing reply core
