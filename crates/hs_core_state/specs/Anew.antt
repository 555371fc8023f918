-- What a new view makes of a core at once, where no operation is without an answer: for private clauses.
use Rattle.std.specs.Prelude.{ℕ, false, List, [], ◌∷◌, ◌++◌, slice_set}
use Rattle.hs_awaiting.specs.Words.{change_with, ◌▸◌}
use Rattle.hs_core_state.specs.declared.lists.Lists.{Lists}
use Rattle.hs_core_words.specs.declared.task.Task.{Task}
use Rattle.hs_core_words.specs.Changing.{add_entry_tasks}
use Rattle.hs_core_state.specs.Keeping.{AreLists}
use Rattle.hs_core_words.specs.Looking.{group_of, lead_of}
use Rattle.hs_core_words.specs.State.{Core}
use Rattle.hs_desk.specs.declared.job.Job.TheVariants as job
use Rattle.hs_entry.specs.declared.entry.Entry.TheVariants as kind
use Rattle.hs_members.specs.Members.{view_of}
use Rattle.hs_replica.specs.Group.{Group, last_number, on_view, send_all, view_messages}

-- a core with the lists that it opens with
abbrev pub with_lists : Lists → Core → Core
with_lists lists core = record core {
  members = lists.members;
  groups = lists.groups.items;
  progress = record core.progress { viewed = lists.viewed.items };
  pool = lists.pool;
  tasks = lists.tasks.items;
}

-- they are those of all shards and peers
abbrev pub AreOfAll : Lists → Type 0
AreOfAll lists = AreLists lists.members lists.groups.items lists.fronts.items lists.viewed.items lists.tasks.items

-- the copies of a shard in the new view
abbrev pub group_anew : ℕ → Core → Group
group_anew shard core = on_view core.members (group_of shard core)

-- the copies are told, and the messages of the view are sent
abbrev pub told_anew : ℕ → Core → Core
told_anew shard core = record core {
  progress = record core.progress { viewed = slice_set core.progress.viewed shard false };
  groups = slice_set core.groups shard (group_anew shard core);
  pool = send_all (view_messages core.members (group_of shard core)) core.pool;
}

-- and the lead has the jobs of the View
abbrev pub viewed_anew : ℕ → Core → Core
viewed_anew shard core =
    told_anew shard core
    ▸ change_with (lead_of shard core) (λ peer. add_entry_tasks peer (last_number (group_anew shard core)) (kind.View (view_of shard core.members)))

-- the jobs of a peer with those of a View behind them
abbrev pub view_tasks : ℕ → ℕ → List Task → List Task
view_tasks number view tasks =
    (tasks ++ record { job = job.Append number (kind.View view); line = 0 } ∷ []) ++ record { job = job.Seal number; line = 0 } ∷ []
