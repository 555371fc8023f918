-- What the report of a job brings.
use Rattle.std.specs.Prelude.{ℕ, ◌==◌, Bool, false, List, Option, Some, None, drop}
use Rattle.hs_awaiting.specs.declared.wait.Wait.{Wait}
use Rattle.hs_awaiting.specs.declared.wait.Wait.TheVariants as wait
use Rattle.hs_awaiting.specs.declared.waiting.Waiting.{Waiting}
use Rattle.hs_awaiting.specs.Words.{change_if, change_with, ◌▸◌}
use Rattle.hs_core_words.specs.declared.task.Task.{Task}
use Rattle.hs_core_words.specs.Changing.{change_group, change_rejoin, post, set_tasks}
use Rattle.hs_core_words.specs.Effects.{commit}
use Rattle.hs_core_words.specs.Failing.{fail_disk}
use Rattle.hs_core_words.specs.Joining.{join_if_level}
use Rattle.hs_core_words.specs.Looking.{first_task, group_of, home, operation_of, tasks_of}
use Rattle.hs_core_words.specs.Operating.{go_on_with}
use Rattle.hs_core_words.specs.Seeing.{pointers_for}
use Rattle.hs_core_words.specs.State.{Core}
use Rattle.hs_desk.specs.declared.done.Done.{Done}
use Rattle.hs_desk.specs.declared.done.Done.TheVariants as done
use Rattle.hs_desk.specs.Answers.{answers}
use Rattle.hs_ops.specs.Operations.{bytes_step}
use Rattle.hs_rejoin.specs.Rejoin.{copied, emptied}
use Rattle.hs_replica.specs.Group.{have, on_copied, on_emptied, on_sealed}

-- whether what is waited for are the bytes of this entry
abbrev pub is_reading : ℕ → Wait → Bool
is_reading number (wait.Bytes m) = m == number
is_reading number other = false

-- the bytes of an entry, or that it is gone, are for the operation of their line, where it still waits for them
abbrev pub tell_bytes : ℕ → ℕ → Option (List ℕ) → Core → Core
tell_bytes line number bytes core = core ▸ change_with (operation_of line core) (λ w. change_if (is_reading number w.wait) (tell w))
  where
    tell : Waiting → Core → Core
    tell w core = go_on_with (λ v o. bytes_step v bytes (pointers_for w.shard w.operation.op core) o) line core

-- a peer has sealed an entry: another than the lead sends a Have, and what is committed takes effect
abbrev pub take_sealed : ℕ → ℕ → Core → Core
take_sealed peer number core =
    core ▸ post (have peer number (group_of (home peer core) core))
    ▸ change_group (home peer core) (on_sealed peer number) ▸ commit (home peer core)

-- a joining peer's disk was emptied, or got an entry more
abbrev pub take_emptied : ℕ → Core → Core
take_emptied peer core =
    core ▸ change_rejoin peer emptied ▸ change_group (home peer core) (on_emptied peer) ▸ join_if_level peer

abbrev pub take_copied : ℕ → ℕ → Core → Core
take_copied peer number core =
    core ▸ change_rejoin peer (copied number) ▸ change_group (home peer core) (on_copied peer number) ▸ join_if_level peer

-- by the kind of the report; a Read is for the operation of its line
abbrev pub take_report : ℕ → ℕ → Done → Core → Core
take_report peer line (done.Stored number) core = core
take_report peer line (done.Sealed number) core = take_sealed peer number core
take_report peer line (done.Bytes number bytes) core = tell_bytes line number (Some bytes) core
take_report peer line (done.Gone number) core = tell_bytes line number None core
take_report peer line done.Emptied core = take_emptied peer core
take_report peer line (done.Copied number) core = take_copied peer number core
take_report peer line (done.Stepped switched) core = core
take_report peer line (done.Failed disk) core = fail_disk disk core

-- a report is taken where it answers the peer's first job, which is then taken out; else it changes nothing
abbrev pub on_report : ℕ → Done → Core → Core
on_report peer d core = core ▸ change_with (first_task peer core) (λ task. change_if (answers peer task.job d) (take task))
  where
    take : Task → Core → Core
    take task core = core ▸ set_tasks peer (drop 1 (tasks_of peer core)) ▸ take_report peer task.line d
