-- In whose queue a job that reads stands.
use Rattle.std.specs.BTreeMap.{is_at}
use Rattle.std.specs.List.{AllByRecursion}
use Rattle.std.specs.Map.{lookup}
use Rattle.std.specs.Ordering.{nat_cmp}
use Rattle.std.specs.Prelude.{◌≡◌, ℕ, ◌≤◌, List, Some}
use Rattle.hs_awaiting.specs.declared.waiting.Waiting.{Waiting}
use Rattle.hs_core_words.specs.declared.task.Task.{Task}
use Rattle.hs_core_words.specs.Looking.{home, operation_of, tasks_of}
use Rattle.hs_core_words.specs.State.{Core}
use Rattle.hs_desk.specs.declared.job.Job.TheVariants as job

-- a job that reads for a line up to this one, in the queue of a peer of a shard: the operation of its line is one of that shard, where it has no answer
abbrev pub IsAtHome : List (ℕ × Waiting) → ℕ → ℕ → Task → Type 0
IsAtHome operations last shard task =
    (number : ℕ) → task.job ≡ job.Read number → (task.line ≤ last) × ((w : Waiting) → lookup (is_at (nat_cmp task.line)) operations ≡ Some w → w.shard ≡ shard)

-- so it is with each job of each peer; and each operation without an answer is of a line up to that of the last event
pub record AreAtHome (core : Core) : Type 0 where
  pub begun : (line : ℕ) (w : Waiting) → operation_of line core ≡ Some w → line ≤ core.progress.event_line
  pub jobs : (peer : ℕ) → AllByRecursion (IsAtHome core.operations core.progress.event_line (home peer core)) (tasks_of peer core)
