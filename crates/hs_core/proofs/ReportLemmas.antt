-- A report is taken by the line of the job that it answers.
use Rattle.std.proofs.Common.{◌≡◌, ℕ, Bool, true, false, Option, Some, None, drop, refl}
use Rattle.std.specs.Prelude.{option_and_then, if◌then◌else◌}
use Rattle.hs_awaiting.specs.Words.{change_with, ◌▸◌}
use Rattle.hs_core_words.specs.declared.task.Task.{Task}
use Rattle.hs_core_words.specs.Changing.{set_tasks}
use Rattle.hs_core_state.specs.Handing.{answered_line}
use Rattle.hs_core_words.specs.Looking.{first_task, tasks_of}
use Rattle.hs_core_words.specs.Reporting.{on_report, take_report}
use Rattle.hs_core_words.specs.State.{Core}
use Rattle.hs_desk.specs.Answers.{answers}
use Rattle.hs_desk.specs.declared.done.Done.{Done}

-- what a report of a job for a line brings
abbrev pub taken_for : ℕ → Done → ℕ → Core → Core
taken_for peer d line core = core ▸ set_tasks peer (drop 1 (tasks_of peer core)) ▸ take_report peer line d

by_task : (peer : ℕ) (d : Done) (core : Core) (o : Option Task) → first_task peer core ≡ o
    → on_report peer d core ≡ change_with (option_and_then (λ task. if answers peer task.job d then Some task.line else None) o) (taken_for peer d) core
by_task peer d core None e = rw e refl
by_task peer d core (Some task) e = go (answers peer task.job d) refl
  where
    go : (b : Bool) → answers peer task.job d ≡ b
        → on_report peer d core ≡ change_with (if answers peer task.job d then Some task.line else None) (taken_for peer d) core
    go true a = rw (e, a) refl
    go false a = rw (e, a) refl

by_line : (peer : ℕ) (d : Done) (core : Core) → on_report peer d core ≡ change_with (answered_line peer d core) (taken_for peer d) core
by_line peer d core = by_task peer d core (first_task peer core) refl

pub report_some : (peer : ℕ) (d : Done) (line : ℕ) (core : Core) → answered_line peer d core ≡ Some line → on_report peer d core ≡ taken_for peer d line core
report_some peer d line core e = rw (by_line peer d core, e) refl

pub report_none : (peer : ℕ) (d : Done) (core : Core) → answered_line peer d core ≡ None → on_report peer d core ≡ core
report_none peer d core e = rw (by_line peer d core, e) refl
