-- The run over all that waits behind a lawful history.
use Rattle.std.proofs.Common.{ℕ, List}
use Rattle.hs_limits.specs.Shape.{IsShape}
use Rattle.hs_fold.specs.Lawful.{Deed}
use Rattle.hs_fold.specs.Shards.Setting.{Setting}
use Rattle.hs_fold.specs.Runs.History.{follow_all, FitAll, no_entries}
use Rattle.hs_joint.specs.Along.{KeepFewRecords}
use Rattle.hs_joint.proofs.HistoryLemmas.{shape_some, shape_few, history_goes}
use Rattle.hs_waiting.specs.Waits.{AllWait}
use Rattle.hs_waiting.proofs.RunLemmas.{all_beside, RunsAll, runs_all}

pub history_runs : (set : Setting) (history deeds : List Deed) (front : ℕ → ℕ) (shape : IsShape set.shape) → FitAll set (no_entries set) history → KeepFewRecords set (no_entries set) history → AllWait set front (follow_all set (no_entries set) history) deeds → KeepFewRecords set (follow_all set (no_entries set) history) deeds
    → RunsAll set (shape_some set.shape shape) (follow_all set (no_entries set) history) deeds
history_runs set history deeds front shape fit records waits more =
    let some = shape_some set.shape shape in
    let g = history_goes set some (shape_few set.shape shape) history fit records in
    runs_all set some (shape_few set.shape shape) front deeds (follow_all set (no_entries set) history) g.later g.standing g.valid (all_beside set some front (follow_all set (no_entries set) history) g.later g.standing deeds waits) more
