-- What a run hands back, as the run that is promised.
use Rattle.std.specs.Prelude.{List, None, Option, Some, [], if◌then◌else◌, ℕ}
use Rattle.hs_cluster.specs.Running.{Running}
use Rattle.hs_journal.specs.declared.entry.JournalEntry.{JournalEntry}
use Rattle.hs_model.specs.declared.course.CourseItem.{CourseItem}
use Rattle.hs_ports.specs.Objects.{Objects}
use Rattle.hs_promise.specs.declared.status.Status.{Status}
use Rattle.hs_promise.specs.Ending.{ending_of}
use Rattle.hs_promise.specs.Run.{Ran}

-- what was answered; nothing where no core was opened
abbrev pub journal_in : Option Running → List JournalEntry
journal_in None = []
journal_in (Some cluster) = cluster.core.journal

-- what happened beside that
abbrev pub course_in : Option Running → List CourseItem
course_in None = []
course_in (Some cluster) = cluster.course

-- the entries of the event that the journal had no room for, where the run ended so
abbrev pub refused_in : Status → Option Running → List JournalEntry
refused_in ending None = []
refused_in ending (Some cluster) = if (ending_of ending).full then cluster.core.refused else []

-- a run that ended so behind this line, with this cluster, between these objects at entry and at the end
abbrev pub ran_at : Status → ℕ → Option Running → Objects → Objects → Ran
ran_at ending line cluster old new = record {
  ending = ending;
  line = line;
  journal = journal_in cluster;
  kept = [];
  stored = [];
  refused = refused_in ending cluster;
  course = course_in cluster;
  old = old;
  new = new;
}
