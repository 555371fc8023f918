-- That the counts of disks rise by all that is reported of failed calls.
use Rattle.std.specs.Prelude.{ℕ, ◌+◌, true}
use Rattle.hs_events.specs.Found.{first_core}
use Rattle.hs_events.specs.Reports.{failures}
use Rattle.hs_promise.specs.Machine.{loss_count}
use Rattle.hs_promise.specs.Run.{DiskRose, Ran, Script}
use Rattle.hs_promise.specs.Story.{Story, all_events}

-- each disk's count rose by all failed calls that its reports tell, of reads too, and by its loss before the core was opened, where its log was the taken one (`failed` of `IsOfDisks` in hs_promise)
abbrev pub CountsAllFailures : Script → Ran → Story → Type 0
CountsAllFailures S r story = (disk : ℕ) → DiskRose r (failures true disk (first_core S.set story.found) (all_events story) + loss_count story disk) disk
