-- What images that count at a moment of a run reopen at.
use Rattle.std.specs.Prelude.{All, AllPairs, List, Option, map, ◌≡◌, ◌≢◌}
use Rattle.hs_entry.specs.declared.entry.Entry.{Entry}
use Rattle.hs_events.specs.Taken.{or_blank, taken_lists}
use Rattle.hs_fold.specs.Good.{taken_below}
use Rattle.hs_fold.specs.Runs.Opened.{opened}
use Rattle.hs_fold.specs.Shards.Happening.{Happening, happen_all, happenings}
use Rattle.hs_fold.specs.Shards.Images.{Image, Stop}
use Rattle.hs_fold.specs.Shards.Pending.{AreOneRun, changing_lines}
use Rattle.hs_fold.specs.Shards.Setting.{Numbered}
use Rattle.hs_journal.specs.declared.entry.JournalEntry.{JournalEntry}
use Rattle.hs_model.specs.Store.{reborn}
use Rattle.hs_side.specs.Current.{list_in}
use Rattle.hs_sound.specs.Stay.{AreSoundAlong}
use Rattle.hs_fold.specs.Shards.Outstanding.{MayPend, pending}
use Rattle.hs_standing.specs.Start.{IsAwaited, Start, events_in, store_after}

-- the logs of images, and what is pending of them: the entries behind the last that took effect below the moment
abbrev pub image_logs : List Image → List (Option Numbered)
image_logs images = map list_in images

abbrev pub pending_at : Start → Stop → List Image → List (Entry × Option Happening)
pending_at start stop images = pending start.set (taken_below stop.course stop.moment) 0 (taken_lists start.set.shape (image_logs images))

-- where this was answered below the moment of a stop: the images open at the store behind it and then what is pending, all of it one legal run, and the next run may begin with them
pub record Reopens (start : Start) (stop : Stop) (journal : List JournalEntry) (images : List Image) : Type 0 where
  pub stands : opened start.set (or_blank (image_logs images)) ≡ reborn (happen_all (store_after start journal) (happenings (pending_at start stop images)))
  pub legal : AreOneRun start.set.limits start.entry (events_in start journal) (happenings (pending_at start stop images))
  pub sound : AreSoundAlong start.set (taken_lists start.set.shape (image_logs images))
  pub awaited : All (λ e. MayPend (IsAwaited start stop journal) e.0) (pending_at start stop images)
  pub once : AllPairs (λ one other. one ≢ other) (changing_lines (pending_at start stop images))
