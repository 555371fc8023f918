-- Sound lists of a history without too many root records, and what may wait behind lists so that they stay so.
use Rattle.std.specs.Prelude.{◌≡◌, List, length, All}
use Rattle.hs_fold.specs.Shards.Parted.{Parted, done_lists, whole_lists}
use Rattle.hs_fold.specs.Shards.Setting.{Numbered, Setting}
use Rattle.hs_fold.specs.Shards.Sound.{HasRisingViews}
use Rattle.hs_fold.specs.Runs.History.{no_entries}
use Rattle.hs_fold.specs.Runs.Opened.{catalogues}
use Rattle.hs_fold.specs.Runs.Sound.{AreSound}
use Rattle.hs_joint.specs.Along.{KeepFewRecords}
use Rattle.hs_waiting.specs.Lists.{MayAllWait, pending_deeds}

-- lists are sound, by a history in which no shard has more root records than it takes, behind any entry
pub record AreSoundAlong (set : Setting) (lists : List Numbered) : Type 0 where
  pub sound : AreSound set lists
  pub records : KeepFewRecords set (no_entries set) sound.lawful.history

-- a list for each shard; what is behind of each may wait, leaves no shard with more root records than it takes, and lets no view fall
pub record MayStaySound (set : Setting) (lists : List Parted) : Type 0 where
  pub each : length lists ≡ set.shape.shards
  pub waits : MayAllWait (catalogues set 0 (done_lists lists)) 0 lists
  pub records : KeepFewRecords set (catalogues set 0 (done_lists lists)) (pending_deeds 0 lists)
  pub views : All HasRisingViews (whole_lists lists)
