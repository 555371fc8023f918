-- What the list of a log amounts to.
use Rattle.std.specs.Prelude.{◌≡◌, [], Bool, true, false}
use Rattle.hs_entry.specs.Entries.{rank_of}
use Rattle.hs_fold.specs.Shards.Setting.{Numbered}
use Rattle.hs_peerlog.specs.declared.fault.LogFault.{LogFault}
use Rattle.hs_peerlog.specs.declared.fault.LogFault.TheVariants.{NotALog, WrongShape, Disk, NoMemory}
use Rattle.hs_shard.specs.Facts.{Catalogue}
use Rattle.hs_taking.specs.declared.loading.Loaded.{Loaded}

-- some list was read and folded so; where the disk tells its contents it is the one that is so
pub record IsLoaded (tells : Type 0) (fold : Numbered → Catalogue) (is_whole : Numbered → Type 0) (loaded : Loaded) : Type 0 where
  pub list : Numbered
  pub catalogue : loaded.catalogue ≡ fold list
  pub rank : loaded.rank ≡ rank_of list
  pub told : tells → (whole : Numbered) → is_whole whole → list ≡ whole
  -- none of the least rank but the empty one
  pub blank : loaded.rank.number ≡ 0 → list ≡ []

-- whether memory ran out
abbrev pub is_memory : LogFault → Bool
is_memory (NotALog at) = false
is_memory (WrongShape found) = false
is_memory Disk = false
is_memory NoMemory = true
