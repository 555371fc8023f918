-- What a cluster keeps.
use Rattle.std.specs.Prelude.{List, Option}
use Rattle.hs_cache.specs.Cached.{Cached}
use Rattle.hs_core_words.specs.State.{Core}
use Rattle.hs_model.specs.declared.course.CourseItem.{CourseItem}
use Rattle.hs_peerlog.specs.Lists.{Keeping}

-- logs: by peer, that of its disk, where it is in use; course: what happened so far beside the answers; cache: the blocks that were read lately, where there is a cache
pub record Running : Type 0 where
  pub core : Core
  pub logs : List (Option Keeping)
  pub course : List CourseItem
  pub cache : Option Cached
