-- A disk that is only read.
use Rattle.std.specs.Prelude.{◌≡◌, ℕ, List, [], length, None, Some}
use Rattle.hs_ports.specs.declared.disk.Side.{Side}
use Rattle.hs_ports.specs.Disk.{Standing}
use Rattle.hs_entry.specs.declared.entry.Entry.{Entry}
use Rattle.hs_entry.specs.declared.rank.Rank.{Rank}
use Rattle.hs_entry.specs.Entries.{rank_of}
use Rattle.hs_side.specs.Current.{list_in}
use Rattle.hs_side.specs.Standing.{SideState, Stands}
use Rattle.hs_peerlog.specs.Images.{IsAlone}
use Rattle.hs_peerlog.specs.Lists.{HasFrames, IsNumbered}

-- what a value of a view keeps: its current side's log, and the rank of its list
pub record Viewing : Type 0 where
  pub log : SideState
  pub rank : Rank

-- the view has the list that the disk gives, of two blank sides the empty one
pub record HasView (viewing : Viewing) (seen : Side → List ℕ) (list : List (ℕ × Entry)) : Type 0 where
  pub listed : list_in seen ≡ Some list
  pub frames : HasFrames viewing.log.places (seen viewing.log.side) list
  pub numbered : IsNumbered list
  pub rank : viewing.rank ≡ rank_of list

-- so with some list
pub record HasSomeView (viewing : Viewing) (seen : Side → List ℕ) : Type 0 where
  pub list : List (ℕ × Entry)
  pub has : HasView viewing seen list

-- the disk stands as it was read: the side of the view is current, and all of both is on the medium;
-- whatever the disk tells, the number of the last entry tells how many there are
pub record IsAsViewed (tells : Type 0) (viewing : Viewing) (size : ℕ) (disk : Standing) : Type 0 where
  pub stands : Stands tells viewing.log size disk
  pub rests : viewing.log.waiting ≡ None
  pub counted : viewing.rank.number ≡ length viewing.log.places
  pub empty : viewing.log.head ≡ None → viewing.log.places ≡ []
  pub alone : tells → IsAlone viewing.log.side disk
  pub told : tells → HasSomeView viewing disk.seen
