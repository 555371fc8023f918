-- What stands behind the joins.
use Rattle.std.specs.Prelude.{◌≡◌, ◌≤◌, ◌*◌, ℕ, [], List, None, Option, Some, slice_get, slice_index_or}
use Rattle.hs_book.specs.Book.{Book}
use Rattle.hs_book.specs.History.{IsBook, NobodyJoins}
use Rattle.hs_core_words.specs.State.{Core}
use Rattle.hs_peerlog.specs.Lists.{Keeping}
use Rattle.hs_promise.specs.declared.load.Stored.{Stored}
use Rattle.hs_taking.specs.Disks.{DiskSeen}
use Rattle.hs_load.specs.declared.handing.Askers.{Askers}
use Rattle.hs_load.specs.declared.handing.Peers.{Peers}
use Rattle.hs_load.specs.declared.working.Apart.{Apart}
use Rattle.hs_load.specs.declared.working.Joined.{Joined}
use Rattle.hs_load.specs.Compared.{PartAt}
use Rattle.hs_load.specs.Judged.{AreReported, HaveWorked, Team}
use Rattle.hs_load.specs.Team.{Task}

-- those that worked, as they were handed back
abbrev pub team_of : Peers → Askers → Team
team_of peers askers = record { stored = peers.stored.items; stops = peers.stops.items; logs = peers.logs.items; kept = askers.kept.items; ends = askers.ends.items }

-- a core that goes on, of which nobody joins, with a place for the log of each of its peers and a disk of each, at a moment that is not before its own
pub record MayGoOn (core : Core) (slots count now : ℕ) : Type 0 where
  pub going : core.ended ≡ None
  pub calm : NobodyJoins core
  pub logs : slots ≡ core.members.shape.shards * core.members.shape.copies
  pub disks : count ≡ core.members.shape.shards * core.members.shape.copies
  pub moment : core.moment ≤ now

-- where the numbers of a peer part from those that the book has
pub record IsApartAt (stored : List Stored) (book : Book) (a : Apart) : Type 0 where
  pub given : Stored
  pub there : slice_get stored a.peer ≡ Some given
  pub part : PartAt a.place given.numbers (slice_index_or book.reported a.peer [])
  pub told : a.told ≡ slice_get given.numbers a.place
  pub kept : a.kept ≡ slice_get (slice_index_or book.reported a.peer []) a.place

abbrev pub IsApart : List Stored → Book → Option Apart → Type 0
IsApart stored book None = AreReported stored book
IsApart stored book (Some a) = IsApartAt stored book a

-- the book's events led from a core to the one that came out, and its numbers were compared with those of the peers
pub record HasBook (start : Core) (joined : Joined) (book : Book) : Type 0 where
  pub is : IsBook start book
  pub core : joined.core ≡ book.core
  pub ended : joined.ended ≡ book.ended
  pub apart : IsApart joined.peers.stored.items book joined.apart

-- and those that worked have their ends
pub record HasJoined (tells : Type 0) (task : Task) (start : Core) (slots : List (Option Keeping)) (disks left : List DiskSeen) (joined : Joined) : Type 0 where
  pub book : Book
  pub kept : HasBook start joined book
  pub worked : HaveWorked tells task slots disks left (team_of joined.peers joined.askers)
