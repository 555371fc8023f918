-- That the last lines of a load are begun, but for want of memory or of numbers.
use Rattle.std.specs.Prelude.{◌≡◌, ◌^◌, ◌≤◌, ⊤, ℕ, List, Option}
use Rattle.hs_book.specs.Book.{Book}
use Rattle.hs_cluster.specs.Opens.{Finds}
use Rattle.hs_core_words.specs.State.{Core}
use Rattle.hs_events.specs.Found.{Found}
use Rattle.hs_limits.specs.declared.address.Address.{Address}
use Rattle.hs_limits.specs.declared.shape.Shape.{Shape}
use Rattle.hs_load.specs.Judged.{Load, Team}
use Rattle.hs_load.specs.Loaded.{Close, Cut, Empty, EndsLoad, EndsTeam, EndsWork, Full, Handed, IsLoaded, Judged, Shut, Summed, Unfit, Unopened, Unworked, Wanting, Worked, close_of, handed_of, load_of}
use Rattle.hs_peerlog.specs.Lists.{Keeping}
use Rattle.hs_promise.specs.Run.{Ran}
use Rattle.hs_sound.specs.Stay.{AreSoundAlong}
use Rattle.hs_standing.specs.Held.{GivesAddresses}
use Rattle.hs_standing.specs.Lists.{whole_from}
use Rattle.hs_standing.specs.Opening.{opened_lists}
use Rattle.hs_taking.specs.Disks.{DiskSeen, seen_at}

-- where the last lines can't be begun, the number of a line would be too great
abbrev pub FitsWork : (tells : Type 0) (load : Load) (book : Book) (team : Team) (left new : List DiskSeen) (core : Core) (c : Close) → EndsWork tells load book team left new core c → Type 0
FitsWork tells load book team left new core c (Wanting is none at calm) = Unit {0}
FitsWork tells load book team left new core c (Unfit same unfit is none at calm) = 2 ^ 62 ≤ book.core.progress.last_line
FitsWork tells load book team left new core c (Judged rested judged none at calm) = Unit {0}
FitsWork tells load book team left new core c (Cut f same runs is none) = Unit {0}
FitsWork tells load book team left new core c (Summed same runs puts) = Unit {0}

abbrev pub FitsTeam : (tells : Type 0) (load : Load) (start : Core) (slots : List (Option Keeping)) (disks new : List DiskSeen) (h : Handed) (c : Close) → EndsTeam tells load start slots disks new h c → Type 0
FitsTeam tells load start slots disks new h c (Unworked is none kept stored) = Unit {0}
FitsTeam tells load start slots disks new h c (Worked w) = FitsWork tells load w.book w.team w.left new w.last c w.ends

-- so it is where the disks tell their contents, no call of one was ahead at entry, and the lists with which the load opened are sound
pub record FitsOpened (tells : Type 0) (load : Load) (before : ℕ) (old : List DiskSeen) (Ends : Type 0) : Type 0 where
  pub found : Found
  pub disks : List DiskSeen
  pub slots : List (Option Keeping)
  pub finds : Finds tells load.set (record { before = before; now = found.opened; old = old; new = disks }) found slots
  pub fits : tells → GivesAddresses load.set.name → ((peer : ℕ) → (seen_at old peer).stands.last ≤ before) → AreSoundAlong load.set (whole_from (opened_lists load.set found) 0 load.set.shape.shards) → Ends

abbrev pub FitsLoad : (tells : Type 0) (load : Load) (before : ℕ) (old new : List DiskSeen) (h : Handed) (c : Close) → EndsLoad tells load before old new h c → Type 0
FitsLoad tells load before old new h c (Unopened f closed falls is none same) = Unit {0}
FitsLoad tells load before old new h c (Shut now cluster f opened is none same) = Unit {0}
FitsLoad tells load before old new h c (Full now cluster opened some is none same) = Unit {0}
FitsLoad tells load before old new h c (Empty now cluster disks opened blocks roots team) = FitsOpened tells load before old (FitsTeam tells load cluster.core cluster.logs disks new h c team)

-- a load went so
abbrev pub FitsLoaded : (tells : Type 0) (name : List ℕ → Address) (shape : Shape) (seed writers files : ℕ) (r : Ran) → IsLoaded tells name shape seed writers files r → Type 0
FitsLoaded tells name shape seed writers files r loaded = FitsLoad tells (load_of name shape seed writers files) r.old.moment loaded.old loaded.new (handed_of r) (close_of r) loaded.ends
