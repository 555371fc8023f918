-- What opening the log of a disk answers.
use Rattle.std.specs.Prelude.{◌≡◌, ℕ, ⊤, Bool, ◌==◌, ◌&&◌, if◌then◌else◌, List, [], Option, None, Some, IsSome, Result, Ok, Err}
use Rattle.hs_limits.specs.declared.shape.Shape.{Shape}
use Rattle.hs_ports.specs.declared.disk.Side.{Side}
use Rattle.hs_ports.specs.declared.disk.Side.TheVariants.{Zero}
use Rattle.hs_entry.specs.declared.entry.Entry.{Entry}
use Rattle.hs_entry.specs.declared.rank.Rank.{Rank}
use Rattle.hs_entry.specs.Entries.{rank_of}
use Rattle.hs_side.specs.declared.header.Header.{Header}
use Rattle.hs_side.specs.Current.{current, header_in, list_in}
use Rattle.hs_side.specs.Reading.{Log, log_of}
use Rattle.hs_side.specs.Standing.{SideState}
use Rattle.hs_peerlog.specs.declared.fault.LogFault.{LogFault}
use Rattle.hs_peerlog.specs.declared.fault.LogFault.TheVariants.{NotALog, WrongShape, Disk, NoMemory}
use Rattle.hs_peerlog.specs.Lists.{HasList, IsNumbered}

-- the disk is this peer's in a store of this shape
abbrev pub is_own : Shape → ℕ → Header → Bool
is_own shape peer header =
    (header.shards == shape.shards && header.copies == shape.copies) && header.peer == peer

-- why a head is refused: the first place that is wrong, or the shape
abbrev pub refused_head : Shape → ℕ → Result (Option Header) ℕ → Option LogFault
refused_head shape peer (Err at) = Some (NotALog at)
refused_head shape peer (Ok None) = None
refused_head shape peer (Ok (Some header)) =
    if is_own shape peer header then None else Some (WrongShape header)

-- and where the head is not refused, the first place that is wrong after it
abbrev pub refused_log : Option LogFault → Result (Option Log) ℕ → Option LogFault
refused_log (Some fault) read = Some fault
refused_log None (Err at) = Some (NotALog at)
refused_log None (Ok log) = None

-- why a disk is refused
abbrev pub refusal_in : Shape → ℕ → (Side → List ℕ) → Option LogFault
refusal_in shape peer seen = refused_log
    (refused_head shape peer (header_in (seen (current seen)))) (log_of (seen (current seen)))

-- what is answered is why it is refused, unless the disk failed or memory ran out
abbrev pub IsRefusal : LogFault → Option LogFault → Type 0
IsRefusal (NotALog at) refusal = refusal ≡ Some (NotALog at)
IsRefusal (WrongShape found) refusal = refusal ≡ Some (WrongShape found)
IsRefusal Disk refusal = ⊤
IsRefusal NoMemory refusal = ⊤

-- the list of a side: where it is blank, the empty one
pub record HasOpened (log : SideState) (seen : List ℕ) (list : List (ℕ × Entry)) : Type 0 where
  pub begun : IsSome log.head → HasList log.places seen list
  pub blank : log.head ≡ None → list ≡ []

-- the log of the current side of a disk, and the rank of its list
pub record IsOpened (log : SideState) (rank : Rank) (seen : Side → List ℕ) : Type 0 where
  pub list : List (ℕ × Entry)
  pub listed : list_in seen ≡ Some list
  pub numbered : IsNumbered list
  pub rank_is : rank ≡ rank_of list
  pub side : log.side ≡ current seen
  pub opened : HasOpened log (seen (current seen)) list
  pub zero : log.head ≡ None → log.side ≡ Zero
