-- A peer's log as a list.
use Rattle.std.specs.Prelude.{◌≡◌, ◌⊎◌, ℕ, ◌+◌, ◌==◌, ◌&&◌, Bool, true, false, nat_le, nat_lt, List, [], ◌∷◌, ◌++◌, length, map, Option, None, Some, MatchOption, IfSome, IsSome, is_some, Ok, if◌then◌else◌}
use Rattle.hs_ports.specs.declared.disk.Side.{Side}
use Rattle.hs_ports.specs.Disk.{Standing, other_side}
use Rattle.hs_entry.specs.declared.entry.Entry.{Entry}
use Rattle.hs_entry.specs.declared.rank.Rank.{Rank}
use Rattle.hs_entry.specs.Entries.{is_of_base, rank_after, rank_of}
use Rattle.hs_side.specs.declared.header.Header.{Header}
use Rattle.hs_side.specs.Giving.{IsBlankEverywhere}
use Rattle.hs_side.specs.Reading.{Log, is_blank, log_of, entry_of, with_frame}
use Rattle.hs_side.specs.Standing.{SideState, Stands, opened}
use Rattle.hs_peerlog.specs.Heads.{LeavesHeader}
use Rattle.hs_peerlog.specs.Images.{IsSole, LeavesOnly}

-- the side is not blank, and its log has this list of entries, in frames at these places
pub record HasList (places : List ℕ) (seen : List ℕ) (entries : List (ℕ × Entry)) : Type 0 where
  pub log : Log
  pub read : log_of seen ≡ Ok (Some log)
  pub listed : map entry_of log.frames ≡ entries
  pub placed : places ≡ map (λ frame. frame.place) log.frames

-- the same where the side may be blank: then the list is empty
abbrev pub HasFrames : List ℕ → List ℕ → List (ℕ × Entry) → Type 0
HasFrames places seen list = HasList places seen list ⊎ ((places ≡ []) × (list ≡ []))

-- there is no Base, and the numbers go on by one after this one
abbrev pub GoOn : ℕ → List (ℕ × Entry) → Type 0
GoOn number [] = Unit {0}
GoOn number (e ∷ es) = (e.0 ≡ number + 1) × (is_of_base e.1 ≡ false) × GoOn (number + 1) es

-- so from 1 on
abbrev pub IsNumbered : List (ℕ × Entry) → Type 0
IsNumbered entries = GoOn 0 entries

-- the number of the last entry, 0 where there is none
abbrev pub last_of : List (ℕ × Entry) → ℕ
last_of entries = (rank_of entries).number

-- the entry of a number, where it is kept
abbrev pub numbered_entry : List (ℕ × Entry) → ℕ → Option Entry
numbered_entry [] number = None
numbered_entry (e ∷ es) number = if e.0 == number then Some e.1 else numbered_entry es number

-- the list with the entry that waits
abbrev pub with_waiting : List (ℕ × Entry) → Entry → List (ℕ × Entry)
with_waiting list entry = list ++ (last_of list + 1, entry) ∷ []

-- what a value of a peer's log keeps: its current side's log, the rank of its sealed entries, and
-- the rank that it will have with the entry that waits
pub record Keeping : Type 0 where
  pub log : SideState
  pub rank : Rank
  pub waits : Option Rank

-- the frame that waits is this entry's, under the next number
pub record IsWaiting (keeping : Keeping) (seen : List ℕ) (list : List (ℕ × Entry)) (entry : Entry)
    : Type 0 where
  pub plain : is_of_base entry ≡ false
  pub rank : keeping.waits ≡ Some (rank_after keeping.rank (last_of list + 1) entry)
  pub opens : log_of (opened keeping.log.end seen)
      ≡ with_frame (record { place = keeping.log.end; number = last_of list + 1; entry = entry })
      (log_of seen)

-- the side has this list of sealed entries, numbered from 1 on, and this entry waits
pub record IsKept (keeping : Keeping) (seen : List ℕ) (list : List (ℕ × Entry))
    (waiting : Option Entry) : Type 0 where
  pub listed : HasList keeping.log.places seen list
  pub numbered : IsNumbered list
  pub rank : keeping.rank ≡ rank_of list
  pub waits : MatchOption waiting (keeping.waits ≡ None) (IsWaiting keeping seen list)

-- so with some list
pub record KeepsSome (keeping : Keeping) (seen : List ℕ) : Type 0 where
  pub list : List (ℕ × Entry)
  pub waiting : Option Entry
  pub kept : IsKept keeping seen list waiting

-- whatever the disk tells: the current side stands as the last call left it, a frame waits exactly
-- where an entry does, and the number of the last entry tells how many are sealed
pub record IsReady (tells : Type 0) (keeping : Keeping) (size : ℕ) (disk : Standing) : Type 0 where
  pub stands : Stands tells keeping.log size disk
  pub begun : IsSome keeping.log.head
  pub waits : is_some keeping.waits ≡ is_some keeping.log.waiting
  pub counted : keeping.rank.number ≡ length keeping.log.places
  pub next : IfSome keeping.waits (λ rank. rank.number ≡ keeping.rank.number + 1)
  pub told : tells → KeepsSome keeping (disk.seen keeping.log.side)

-- where the other side reads as blank, whatever a crash leaves of it is blank
abbrev pub IsBlankBeside : Side → Standing → Type 0
IsBlankBeside side disk =
    is_blank (disk.seen (other_side side)) ≡ true
    → IsBlankEverywhere (disk.loose (other_side side))

-- the log has this list on the disk, and this entry waits; whatever a crash leaves has just the list,
-- and the log's header
pub record HasLog (keeping : Keeping) (disk : Standing) (list : List (ℕ × Entry))
    (waiting : Option Entry) : Type 0 where
  pub kept : IsKept keeping (disk.seen keeping.log.side) list waiting
  pub sole : IsSole keeping.log.side disk
  pub leaves : LeavesOnly disk list
  pub beside : IsBlankBeside keeping.log.side disk
  pub headed : (head : Header × ℕ) → keeping.log.head ≡ Some head → LeavesHeader disk head.0

-- whether a number has one of these places, which are those of the numbers from 1 on
abbrev pub has_place : List ℕ → ℕ → Bool
has_place places number = nat_lt 0 number && nat_le number (length places)
