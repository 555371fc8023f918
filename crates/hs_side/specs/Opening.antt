-- What opening a side answers.
use Rattle.std.specs.Prelude.{◌≡◌, ℕ, ◌+◌, ⊤, List, [], ◌++◌, drop, map, Option, None, Some, Result, Ok, Err}
use Rattle.std.specs.List.{Contains}
use Rattle.hs_entry.specs.declared.rank.Rank.{Rank}
use Rattle.hs_entry.specs.Entries.{rank_of}
use Rattle.hs_entry.specs.Reading.{entry_at}
use Rattle.hs_side.specs.declared.header.Header.{Header}
use Rattle.hs_side.specs.declared.fault.SideFault.{SideFault}
use Rattle.hs_side.specs.declared.fault.SideFault.TheVariants.{NotALog, Disk, NoMemory}
use Rattle.hs_side.specs.Reading.{Frame, payload_at, Log, log_of, entries_of}
use Rattle.hs_side.specs.Standing.{SideState}

-- the header and the generation of a log
abbrev pub head_in : Option Log → Option (Header × ℕ)
head_in None = None
head_in (Some log) = Some (log.header, log.generation)

-- the places of its frames
abbrev pub places_in : Option Log → List ℕ
places_in None = []
places_in (Some log) = map (λ placed. placed.place) log.frames

-- a value shows what its side holds, and no frame waits
pub record Shows (log : SideState) (content : Option Log) : Type 0 where
  pub head : log.head ≡ head_in content
  pub places : log.places ≡ places_in content
  pub rests : log.waiting ≡ None

-- what opening answers is what reading gives, unless the disk failed or memory ran out
abbrev pub Opens : Result SideState SideFault → Result (Option Log) ℕ → Type 0
Opens (Ok log) read = (content : Option Log) × (read ≡ Ok content) × Shows log content
Opens (Err (NotALog at)) read = read ≡ Err at
Opens (Err Disk) read = ⊤
Opens (Err NoMemory) read = ⊤

-- the same with the rank of the entries that were read
abbrev pub OpensRanked : Result (SideState × Rank) SideFault → Result (Option Log) ℕ → Type 0
OpensRanked (Ok x) read =
    (content : Option Log) × (read ≡ Ok content) × Shows x.0 content
    × (x.1 ≡ rank_of (entries_of content))
OpensRanked (Err (NotALog at)) read = read ≡ Err at
OpensRanked (Err Disk) read = ⊤
OpensRanked (Err NoMemory) read = ⊤

-- what stands behind old is the payload of the frame at a place, and that of its entry
pub record ReadsAt (seen : List ℕ) (place : ℕ) (old new : List ℕ) : Type 0 where
  pub payload : List ℕ
  pub more : new ≡ old ++ payload
  pub read : payload_at (drop (place + 1) seen) ≡ Some payload
  pub entry : (log : Log) (placed : Frame) → log_of seen ≡ Ok (Some log)
      → Contains log.frames placed → placed.place ≡ place
      → entry_at payload ≡ Ok (placed.number, placed.entry)
