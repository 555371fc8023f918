-- How the bytes of a side are read: it is blank, a log, or none, from the first place that is wrong.
use Rattle.std.specs.Prelude.{ℕ, zero, suc, ◌+◌, Bool, true, false, List, [], ◌∷◌, ◌++◌, length, take, drop, map, Option, None, Some, Result, Ok, Err, nat_lt, ◌==◌, ◌&&◌, if◌then◌else◌}
use Rattle.std.specs.Int.{w32, w64, from_be_bytes}
use Rattle.hs_limits.specs.Fields.{◌>>=◌, check}
use Rattle.hs_ports.specs.Disk.{byte_at}
use Rattle.hs_entry.specs.declared.entry.Entry.{Entry}
use Rattle.hs_entry.specs.declared.fault.EntryFault.{EntryFault}
use Rattle.hs_entry.specs.Reading.{entry_at}
use Rattle.hs_side.specs.declared.frame.TheConstants.{MOST_PAYLOAD}
use Rattle.hs_side.specs.declared.header.Header.{Header}
use Rattle.hs_side.specs.Follow.{Follow, start, after, may_end}

-- a gate is open where it is a5
abbrev pub is_open : ℕ → Bool
is_open gate = gate == 0xa5

-- a side of fewer than 18 bytes, or whose byte 0 is no open gate
abbrev pub is_blank : List ℕ → Bool
is_blank bytes =
    if nat_lt (length bytes) 18 then true else
    if is_open (byte_at bytes 0) then false else true

-- bytes 1 to 4 are `HSL1`, in ASCII
abbrev pub is_named : List ℕ → Bool
is_named bytes =
    ((byte_at bytes 1 == 0x48 && byte_at bytes 2 == 0x53) && byte_at bytes 3 == 0x4c)
    && byte_at bytes 4 == 0x31

-- bytes 6 to 8
abbrev pub header_of : List ℕ → Header
header_of bytes =
    record { shards = byte_at bytes 6; copies = byte_at bytes 7; peer = byte_at bytes 8 }

-- bytes 9 to 16, high byte first
abbrev pub generation_of : List ℕ → ℕ
generation_of bytes = from_be_bytes w64 (take 8 (drop 9 bytes))

-- the first 17 bytes of a side that is not blank, or the first place that is wrong
abbrev pub head_of : List ℕ → Result (Header × ℕ) ℕ
head_of bytes = do
  named ← check (is_named bytes) 1
  known ← check (byte_at bytes 5 == 1) 5
  Ok (header_of bytes, generation_of bytes)

-- a frame: its place, the number of its entry, and the entry
pub record Frame : Type 0 where
  pub place : ℕ
  pub number : ℕ
  pub entry : Entry

-- the number of the first 4 bytes, high byte first
abbrev pub length_at : List ℕ → ℕ
length_at bytes = from_be_bytes w32 (take 4 bytes)

-- the payload behind an open gate: its length in 4 bytes, at most 600,000, and then so many bytes
unfoldable pub payload_at : List ℕ → Option (List ℕ)
payload_at bytes =
    if nat_lt (length bytes) 4 then None else
    if nat_lt MOST_PAYLOAD (length_at bytes) then None else
    if nat_lt (length bytes) (4 + length_at bytes) then None else
    Some (take (length_at bytes) (drop 4 bytes))

-- an entry that may come here, its number, and what may follow behind it
pub record Found : Type 0 where
  pub number : ℕ
  pub entry : Entry
  pub follow : Follow

-- this entry, where something may follow behind it
abbrev pub found_by : ℕ → Entry → Option Follow → Option Found
found_by number entry None = None
found_by number entry (Some follow) =
    Some (record { number = number; entry = entry; follow = follow })

-- the entry that was read, where it may come here
abbrev pub found_if : Follow → Result (ℕ × Entry) EntryFault → Option Found
found_if follow (Ok x) = found_by x.0 x.1 (after follow x.0 x.1)
found_if follow (Err fault) = None

-- what a payload says, where it is that of an entry which may come here
unfoldable pub found_in : Follow → List ℕ → Option Found
found_in follow payload = found_if follow (entry_at payload)

-- these frames, and then those that are read on
abbrev pub with_frames : List Frame → Result (List Frame) ℕ → Result (List Frame) ℕ
with_frames done (Ok more) = Ok (done ++ more)
with_frames done (Err at) = Err at

-- the frames from a place on, where so many bytes are passed over before the next gate
unfoldable pub frames : ℕ → Follow → ℕ → List ℕ → Result (List Frame) ℕ
frames at follow pass [] = Err at
frames at follow (suc pass) (byte ∷ bytes) = frames (at + 1) follow pass bytes
frames at follow zero (gate ∷ bytes) =
    if is_open gate then
    elim (payload_at bytes) [
      | None ↦ Err at
      | Some payload ↦ elim (found_in follow payload) [
        | None ↦ Err at
        | Some found ↦ with_frames
            (record { place = at; number = found.number; entry = found.entry } ∷ [])
            (frames (at + 1) found.follow (4 + length payload) bytes)
      ]
    ]
    else if may_end follow then Ok [] else Err at

-- what a side that is not blank holds
pub record Log : Type 0 where
  pub header : Header
  pub generation : ℕ
  pub frames : List Frame

-- the log of a side, None where it is blank, or the first place that is wrong
unfoldable pub log_of : List ℕ → Result (Option Log) ℕ
log_of bytes = if is_blank bytes then Ok None else do
  head ← head_of (take 17 bytes)
  found ← frames 17 start 0 (drop 17 bytes)
  Ok (Some (record { header = head.0; generation = head.1; frames = found }))

-- a log with one frame more
abbrev pub with_frame : Frame → Result (Option Log) ℕ → Result (Option Log) ℕ
with_frame frame (Ok (Some log)) = Ok (Some (record log { frames = log.frames ++ frame ∷ [] }))
with_frame frame (Ok None) = Ok None
with_frame frame (Err at) = Err at

-- the number and the entry of a frame
abbrev pub entry_of : Frame → ℕ × Entry
entry_of frame = (frame.number, frame.entry)

-- the list of a log's entries
abbrev pub entries_of : Option Log → List (ℕ × Entry)
entries_of None = []
entries_of (Some log) = map entry_of log.frames

-- the list of entries that a side gives, where it is blank or a log
abbrev pub listed : Result (Option Log) ℕ → Option (List (ℕ × Entry))
listed (Ok log) = Some (entries_of log)
listed (Err at) = None

-- the list of entries that these bytes give
abbrev pub list_of : List ℕ → Option (List (ℕ × Entry))
list_of bytes = listed (log_of bytes)
