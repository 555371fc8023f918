-- How a side of a disk stands beside the value of its log.
use Rattle.std.specs.Prelude.{◌≡◌, ℕ, ◌+◌, ◌<◌, ◌≤◌, ◌^◌, ⊤, true, false, List, [], ◌∷◌, ◌++◌, length, take, map, Option, Some, MatchOption, Ok}
use Rattle.std.specs.List.{Contains}
use Rattle.hs_ports.specs.declared.disk.Side.{Side}
use Rattle.hs_ports.specs.Disk.{Loose, IsImage, Standing, settled, overwritten}
use Rattle.hs_side.specs.declared.frame.TheConstants.{MOST_PAYLOAD}
use Rattle.hs_side.specs.declared.header.Header.{Header}
use Rattle.hs_entry.specs.declared.entry.Entry.{Entry}
use Rattle.hs_entry.specs.Reading.{entry_at}
use Rattle.hs_side.specs.Follow.{Follow, start, after, may_end, followed}
use Rattle.hs_side.specs.Reading.{is_open, is_blank, found_in, Found, Frame, frames, with_frames, entry_of, list_of}
use Rattle.hs_side.specs.Spelling.{head, body, frame}

-- what a value of a side's log keeps
pub record SideState : Type 0 where
  pub side : Side
  -- the header and the generation, None where the side is blank
  pub head : Option (Header × ℕ)
  -- the places of the sealed frames, and that of the gate behind them
  pub places : List ℕ
  pub end : ℕ
  -- the place of the gate behind the frame that waits to be sealed, None where there is none
  pub waiting : Option ℕ

-- a side with the gate at this place open
abbrev pub opened : ℕ → List ℕ → List ℕ
opened at bytes = overwritten at (0xa5 ∷ []) bytes

-- the payload is that of an entry which may come behind those that the side gives
pub record MayCome (bytes payload : List ℕ) : Type 0 where
  pub entries : List (ℕ × Entry)
  pub follow : Follow
  pub number : ℕ
  pub entry : Entry
  pub next : Follow
  pub listed : list_of bytes ≡ Some entries
  pub before : followed start entries ≡ Some follow
  pub read : entry_at payload ≡ Ok (number, entry)
  pub comes : after follow number entry ≡ Some next

-- these bytes, of which the first has place 17, have this frame
pub record Framed (bytes : List ℕ) (placed : Frame) : Type 0 where
  pub before : List ℕ
  pub payload : List ℕ
  pub after : List ℕ
  pub split : bytes ≡ before ++ frame payload ++ after
  pub place : placed.place ≡ 17 + length before
  pub short : length payload ≤ MOST_PAYLOAD
  pub read : entry_at payload ≡ Ok (placed.number, placed.entry)

-- bytes that read as these frames, whatever stands behind them, and that have each of them
pub record Front (bytes : List ℕ) (found : List Frame) (follow : Follow) : Type 0 where
  pub reads : (rest : List ℕ) → frames 17 start 0 (bytes ++ rest)
      ≡ with_frames found (frames (17 + length bytes) follow 0 rest)
  pub each : (placed : Frame) → Contains found placed → Framed bytes placed

-- a frame waits behind the last gate: whole and with its next gate, and its entry may come there;
-- where byte 0 is open, the log may end behind it
pub record Waits (gate : ℕ) (follow : Follow) (end next : ℕ) (rest : List ℕ) : Type 0 where
  pub payload : List ℕ
  pub found : Found
  pub more : List ℕ
  pub written : rest ≡ body payload ++ 0 ∷ more
  pub behind : next ≡ end + 5 + length payload
  pub short : length payload ≤ MOST_PAYLOAD
  pub readable : found_in follow payload ≡ Some found
  pub ends : is_open gate ≡ true → may_end found.follow ≡ true

-- a crash leaves the bytes up to the last gate as they are
abbrev pub IsFirm : ℕ → List ℕ → Loose → Type 0
IsFirm end seen loose =
    (content : List ℕ) → IsImage loose content → take (end + 1) content ≡ take (end + 1) seen

-- the side has this log, and byte 0 is this gate: at rest all of it is on the medium; while a frame
-- waits, all up to the last gate; where byte 0 is open, the log may end there
pub record HasLog (gate : ℕ) (header : Header) (generation : ℕ) (log : SideState) (seen : List ℕ)
    (loose : Loose) : Type 0 where
  pub bytes : List ℕ
  pub found : List Frame
  pub follow : Follow
  pub closing : ℕ
  pub rest : List ℕ
  pub front : Front bytes found follow
  pub followed : followed start (map entry_of found) ≡ Some follow
  pub places : log.places ≡ map (λ placed. placed.place) found
  pub end : log.end ≡ 17 + length bytes
  pub spelled : seen ≡ head gate header generation ++ bytes ++ closing ∷ rest
  pub fits : generation < 2 ^ 64
  pub closed : is_open closing ≡ false
  pub ends : is_open gate ≡ true → may_end follow ≡ true
  pub firm : IsFirm log.end seen loose
  pub waits : MatchOption log.waiting (loose ≡ settled seen)
      (λ next. Waits gate follow log.end next rest)

-- the side is blank, all of it on the medium
pub record HasNone (log : SideState) (seen : List ℕ) (loose : Loose) : Type 0 where
  pub empty : log.places ≡ []
  pub blank : is_blank seen ≡ true
  pub still : loose ≡ settled seen

-- the contents of the side, by byte 0
abbrev pub HasBytes : ℕ → SideState → List ℕ → Loose → Type 0
HasBytes gate log seen loose =
    MatchOption log.head (HasNone log seen loose) (λ head. HasLog gate head.0 head.1 log seen loose)

-- the side is long enough for the last gate that was written
abbrev pub HasRoom : SideState → ℕ → Type 0
HasRoom log size = MatchOption log.head ⊤ (λ head.
    MatchOption log.waiting (log.end < size) (λ next. (log.end < next) × (next < size)))

-- the side stands as the last call on this log left it; byte 0 is open
pub record Stands (tells : Type 0) (log : SideState) (size : ℕ) (disk : Standing) : Type 0 where
  pub room : HasRoom log size
  pub told : tells → HasBytes 0xa5 log (disk.seen log.side) (disk.loose log.side)
