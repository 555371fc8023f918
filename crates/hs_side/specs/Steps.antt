-- Words of the private steps of opening; no public clause cites them.
use Rattle.std.specs.Prelude.{◌≡◌, ℕ, ◌+◌, ◌^◌, ◌<◌, ◌≤◌, ⊤, Bool, true, false, List, ◌∷◌, ◌++◌, length, take, drop, map, Option, None, Some, Result, Ok, Err}
use Rattle.std.specs.Int.{w32, to_be_bytes}
use Rattle.hs_ports.specs.Disk.{byte_at}
use Rattle.hs_entry.specs.declared.fault.EntryFault.{EntryFault}
use Rattle.hs_entry.specs.declared.rank.Rank.{Rank}
use Rattle.hs_entry.specs.Entries.{rank_after, rank_of}
use Rattle.hs_entry.specs.declared.fault.EntryFault.TheVariants as entry_fault
use Rattle.hs_side.specs.declared.header.Header.{Header}
use Rattle.hs_side.specs.declared.fault.SideFault.{SideFault}
use Rattle.hs_side.specs.declared.fault.SideFault.TheVariants.{NotALog, Disk, NoMemory}
use Rattle.hs_side.specs.Follow.{Follow, start, followed}
use Rattle.hs_side.specs.Reading.{is_open, is_blank, head_of, payload_at, Found, found_in, Frame, entry_of, frames, log_of}
use Rattle.hs_side.specs.Spelling.{head, body}
use Rattle.hs_side.specs.Standing.{Front}

-- the first 17 bytes: None where byte 0 is no open gate
abbrev pub IsHead : Result (Option (Header × ℕ)) SideFault → List ℕ → Type 0
IsHead (Ok None) bytes = is_open (byte_at bytes 0) ≡ false
IsHead (Ok (Some x)) bytes = (is_open (byte_at bytes 0) ≡ true) × (head_of bytes ≡ Ok x)
IsHead (Err (NotALog at)) bytes = (is_open (byte_at bytes 0) ≡ true) × (head_of bytes ≡ Err at)
IsHead (Err Disk) bytes = ⊥
IsHead (Err NoMemory) bytes = ⊥

-- the head of a side
abbrev pub IsHeadOf : Result (Option (Header × ℕ)) SideFault → List ℕ → Type 0
IsHeadOf (Ok None) seen = is_blank seen ≡ true
IsHeadOf (Ok (Some x)) seen =
    (is_blank seen ≡ false) × (head_of (take 17 seen) ≡ Ok x)
    × (take 17 seen ≡ head 0xa5 x.0 x.1) × (x.1 < 2 ^ 64)
IsHeadOf (Err (NotALog at)) seen = (is_blank seen ≡ false) × (head_of (take 17 seen) ≡ Err at)
IsHeadOf (Err Disk) seen = ⊤
IsHeadOf (Err NoMemory) seen = ⊤

-- whether the gate at a place is open
abbrev pub IsGate : Result Bool SideFault → ℕ → List ℕ → Type 0
IsGate (Ok opens) at seen = (at < length seen) × (is_open (byte_at seen at) ≡ opens)
IsGate (Err (NotALog place)) at seen = (place ≡ at) × (length seen ≤ at)
IsGate (Err Disk) at seen = ⊤
IsGate (Err NoMemory) at seen = ⊤

-- the length of the payload behind the gate at a place
abbrev pub IsLength : Result ℕ SideFault → ℕ → List ℕ → Type 0
IsLength (Ok len) at seen =
    (to_be_bytes w32 len ≡ take 4 (drop (at + 1) seen)) × (at + 5 + len ≤ length seen)
IsLength (Err (NotALog place)) at seen =
    (place ≡ at) × (payload_at (drop (at + 1) seen) ≡ None)
IsLength (Err Disk) at seen = ⊤
IsLength (Err NoMemory) at seen = ⊤

-- the payload behind the gate at a place
abbrev pub IsPayload : Result (Unit {0}) SideFault → ℕ → List ℕ → List ℕ → Type 0
IsPayload (Ok done) at seen held =
    drop (at + 1) seen ≡ body held ++ drop (at + 5 + length held) seen
IsPayload (Err (NotALog place)) at seen held =
    (place ≡ at) × (payload_at (drop (at + 1) seen) ≡ None)
IsPayload (Err Disk) at seen held = ⊤
IsPayload (Err NoMemory) at seen held = ⊤

-- no kept frame is owed, and this is the last number
pub record IsPlain (follow : Follow) (last : ℕ) : Type 0 where
  pub owed : follow.owed ≡ 0
  pub ends : follow.last ≡ last

-- the entry of a payload that may come behind this rank, and the rank with it
pub record Comes (follow : Follow) (payload : List ℕ) (last rank : Rank) : Type 0 where
  pub found : Found
  pub comes : found_in follow payload ≡ Some found
  pub plain : IsPlain found.follow rank.number
  pub ranked : rank ≡ rank_after last found.number found.entry

-- the rank with a payload's entry, None where it may not come behind this one
abbrev pub IsNext : Option Rank → Rank → List ℕ → Type 0
IsNext None last payload =
    (follow : Follow) → IsPlain follow last.number → found_in follow payload ≡ None
IsNext (Some rank) last payload =
    (follow : Follow) → IsPlain follow last.number → Comes follow payload last rank

-- what a payload that is not read is: no entry, unless memory ran out
abbrev pub refusal : EntryFault → Result (Option Rank) SideFault
refusal entry_fault.NoMemory = Err NoMemory
refusal fault = Ok None

-- the frame at a place, whose gate is open, behind frames of this rank
abbrev pub IsFrame : Result Rank SideFault → ℕ → Rank → List ℕ → List ℕ → Type 0
IsFrame (Ok rank) at last seen held =
    (drop (at + 1) seen ≡ body held ++ drop (at + 5 + length held) seen)
    × ((follow : Follow) → IsPlain follow last.number → Comes follow held last rank)
IsFrame (Err (NotALog place)) at last seen held =
    (place ≡ at) × ((follow : Follow) → IsPlain follow last.number → (gate : ℕ) → is_open gate ≡ true
    → frames at follow 0 (gate ∷ drop (at + 1) seen) ≡ Err at)
IsFrame (Err Disk) at last seen held = ⊤
IsFrame (Err NoMemory) at last seen held = ⊤

-- the frames of a side up to a place, and their rank
pub record Scanned (seen : List ℕ) (at : ℕ) (last : Rank) (places : List ℕ) : Type 0 where
  pub found : List Frame
  pub follow : Follow
  pub bytes : List ℕ
  pub front : Front bytes found follow
  pub split : drop 17 seen ≡ bytes ++ drop at seen
  pub end : at ≡ 17 + length bytes
  pub places_are : places ≡ map (λ frame. frame.place) found
  pub before : followed start (map entry_of found) ≡ Some follow
  pub plain : IsPlain follow last.number
  pub ranked : rank_of (map entry_of found) ≡ last

-- all frames of a side, and the gate behind them is closed
pub record Ended (seen : List ℕ) (at : ℕ) (last : Rank) (places : List ℕ) : Type 0 where
  pub scanned : Scanned seen at last places
  pub inside : at < length seen
  pub closed : is_open (byte_at seen at) ≡ false

-- what reading the frames tells: their places, the place behind them, and their rank
pub record Scan : Type 0 where
  pub places : List ℕ
  pub end : ℕ
  pub rank : Rank

-- that, or the first place that is wrong
abbrev pub IsScan : {X : Type 0} → (X → Scan) → Result X SideFault → List ℕ → Type 0
IsScan view (Ok x) seen = Ended seen (view x).end (view x).rank (view x).places
IsScan view (Err (NotALog at)) seen = log_of seen ≡ Err at
IsScan view (Err Disk) seen = ⊤
IsScan view (Err NoMemory) seen = ⊤
