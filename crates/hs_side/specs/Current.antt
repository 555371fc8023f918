-- Which side of a disk is current, and what it gives.
use Rattle.std.specs.Prelude.{◌≡◌, ℕ, ⊤, List, Option, None, Some, Result, Ok, Err, nat_lt, take, if◌then◌else◌}
use Rattle.hs_limits.specs.Fields.{◌>>=◌}
use Rattle.hs_ports.specs.declared.disk.Side.{Side}
use Rattle.hs_ports.specs.declared.disk.Side.TheVariants.{Zero, One}
use Rattle.hs_entry.specs.declared.entry.Entry.{Entry}
use Rattle.hs_side.specs.declared.header.Header.{Header}
use Rattle.hs_side.specs.declared.fault.SideFault.{SideFault}
use Rattle.hs_side.specs.declared.fault.SideFault.TheVariants.{NotALog, Disk, NoMemory}
use Rattle.hs_side.specs.Reading.{is_blank, generation_of, head_of, list_of}

-- the generation of a side, None where it is blank, whatever else its head says
abbrev pub generation_in : List ℕ → Option ℕ
generation_in bytes = if is_blank bytes then None else Some (generation_of bytes)

-- side one where it is not blank, and side zero is blank or of a lower generation
abbrev pub later_side : Option ℕ → Option ℕ → Side
later_side generation None = Zero
later_side None (Some generation) = One
later_side (Some generation) (Some other) = if nat_lt generation other then One else Zero

abbrev pub current : (Side → List ℕ) → Side
current seen = later_side (generation_in (seen Zero)) (generation_in (seen One))

-- the list of a disk is that of its current side
abbrev pub list_in : (Side → List ℕ) → Option (List (ℕ × Entry))
list_in seen = list_of (seen (current seen))

-- the header of a side, None where it is blank, or the first place of its head that is wrong
abbrev pub header_in : List ℕ → Result (Option Header) ℕ
header_in bytes = if is_blank bytes then Ok None else do
  head ← head_of (take 17 bytes)
  Ok (Some head.0)

-- what is answered of a head is what reading gives, unless the disk failed or memory ran out
abbrev pub IsHeader : Result (Option Header) SideFault → Result (Option Header) ℕ → Type 0
IsHeader (Ok header) read = read ≡ Ok header
IsHeader (Err (NotALog at)) read = read ≡ Err at
IsHeader (Err Disk) read = ⊤
IsHeader (Err NoMemory) read = ⊤
