-- What the program says of a file that failed.
use Rattle.std.specs.Prelude.{ℕ, ◌+◌, if◌then◌else◌, List, [], ◌∷◌, ◌++◌, Option, Some, None, codes, decimal, string_bytes}
use Rattle.std.specs.declared.fs.File.{File}
use Rattle.hs_ports.specs.declared.disk.Side.{Side}
use Rattle.hs_ports.specs.declared.disk.Side.TheVariants.{Zero, One}
use Rattle.hydra.specs.SideFault.{deed_words, fault_in, is_of_folder}
use Rattle.hydra.specs.declared.file_disk.FileDisk.{FileDisk}
use Rattle.hydra.specs.declared.file_fault.Deed.{Deed}
use Rattle.hydra.specs.declared.file_fault.FileFault.{FileFault}
use Rattle.hydra.specs.declared.notes.FileNote.{FileNote}

-- a fault with the number of its disk, and else a later one
abbrev pub fault_or : ℕ → Option FileFault → Option (ℕ × FileFault) → Option (ℕ × FileFault)
fault_or peer None later = later
fault_or peer (Some fault) later = Some (peer, fault)

-- the first fault of the first disk that has one, where the disks are numbered from this on
abbrev pub first_fault : ℕ → List (FileDisk File) → Option (ℕ × FileFault)
first_fault peer [] = None
first_fault peer (disk ∷ disks) = fault_or peer (fault_in disk.zero.fault disk.one.fault) (first_fault (peer + 1) disks)

-- the digit of a side
abbrev pub side_digit : Side → List ℕ
side_digit Zero = codes "0"
side_digit One = codes "1"

-- the folder, or a file in it
abbrev pub place_text : List ℕ → ℕ → Side → Deed → List ℕ
place_text dir peer side deed = if is_of_folder deed then dir else dir ++ (codes "/peer" ++ (decimal peer ++ (codes ".side" ++ side_digit side)))

-- what could not be done with it, and why
abbrev pub failed_text : List ℕ → List ℕ → List ℕ → List ℕ
failed_text place words reason = codes "hydra: " ++ (place ++ (codes " can't be " ++ (words ++ (codes ": " ++ (reason ++ codes "\n")))))

-- the line on standard error, where there is a note
abbrev pub file_text : List ℕ → Option FileNote → List ℕ
file_text dir None = []
file_text dir (Some note) = failed_text (place_text dir note.peer note.failed.side note.failed.fault.deed) (deed_words note.failed.fault.deed) (string_bytes note.reason)
