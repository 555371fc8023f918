-- Blocks whose entries have the bytes that spell them, and disks that hold bytes.
use Rattle.std.specs.List.{AllByRecursion}
use Rattle.std.specs.Prelude.{List, ℕ, ◌<◌}
use Rattle.hs_entry.specs.declared.entry.Entry.{Entry}
use Rattle.hs_entry.specs.declared.entry.Entry.TheVariants as kind
use Rattle.hs_fold.specs.Shards.Setting.{Numbered}
use Rattle.hs_limits.specs.Block.{IsSpelling}
use Rattle.hs_ports.specs.declared.disk.Side.{Side}
use Rattle.hs_ports.specs.Disk.{Standing, byte_at}

-- a Block has the bytes that spell a block
abbrev pub IsSpelledEntry : Entry → Type 0
IsSpelledEntry (kind.Block op least bytes) = IsSpelling bytes
IsSpelledEntry other = Unit {0}

-- so has each of a list
abbrev pub AreSpelled : Numbered → Type 0
AreSpelled list = AllByRecursion (λ e. IsSpelledEntry e.1) list

-- each place of some bytes has a number below 256, as what a program reads has
abbrev pub AreBytes : List ℕ → Type 0
AreBytes bytes = (i : ℕ) → byte_at bytes i < 256

-- so have both sides of each disk
abbrev pub HoldBytes : List Standing → Type 0
HoldBytes disks = AllByRecursion (λ disk. (side : Side) → AreBytes (disk.seen side)) disks
