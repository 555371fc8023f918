-- What the header of a disk says, and what it ought to say.
use Rattle.std.specs.Prelude.{Ok, Some, ℕ, ◌≡◌}
use Rattle.hs_limits.specs.declared.shape.Shape.{Shape}
use Rattle.hs_ports.specs.Disk.{Standing}
use Rattle.hs_side.specs.Current.{current, header_in}
use Rattle.hs_side.specs.declared.header.Header.{Header}

-- what the header of a peer's disk ought to say
abbrev pub own_header : Shape → ℕ → Header
own_header shape peer = record { shards = shape.shards; copies = shape.copies; peer = peer }

-- the current side of a disk has this header
abbrev pub HasHeader : Standing → Header → Type 0
HasHeader disk found = header_in (disk.seen (current disk.seen)) ≡ Ok (Some found)
