-- Which entries of a list are behind a number, and the line that asked for one.
use Rattle.std.specs.Prelude.{ℕ, ◌==◌, if◌then◌else◌, List, Option, Some, None, nat_le, nat_lt, filter}
use Rattle.hs_entry.specs.declared.entry.Entry.{Entry}
use Rattle.hs_entry.specs.declared.entry.Entry.TheVariants as kind

-- an Enter of line 0 is one that no line asked for
abbrev pub entered_by : ℕ → Option ℕ
entered_by op = if op == 0 then None else Some op

-- the line that asked for an entry, where one did
abbrev pub asked_by : Entry → Option ℕ
asked_by (kind.Block op least bytes) = Some op
asked_by (kind.Mark op least block address) = Some op
asked_by (kind.Root op held address key) = Some op
asked_by (kind.Drop op key) = Some op
asked_by (kind.Enter op epoch) = entered_by op
asked_by other = None

-- the entries of a list behind this number
abbrev pub behind : ℕ → List (ℕ × Entry) → List (ℕ × Entry)
behind number entries = filter (λ e. nat_lt number e.0) entries

-- and those up to it
abbrev pub up_to : ℕ → List (ℕ × Entry) → List (ℕ × Entry)
up_to number entries = filter (λ e. nat_le e.0 number) entries
