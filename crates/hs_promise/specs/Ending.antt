-- What each status says of a run.
use Rattle.std.specs.Prelude.{ℕ, Bool, true, false, Option, Some, None}
use Rattle.hs_promise.specs.declared.status.Status.{Status}
use Rattle.hs_promise.specs.declared.status.Status.TheVariants as status

-- past: the last line that was begun, or opening, was gone past; short: what was put may be a front of the text; wanting: memory was wanting; full: the journal could not take the entries of an event; lost: this shard has no good peer; closed: no store was opened; unscripted: no run of a script ends so
pub record Ending : Type 0 where
  pub past : Bool
  pub short : Bool
  pub wanting : Bool
  pub full : Bool
  pub lost : Option ℕ
  pub closed : Bool
  pub unscripted : Bool

abbrev pub plain_end : Ending
plain_end = record { past = false; short = false; wanting = false; full = false; lost = None; closed = false; unscripted = false }

abbrev pub ending_of : Status → Ending
ending_of status.Done = record plain_end { past = true }
ending_of status.Usage = record plain_end { closed = true }
ending_of (status.BadLine line) = record plain_end { past = true }
ending_of (status.ShardLost shard) = record plain_end { lost = Some shard }
ending_of status.ReadFault = record plain_end { past = true }
ending_of status.WriteFault = record plain_end { short = true }
ending_of status.NoMemory = record plain_end { short = true; wanting = true }
ending_of (status.WrongShape peer found) = record plain_end { closed = true }
ending_of (status.Mismatch session place told kept) = record plain_end { unscripted = true }
ending_of status.OpsFull = record plain_end { full = true }
ending_of (status.Torn peer place told kept) = record plain_end { unscripted = true }
ending_of (status.NotEmpty blocks roots) = record plain_end { unscripted = true }
ending_of status.InputFull = record plain_end { past = true }
ending_of (status.Refused reply) = record plain_end { unscripted = true }
ending_of (status.NotATree address) = record plain_end { unscripted = true }
ending_of (status.NoSource peer) = record plain_end { closed = true; unscripted = true }
ending_of (status.CopyFull blocks) = record plain_end { unscripted = true }
