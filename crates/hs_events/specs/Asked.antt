-- A client's operation as the core is asked for it, and what events and reports tell.
use Rattle.std.specs.List.{list_all}
use Rattle.std.specs.Prelude.{Bool, List, None, Option, Some, if◌then◌else◌, is_some, length, nat_le, ℕ, ◌&&◌}
use Rattle.hs_core_words.specs.declared.event.Event.{Event}
use Rattle.hs_core_words.specs.declared.event.Event.TheVariants as event
use Rattle.hs_desk.specs.declared.done.Done.{Done}
use Rattle.hs_desk.specs.declared.done.Done.TheVariants as done
use Rattle.hs_limits.specs.Block.{spell}
use Rattle.hs_limits.specs.declared.address.Address.{Address}
use Rattle.hs_limits.specs.declared.spelling.TheConstants.{MOST_BYTES, MOST_POINTERS}
use Rattle.hs_model.specs.declared.op.Op.{Op}
use Rattle.hs_model.specs.declared.op.Op.TheVariants as op
use Rattle.hs_ops.specs.Speaking.{asked_block}
use Rattle.hs_tokens.specs.Seats.{Seats, held_at, seat_of}

-- whether a write has a block: each handle is held, and the block is within its bounds
abbrev pub has_block : Seats → List ℕ → List ℕ → List ℕ → Bool
has_block seats session payload handles =
    list_all (λ handle. is_some (held_at (seat_of session seats) handle)) handles && (nat_le (length handles) MOST_POINTERS && nat_le (length payload) MOST_BYTES)

-- the address of its block, where it has one: that which the naming gives its spelling
abbrev pub address_for : (List ℕ → Address) → Seats → List ℕ → List ℕ → List ℕ → Option Address
address_for name seats session payload handles =
    if has_block seats session payload handles then Some (name (spell (asked_block seats session payload handles))) else None

-- a write comes with that address
abbrev pub addressed : (List ℕ → Address) → Seats → Op → Op
addressed name seats (op.Open session) = op.Open session
addressed name seats (op.Close session) = op.Close session
addressed name seats (op.Write session payload handles address) = op.Write session payload handles (address_for name seats session payload handles)
addressed name seats (op.Read session handle) = op.Read session handle
addressed name seats (op.Look session key) = op.Look session key
addressed name seats (op.Root session key handle) = op.Root session key handle
addressed name seats (op.Drop key) = op.Drop key
addressed name seats (op.Forget session handle) = op.Forget session handle
addressed name seats (op.Name session handle) = op.Name session handle
addressed name seats op.Delete = op.Delete
addressed name seats op.Stat = op.Stat

-- the report that an event is, and whose
abbrev pub report_in : Event → Option (ℕ × Done)
report_in (event.Line line o) = None
report_in (event.Report peer done) = Some (peer, done)
report_in (event.Turn line peer) = None
report_in (event.Deliver line message) = None
report_in (event.Lose line message) = None
report_in (event.Repeat line message) = None
report_in (event.Nudge line peer) = None
report_in (event.Fail line peer) = None
report_in (event.Start line peer) = None

-- the disk whose call failed by a report
abbrev pub failed_disk : Done → Option ℕ
failed_disk (done.Stored number) = None
failed_disk (done.Sealed number) = None
failed_disk (done.Bytes number bytes) = None
failed_disk (done.Gone number) = None
failed_disk done.Emptied = None
failed_disk (done.Copied number) = None
failed_disk (done.Stepped switched) = None
failed_disk (done.Failed disk) = Some disk
