-- What an operation asks for, and by which session.
use Rattle.std.specs.Option.{option_map_or}
use Rattle.std.specs.Prelude.{ℕ, Bool, true, false, List, Option, Some, None, bytes_eq}
use Rattle.hs_awaiting.specs.declared.waiting.Waiting.{Waiting}
use Rattle.hs_journal.specs.Order.{session_of}
use Rattle.hs_limits.specs.declared.address.Address.{Address}
use Rattle.hs_model.specs.declared.op.Op.{Op}
use Rattle.hs_model.specs.declared.op.Op.TheVariants as op

-- whether an operation writes a block, or puts a root
abbrev pub writes_block : Op → Bool
writes_block (op.Write name payload handles a) = true
writes_block other = false

abbrev pub puts_root : Op → Bool
puts_root (op.Root name key handle) = true
puts_root other = false

-- whether an operation is of a session
abbrev pub is_of : List ℕ → Waiting → Bool
is_of name w = option_map_or (bytes_eq name) (session_of (Some w.operation.op)) false
