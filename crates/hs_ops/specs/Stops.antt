-- Checks that stop at the first refusal.
use Rattle.std.specs.Prelude.{◌≡◌, ⊤, Option, Some, None, Result, Ok, Err}
use Rattle.hs_model.specs.declared.reply.Reply.{Reply}
use Rattle.hs_ops.specs.declared.stop.Stop.{Stop}
use Rattle.hs_ops.specs.declared.stop.Stop.TheVariants.{Refused, NoMemory}

-- a check passes where there is no refusal, and else stops with it; nothing is said where memory is wanting
abbrev pub Stops : Option Reply → Result ⊤ Stop → Type 0
Stops refusal (Ok passed) = refusal ≡ None
Stops refusal (Err (Refused reply)) = refusal ≡ Some reply
Stops refusal (Err NoMemory) = ⊤
