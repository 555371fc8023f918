-- What only a command ends as that runs no script has no cause in one.
use Rattle.std.proofs.Common.{◌≡◌, ℕ, true, List}
use Rattle.hs_promise.specs.declared.status.Status.{Status}
use Rattle.hs_promise.specs.declared.status.Status.TheVariants as status
use Rattle.hs_promise.specs.Causes.{Cause}
use Rattle.hs_promise.specs.Ending.{ending_of}
use Rattle.hs_promise.specs.Ends.{HasEnded}
use Rattle.hs_promise.specs.Run.{Ran, Script}

pub no_cause : (S : Script) (r : Ran) (st : Status) → (ending_of st).unscripted ≡ true → Cause S r st → ⊥
no_cause S r status.Done other cause = cc other
no_cause S r status.Usage other cause = cc other
no_cause S r (status.BadLine line) other cause = cc other
no_cause S r (status.ShardLost shard) other cause = cc other
no_cause S r status.ReadFault other cause = cc other
no_cause S r status.WriteFault other cause = cc other
no_cause S r status.NoMemory other cause = cc other
no_cause S r (status.WrongShape peer found) other cause = cc other
no_cause S r (status.Mismatch session place told kept) other cause = cause
no_cause S r status.OpsFull other cause = cc other
no_cause S r (status.Torn peer place told kept) other cause = cause
no_cause S r (status.NotEmpty blocks roots) other cause = cause
no_cause S r status.InputFull other cause = cc other
no_cause S r (status.Refused reply) other cause = cause
no_cause S r (status.NotATree address) other cause = cause
no_cause S r (status.NoSource peer) other cause = cause
no_cause S r (status.CopyFull blocks) other cause = cause

pub no_end : (st : Status) (lines : List (List ℕ)) (line : ℕ) (taken left : List ℕ) → (ending_of st).unscripted ≡ true → HasEnded st lines line taken left → ⊥
no_end status.Done lines line taken left other ended = cc other
no_end status.Usage lines line taken left other ended = cc other
no_end (status.BadLine n) lines line taken left other ended = cc other
no_end (status.ShardLost shard) lines line taken left other ended = cc other
no_end status.ReadFault lines line taken left other ended = cc other
no_end status.WriteFault lines line taken left other ended = cc other
no_end status.NoMemory lines line taken left other ended = cc other
no_end (status.WrongShape peer found) lines line taken left other ended = cc other
no_end (status.Mismatch session place told kept) lines line taken left other ended = ended
no_end status.OpsFull lines line taken left other ended = cc other
no_end (status.Torn peer place told kept) lines line taken left other ended = ended
no_end (status.NotEmpty blocks roots) lines line taken left other ended = ended
no_end status.InputFull lines line taken left other ended = cc other
no_end (status.Refused reply) lines line taken left other ended = ended
no_end (status.NotATree address) lines line taken left other ended = ended
no_end (status.NoSource peer) lines line taken left other ended = ended
no_end (status.CopyFull blocks) lines line taken left other ended = ended
