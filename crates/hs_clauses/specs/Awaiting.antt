-- Operations that wait for the bytes of an entry: a read's block is there as long as its handle may be used.
use Rattle.std.specs.Prelude.{◌≡◌, ℕ, List, Some}
use Rattle.hs_awaiting.specs.declared.wait.Wait.TheVariants as wait
use Rattle.hs_awaiting.specs.declared.waiting.Waiting.{Waiting}
use Rattle.hs_core_words.specs.Looking.{operation_of}
use Rattle.hs_core_words.specs.State.{Core}
use Rattle.hs_fold.specs.Runs.Facts.{Catalogue as Folded, Facts, facts_at}
use Rattle.hs_fold.specs.Runs.Fits.{catalogue_at}
use Rattle.hs_limits.specs.declared.address.Address.{Address}
use Rattle.hs_limits.specs.declared.address.Held.{Held}
use Rattle.hs_limits.specs.Epoch.{IsFresh}
use Rattle.hs_model.specs.declared.op.Op.{Op}
use Rattle.hs_model.specs.declared.op.Op.TheVariants as op
use Rattle.hs_ops.specs.Operations.{wanted_number}
use Rattle.hs_tokens.specs.Seats.{Seats, held_at, seat_of}

-- a shard has the block of an address, and the entry of this number stored it
pub record IsThere (c : Folded) (a : Address) (number : ℕ) : Type 0 where
  pub facts : Facts
  pub found : facts_at c a ≡ Some facts
  pub numbered : facts.present.number ≡ number

-- what a read's handle stands for is there, by the entry whose bytes it waits for, as long as the handle may be used in its shard
abbrev pub AwaitsBlock : Seats → Folded → ℕ → Op → Type 0
AwaitsBlock seats c number (op.Read name handle) = (held : Held) → held_at (seat_of name seats) handle ≡ Some held → IsFresh held.epoch c.epoch → IsThere c held.address number
AwaitsBlock seats c number other = Unit {0}

-- an operation that waits for the bytes of an entry has asked for them
pub record IsAwaiting (seats : Seats) (cs : List Folded) (number : ℕ) (w : Waiting) : Type 0 where
  pub wanted : wanted_number w.operation.stage ≡ number
  pub awaits : AwaitsBlock seats (catalogue_at cs w.shard) number w.operation.op

-- so it is with each that waits for bytes
abbrev pub AreAwaiting : Core → List Folded → Type 0
AreAwaiting core cs = (line number : ℕ) (w : Waiting) → operation_of line core ≡ Some w → w.wait ≡ wait.Bytes number → IsAwaiting core.sessions cs number w
