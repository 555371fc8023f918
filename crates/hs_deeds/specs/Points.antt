-- What a Mark that waits says of the block that is there.
use Rattle.std.specs.Prelude.{◌≡◌, ℕ, List, Some, slice_get}
use Rattle.hs_awaiting.specs.declared.waiting.Waiting.{Waiting}
use Rattle.hs_core_words.specs.Looking.{catalogue_of, group_of, operation_of}
use Rattle.hs_core_words.specs.State.{Core}
use Rattle.hs_entry.specs.declared.entry.Entry.TheVariants as kind
use Rattle.hs_limits.specs.declared.address.Address.{Address}
use Rattle.hs_model.specs.declared.op.Op.{Op}
use Rattle.hs_model.specs.declared.op.Op.TheVariants as op
use Rattle.hs_ops.specs.Speaking.{asked_pointers}
use Rattle.hs_shard.specs.declared.facts.Facts.{Facts}
use Rattle.hs_shard.specs.Facts.{Catalogue, facts_at}
use Rattle.hs_tokens.specs.Seats.{Seats}

-- where a shard still has the block that the entry of a number stored at an address, this points to what an operation writes there; of its bytes nothing is said
abbrev pub PointsAt : Seats → Op → Catalogue → ℕ → Address → Type 0
PointsAt seats o c number a =
    (session payload handles : List ℕ) (f : Facts) → o ≡ op.Write session payload handles (Some a) → facts_at a c ≡ Some f → f.number ≡ number
    → f.pointers ≡ asked_pointers seats session handles

-- so it is with each Mark that waits, and the operation of its line, by the catalogues of shards
abbrev pub ArePointed : Core → (ℕ → Catalogue) → Type 0
ArePointed core catalogues =
    (shard place line least number : ℕ) (a : Address) (w : Waiting) → slice_get (group_of shard core).waiting place ≡ Some (kind.Mark line least number a)
    → operation_of line core ≡ Some w → PointsAt core.sessions w.operation.op (catalogues shard) number a

-- by those of the core
abbrev pub MarksPoint : Core → Type 0
MarksPoint core = ArePointed core (λ shard. catalogue_of shard core)
