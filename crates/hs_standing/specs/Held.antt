-- What the core holds has addresses of 32 bytes, and a Mark that waits is of the block that its line writes.
use Rattle.std.specs.List.{AllByRecursion}
use Rattle.std.specs.Prelude.{◌≡◌, ℕ, List, Option, Some, length, slice_get}
use Rattle.hs_answered.specs.Asked.{HasBytes}
use Rattle.hs_answered.specs.Standing.{store_with}
use Rattle.hs_awaiting.specs.declared.waiting.Waiting.{Waiting}
use Rattle.hs_core_words.specs.Looking.{group_of, operation_of}
use Rattle.hs_core_words.specs.Seeing.{view_for}
use Rattle.hs_core_words.specs.State.{Core}
use Rattle.hs_entry.specs.declared.entry.Entry.TheVariants as kind
use Rattle.hs_fold.specs.Runs.Facts.{Catalogue as Folded, Facts as FoldedFacts}
use Rattle.hs_fold.specs.Runs.Facts.{facts_at}
use Rattle.hs_fold.specs.Runs.Fits.{catalogue_at}
use Rattle.hs_limits.specs.declared.address.Address.{Address}
use Rattle.hs_limits.specs.declared.address.Held.{Held}
use Rattle.hs_model.specs.declared.op.Op.{Op}
use Rattle.hs_model.specs.declared.op.Op.TheVariants as op
use Rattle.hs_model.specs.Judge.{given_address}
use Rattle.hs_model.specs.Store.{block_at, block_of}
use Rattle.hs_ops.specs.Operations.{wanted_number}
use Rattle.hs_ops.specs.Speaking.{asked_block}
use Rattle.hs_roots.specs.declared.root.RootRecord.{RootRecord}
use Rattle.hs_shard.specs.declared.facts.Facts.{Facts}
use Rattle.hs_shard.specs.Facts.{Catalogue}
use Rattle.hs_tokens.specs.Seats.{Seat, Seats}

-- ---- addresses

-- an address has 32 bytes, as every address that a program holds
abbrev pub Has32Bytes : Address → Type 0
Has32Bytes a = length a.0 ≡ 32

-- so has every name that is given
abbrev pub GivesAddresses : (List ℕ → Address) → Type 0
GivesAddresses name = (bytes : List ℕ) → Has32Bytes (name bytes)

-- so has what each handle of an open session stands for
abbrev pub StandForAddresses : Seats → Type 0
StandForAddresses seats = AllByRecursion (λ (e : List ℕ × Seat). AllByRecursion (λ (h : ℕ × Held). Has32Bytes h.1.address) e.1.handles) seats

-- and so have the address of each block of a shard, its pointers, and what each root keeps
pub record KeepsAddresses (c : Catalogue) : Type 0 where
  pub blocks : AllByRecursion (λ (e : Address × Facts). Has32Bytes e.0 × AllByRecursion Has32Bytes e.1.pointers) c.blocks
  pub roots : AllByRecursion (λ (root : RootRecord). Has32Bytes root.address) c.roots

-- so it is with all sessions and all shards of a core
pub record AreAddressed (core : Core) : Type 0 where
  pub sessions : StandForAddresses core.sessions
  pub catalogues : AllByRecursion KeepsAddresses core.catalogues

-- ---- blocks that are there already

-- where a shard still has the block that the entry of a number stored at an address, this is the one that an operation writes there
abbrev pub IsOfWrite : Seats → Op → Folded → ℕ → Address → Type 0
IsOfWrite seats o c number a =
    (session payload handles : List ℕ) (f : FoldedFacts) → o ≡ op.Write session payload handles (Some a) → facts_at c a ≡ Some f → f.present.number ≡ number
    → block_of f.present.stored ≡ asked_block seats session payload handles

-- so it is with each Mark that waits, and the operation of its line
abbrev pub AreWritten : Core → List Folded → Type 0
AreWritten core cs =
    (shard place line least number : ℕ) (a : Address) (w : Waiting) → slice_get (group_of shard core).waiting place ≡ Some (kind.Mark line least number a)
    → operation_of line core ≡ Some w → IsOfWrite core.sessions w.operation.op (catalogue_at cs shard) number a

-- a write is told the bytes of the block that it wants, as long as that is there
abbrev pub AreItsBytes : List Folded → Core → Option (List ℕ) → Waiting → Type 0
AreItsBytes cs core bytes w =
    (session payload handles : List ℕ) (address : Option Address) → w.operation.op ≡ op.Write session payload handles address
    → (view_for w.shard w.operation.op core).present ≡ Some (wanted_number w.operation.stage)
    → HasBytes (block_at (store_with cs core.sessions) (given_address address)) bytes
