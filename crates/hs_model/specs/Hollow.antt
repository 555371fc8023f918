-- Stores that keep their blocks' bytes elsewhere.
use Rattle.std.specs.Prelude.{List, [], Option, Some, None, map}
use Rattle.hs_limits.specs.declared.address.Address.{Address}
use Rattle.hs_model.specs.declared.op.Op.{Op}
use Rattle.hs_model.specs.declared.op.Op.TheVariants as op
use Rattle.hs_model.specs.declared.store.StoredBlock.{StoredBlock}
use Rattle.hs_model.specs.Judge.{given_address, address_of}
use Rattle.hs_model.specs.Store.{Store}

-- a block without its bytes
abbrev pub without_bytes : StoredBlock → StoredBlock
without_bytes stored = record stored { bytes = [] }

-- blocks without theirs
abbrev pub hollow_blocks : List (Address × StoredBlock) → List (Address × StoredBlock)
hollow_blocks blocks = map (λ e. (e.0, without_bytes e.1)) blocks

-- a store without the bytes of its blocks
abbrev pub hollow : Store → Store
hollow s = record s { blocks = hollow_blocks s.blocks }

-- the address whose block's bytes an operation looks at, where there is one
abbrev pub looks_at : Store → Op → Option Address
looks_at s (op.Write name payload handles address) = Some (given_address address)
looks_at s (op.Read name handle) = Some (address_of s name handle)
looks_at s other = None
