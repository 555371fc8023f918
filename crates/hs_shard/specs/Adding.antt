-- Parts of a plain store while a shard's are added, for private clauses.
use Rattle.std.specs.Prelude.{◌≡◌, ℕ, false, List, [], map, AllPairs}
use Rattle.std.specs.List.Sorted.{IsStrictlySortedBy}
use Rattle.std.specs.Map.{keys_of}
use Rattle.std.specs.Ordering.{is_gt}
use Rattle.hs_limits.specs.declared.address.Address.{Address}
use Rattle.hs_limits.specs.declared.address.Held.{Held}
use Rattle.hs_model.specs.declared.plain.PlainBlock.{PlainBlock}
use Rattle.hs_model.specs.declared.plain.PlainRoot.{PlainRoot}
use Rattle.hs_model.specs.declared.store.StoredBlock.{StoredBlock}
use Rattle.hs_model.specs.Plain.{entry_of, root_of}
use Rattle.hs_model.specs.Store.{Root, address_cmp, root_cmp}
use Rattle.hs_shard.specs.declared.plain_blocks.Outline.{Outline}

-- an outline as a block
abbrev pub outlined : List (Address × Outline) → List (Address × StoredBlock)
outlined es = map (λ e. (e.0, record { pointers = e.1.pointers; bytes = []; born = e.1.born })) es

-- the lists of a plain store as the plain store has them
abbrev pub listed_blocks : List PlainBlock → List (Address × StoredBlock)
listed_blocks blocks = map entry_of blocks

abbrev pub listed_given : List Held → List (Address × ℕ)
listed_given given = map (λ held. (held.address, held.epoch)) given

abbrev pub listed_roots : List PlainRoot → List Root
listed_roots roots = map root_of roots

-- by address, each once
abbrev pub AscendBlocks : List PlainBlock → Type 0
AscendBlocks blocks = IsStrictlySortedBy address_cmp (keys_of (listed_blocks blocks))

abbrev pub AscendGiven : List Held → Type 0
AscendGiven given = IsStrictlySortedBy address_cmp (keys_of (listed_given given))

-- no root comes after a later one
abbrev pub RiseInOrder : List PlainRoot → Type 0
RiseInOrder roots = AllPairs (λ first later. is_gt (root_cmp first later) ≡ false) (listed_roots roots)
