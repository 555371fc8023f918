-- Texts of audits, computed.
use Rattle.std.proofs.Common.{◌≡◌, ℕ, Option, None, Some, [], ◌∷◌, List, refl}
use Rattle.std.specs.Fmt.{digits}
use Rattle.std.specs.Prelude.{codes}
use Rattle.hex.proofs.OnLiterals.{hex_on_literals}
use Rattle.hs_limits.specs.declared.address.Address.{Address}
use Rattle.hs_model.specs.declared.store.StoredBlock.{StoredBlock}
use Rattle.hs_model.specs.Store.{Root, empty_store}
use Rattle.hs_audit.specs.Missing.{missing}
use Rattle.hs_audit.specs.Text.{report, shard_line}

-- what an example computes with
unfoldable computing : Unit {0}
unfolding report shard_line missing digits hex_on_literals
computing = tt

-- an address, of whose bytes only the last is not 1
abbrev named : ℕ → Address
named n = record { 0 = 1 ∷ 1 ∷ 1 ∷ 1 ∷ 1 ∷ 1 ∷ 1 ∷ 1 ∷ 1 ∷ 1 ∷ 1 ∷ 1 ∷ 1 ∷ 1 ∷ 1 ∷ 1 ∷ 1 ∷ 1 ∷ 1 ∷ 1 ∷ 1 ∷ 1 ∷ 1 ∷ 1 ∷ 1 ∷ 1 ∷ 1 ∷ 1 ∷ 1 ∷ 1 ∷ 1 ∷ n ∷ [] }

abbrev pointing_to : List Address → StoredBlock
pointing_to pointers = record { pointers = pointers; bytes = []; born = 1 }

abbrev keeping : ℕ → Address → Option ℕ → Root
keeping key a dropped = record { key = key ∷ []; address = a; dropped = dropped }

-- nothing was written
an_empty_store : report (empty_store 1) ≡ codes "shard 0 epoch 1 swept 1 blocks 0 roots 0 garbage 0\naudit ok\n"
unfolding computing
an_empty_store = refl

-- one block was written, in an epoch in which it is an anchor of the next run still
one_block : report (record (empty_store 1) { blocks = (named 7, pointing_to []) ∷ []; given = (named 7, 1) ∷ [] })
    ≡ codes "shard 0 epoch 1 swept 1 blocks 1 roots 0 garbage 0\naudit ok\n"
unfolding computing
one_block = refl

-- a root keeps a block of shard 1, which points to one of shard 0; a third one is garbage
two_shards : report (record (empty_store 2) {
  blocks = (named 2, pointing_to []) ∷ (named 3, pointing_to (named 2 ∷ [])) ∷ (named 4, pointing_to []) ∷ [];
  given = (named 2, 1) ∷ (named 3, 1) ∷ (named 4, 1) ∷ [];
  roots = keeping 97 (named 3) None ∷ [];
  epochs = 3 ∷ 3 ∷ [];
  swept = 3 ∷ 2 ∷ [];
}) ≡ codes "shard 0 epoch 3 swept 3 blocks 2 roots 0 garbage 1\nshard 1 epoch 3 swept 2 blocks 1 roots 1 garbage 0\naudit ok\n"
unfolding computing
two_shards = refl

-- two roots reach one address that is not present; the address that a dropped one keeps is not told
a_missing_block : report (record (empty_store 1) {
  blocks = (named 3, pointing_to (named 9 ∷ named 2 ∷ named 9 ∷ [])) ∷ [];
  given = (named 3, 1) ∷ [];
  roots = keeping 97 (named 3) None ∷ keeping 98 (named 9) None ∷ keeping 99 (named 5) (Some 1) ∷ [];
}) ≡ codes "shard 0 epoch 1 swept 1 blocks 1 roots 2 garbage 0\nmissing 0101010101010101010101010101010101010101010101010101010101010102\nmissing 0101010101010101010101010101010101010101010101010101010101010109\naudit bad 2\n"
unfolding computing
a_missing_block = refl
