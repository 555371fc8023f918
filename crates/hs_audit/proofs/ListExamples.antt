-- Texts of audits of worked lists, computed.
use Rattle.std.proofs.Common.{◌≡◌, ℕ, ◌-◌, ◌++◌, [], ◌∷◌, length, refl, replicate, slice_index}
use Rattle.std.specs.Fmt.{digits}
use Rattle.std.specs.Prelude.{codes}
use Rattle.hex.proofs.OnLiterals.{hex_on_literals}
use Rattle.hs_audit.specs.Missing.{missing}
use Rattle.hs_audit.specs.Text.{audit_text, report, shard_line}
use Rattle.hs_entry.specs.declared.entry.Entry.TheVariants as kind
use Rattle.hs_entry.specs.Entries.{rank_of}
use Rattle.hs_fold.specs.Shards.Setting.{Numbered, Setting}
use Rattle.hs_limits.specs.Block.{Block, spell}
use Rattle.hs_limits.specs.declared.address.Address.{Address}
use Rattle.hs_limits.specs.Limits.{greatest_limits}
use Rattle.hs_limits.specs.Reading.{addresses, block_at, read_block}

-- what an example computes with
unfoldable computing : Unit {0}
unfolding report shard_line missing digits hex_on_literals read_block block_at addresses rank_of
computing = tt

-- an address that ends so; a block is named by its last byte
abbrev a : ℕ → Address
a byte = record { 0 = replicate 31 0 ++ byte ∷ [] }

abbrev of : ℕ → ℕ → Setting
of shards copies = record {
  name = λ bytes. a (slice_index bytes (length bytes - 1));
  limits = greatest_limits;
  shape = record { shards = shards; copies = copies };
}

abbrev child : Block
child = record { pointers = []; bytes = 97 ∷ 98 ∷ [] }

abbrev parent : Block
parent = record { pointers = a 98 ∷ []; bytes = 112 ∷ [] }

-- `write a 6162`: one block, as it stands in the log of the first run
abbrev first : Numbered
first = (1, kind.View 1) ∷ (2, kind.Block 2 281474976710655 (spell child)) ∷ []

one_block : audit_text (of 1 1) (first ∷ []) ≡ codes "shard 0 epoch 1 swept 1 blocks 1 roots 0 garbage 0\naudit ok\n"
unfolding computing
one_block = refl

-- blank disks
no_entry : audit_text (of 1 2) ([] ∷ [] ∷ []) ≡ codes "shard 0 epoch 1 swept 1 blocks 0 roots 0 garbage 0\naudit ok\n"
unfolding computing
no_entry = refl

-- of two copies the longer list is of a lower view: the other counts
abbrev longer : Numbered
longer = first ++ (3, kind.Block 4 1 (spell parent)) ∷ (4, kind.Root 6 1 (a 112) (107 ∷ [])) ∷ []

abbrev later : Numbered
later = first ++ (3, kind.View 2) ∷ []

lower_view : audit_text (of 1 2) (longer ∷ later ∷ []) ≡ codes "shard 0 epoch 1 swept 1 blocks 1 roots 0 garbage 0\naudit ok\n"
unfolding computing
lower_view = refl

-- a root keeps a block that points to another: both are there
whole_tree : audit_text (of 1 2) ([] ∷ longer ∷ []) ≡ codes "shard 0 epoch 1 swept 1 blocks 2 roots 1 garbage 0\naudit ok\n"
unfolding computing
whole_tree = refl

-- a bit of the child's data is another: its address is another then, and that which the root reaches is gone
abbrev flipped : Numbered
flipped = (1, kind.View 1) ∷ (2, kind.Block 2 281474976710655 (spell (record child { bytes = 97 ∷ 99 ∷ [] }))) ∷ (3, kind.Block 4 1 (spell parent)) ∷ (4, kind.Root 6 1 (a 112) (107 ∷ [])) ∷ []

a_flipped_bit : audit_text (of 1 1) (flipped ∷ []) ≡ codes "shard 0 epoch 1 swept 1 blocks 2 roots 1 garbage 0\nmissing 0000000000000000000000000000000000000000000000000000000000000062\naudit bad 1\n"
unfolding computing
a_flipped_bit = refl
