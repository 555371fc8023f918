-- What a shard's list of entries amounts to: its catalogue, with the shard's roots.
-- Lists have the kinds View, Block, Mark, Root and Drop here; what an Enter and a Got change is in Runs/.
use Rattle.std.specs.Prelude.{ℕ, ◌+◌, Bool, true, false, not, ◌==◌, ◌&&◌, if◌then◌else◌, List, [], ◌∷◌, length, Option, Some, None, is_none, Result, Ok, Err, nat_le, nat_lt, find, count_by}
use Rattle.std.specs.BTreeMap.{insert_entry, is_at}
use Rattle.std.specs.Map.{lookup, set_value}
use Rattle.hs_limits.specs.declared.address.Address.{Address}
use Rattle.hs_limits.specs.declared.spelling.SpellingFault.{SpellingFault}
use Rattle.hs_limits.specs.Block.{Block}
use Rattle.hs_limits.specs.Limits.{greatest_limits}
use Rattle.hs_limits.specs.Reading.{read_block}
use Rattle.hs_limits.specs.Shape.{shard_of, shard_of_key}
use Rattle.hs_model.specs.Judge.{drop_root, roots_with}
use Rattle.hs_model.specs.Refusals.{keeps_other}
use Rattle.hs_model.specs.Store.{Root, address_cmp, is_retained}
use Rattle.hs_entry.specs.declared.entry.Entry.{Entry}
use Rattle.hs_entry.specs.declared.entry.Entry.TheVariants as kind
use Rattle.hs_fold.specs.Catalogue.{Present, Shard, fresh_present}
use Rattle.hs_fold.specs.Shards.Setting.{Numbered}

-- blocks: the present blocks by address; roots: the root records in the order of the plain store's; epoch, swept: the shard's; view: that of the last View
pub record Catalogue : Type 0 where
  pub blocks : List (Address × Present)
  pub roots : List Root
  pub epoch : ℕ
  pub swept : ℕ
  pub view : ℕ

-- before the first entry
abbrev pub empty_catalogue : Catalogue
empty_catalogue = record { blocks = []; roots = []; epoch = 1; swept = 1; view = 0 }

-- the present block of an address
abbrev pub present_at : Catalogue → Address → Option Present
present_at c a = lookup (is_at (address_cmp a)) c.blocks

-- whether what was given in an epoch may still be used
abbrev pub is_fresh : Catalogue → ℕ → Bool
is_fresh c least = nat_le c.epoch (least + 1)

-- ---- Block

-- whether the shard has room for one block more
abbrev pub has_room : Catalogue → Bool
has_room c = nat_lt (length c.blocks) greatest_limits.blocks

-- whether a block is stored: it is of this shard and absent, its pointers may still be used, and there is room
abbrev pub is_stored : Shard → Catalogue → ℕ → Address → Bool
is_stored at c least a = ((shard_of at.shards a == at.shard && is_none (present_at c a)) && is_fresh c least) && has_room c

-- the catalogue with a block more
abbrev pub with_present : Catalogue → Address → Present → Catalogue
with_present c a kept = record c { blocks = insert_entry address_cmp c.blocks a kept }

-- a Block entry stores the block that its bytes spell
abbrev pub store_block : Shard → Catalogue → ℕ → ℕ → Address → Result Block SpellingFault → Catalogue
store_block at c number least a (Err fault) = c
store_block at c number least a (Ok block) = if is_stored at c least a then with_present c a (fresh_present c.epoch number block) else c

-- ---- Mark

-- whether a block is there by the entry of this number, and may still be used
abbrev pub is_marked : Catalogue → ℕ → ℕ → Option Present → Bool
is_marked c least number None = false
is_marked c least number (Some kept) = kept.number == number && is_fresh c least

-- a block that is given now
abbrev pub marked : ℕ → Option Present → List (Address × Present) → Address → List (Address × Present)
marked epoch None blocks a = blocks
marked epoch (Some kept) blocks a = set_value (is_at (address_cmp a)) blocks (record kept { mark = epoch })

-- a Mark gives the block of its number
abbrev pub give_block : Catalogue → ℕ → ℕ → Address → Catalogue
give_block c least number a =
    if is_marked c least number (present_at c a) then record c { blocks = marked c.epoch (present_at c a) c.blocks a } else c

-- ---- Root and Drop

-- the root that the shard retains under a key
abbrev pub retained_in : Catalogue → List ℕ → Option Root
retained_in c key = find (is_retained key) c.roots

-- how many of some roots are retained
abbrev pub retained_count : List Root → ℕ
retained_count roots = count_by (λ (root : Root). is_none root.dropped) roots

-- whether there is room for a root: its key is retained already, or for one root more
abbrev pub takes_root : List Root → Option Root → Bool
takes_root roots None = nat_lt (retained_count roots) greatest_limits.roots
takes_root roots (Some root) = true

-- whether a root is put: its key is of this shard, what was held may still be used, its key retains no other address, and there is room
abbrev pub is_rooted : Shard → Catalogue → ℕ → Address → List ℕ → Bool
is_rooted at c held a key = ((shard_of_key at.shards key == at.shard && is_fresh c held) && not (keeps_other (retained_in c key) a)) && takes_root c.roots (retained_in c key)

-- a Root entry puts a root; one that is retained already stays as it is
abbrev pub keep_root : Shard → Catalogue → ℕ → Address → List ℕ → Catalogue
keep_root at c held a key =
    if is_rooted at c held a key then record c { roots = roots_with (retained_in c key) c.roots (record { key = key; address = a; dropped = None }) } else c

-- a Drop entry makes the retained root of a key of this shard one that was dropped now; the record stays
abbrev pub drop_key : Shard → Catalogue → List ℕ → Catalogue
drop_key at c key =
    if shard_of_key at.shards key == at.shard then record c { roots = drop_root (retained_in c key) c.roots key c.epoch } else c

-- ---- lists

-- one entry more
abbrev pub apply : Shard → Catalogue → ℕ × Entry → Catalogue
apply at c (number, kind.View view) = record c { view = view }
apply at c (number, kind.Block op least bytes) = store_block at c number least (at.name bytes) (read_block bytes)
apply at c (number, kind.Mark op least block address) = give_block c least block address
apply at c (number, kind.Root op held address key) = keep_root at c held address key
apply at c (number, kind.Drop op key) = drop_key at c key
apply at c (number, kind.Enter op epoch) = c
apply at c (number, kind.Got sender epoch round total deltas) = c
apply at c (number, kind.Base view epoch swept round frames) = c
apply at c (number, kind.KeptBlock born mark flags count bytes) = c
apply at c (number, kind.KeptRoot created dropped counted address key) = c
apply at c (number, kind.KeptRound way other epoch round total deltas) = c

-- some entries more, one after another
abbrev pub apply_all : Shard → Catalogue → Numbered → Catalogue
apply_all at c [] = c
apply_all at c (e ∷ es) = apply_all at (apply at c e) es

-- a whole list
abbrev pub catalogue_of : Shard → Numbered → Catalogue
catalogue_of at entries = apply_all at empty_catalogue entries
