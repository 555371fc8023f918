-- What an entry rests on when it comes.
use Rattle.std.specs.Prelude.{◌≡◌, ℕ, Bool, true, false, List, Ok, Some, Contains, slice_index_or}
use Rattle.hs_limits.specs.declared.address.Address.{Address}
use Rattle.hs_limits.specs.Block.{Block}
use Rattle.hs_limits.specs.Reading.{read_block}
use Rattle.hs_model.specs.Reach.{IsReached}
use Rattle.hs_model.specs.Store.{Store}
use Rattle.hs_laws.specs.Valid.{rests_on}
use Rattle.hs_entry.specs.declared.entry.Entry.{Entry}
use Rattle.hs_entry.specs.declared.entry.Entry.TheVariants as kind
use Rattle.hs_fold.specs.Catalogue.{Present}
use Rattle.hs_fold.specs.Shards.Catalogue.{Catalogue, empty_catalogue, is_fresh, present_at}
use Rattle.hs_fold.specs.Shards.Opened.{store_of}

-- the catalogue of a shard
abbrev pub catalogue_at : List Catalogue → ℕ → Catalogue
catalogue_at cs shard = slice_index_or cs shard empty_catalogue

-- an address is reached from what was given, or stands as a root, in this epoch or later
abbrev pub Rests : Store → ℕ → Address → Type 0
Rests s epoch a = IsReached s (rests_on s epoch) a

-- so is each of some
abbrev pub EachRests : Store → ℕ → List Address → Type 0
EachRests s epoch pointers = (pointer : Address) → Contains pointers pointer → Rests s epoch pointer

-- where what a Block holds may still be used, its pointers rest on that
abbrev pub BlockRests : Store → Catalogue → ℕ → List ℕ → Type 0
BlockRests s c least bytes = is_fresh c least ≡ true → (block : Block) → read_block bytes ≡ Ok block → EachRests s least block.pointers

-- so do the pointers of the block that a Mark gives
abbrev pub MarkRests : Store → Catalogue → ℕ → ℕ → Address → Type 0
MarkRests s c least number a =
    is_fresh c least ≡ true → (kept : Present) → present_at c a ≡ Some kept → kept.number ≡ number → EachRests s least kept.stored.pointers

-- and the address of a Root
abbrev pub RootRests : Store → Catalogue → ℕ → Address → Type 0
RootRests s c held a = is_fresh c held ≡ true → Rests s held a

-- an entry of a shard may come where the catalogues are these; what changes nothing rests on nothing
abbrev pub MayCome : List Catalogue → ℕ → Entry → Type 0
MayCome cs shard (kind.View view) = Unit {0}
MayCome cs shard (kind.Block op least bytes) = BlockRests (store_of cs) (catalogue_at cs shard) least bytes
MayCome cs shard (kind.Mark op least block address) = MarkRests (store_of cs) (catalogue_at cs shard) least block address
MayCome cs shard (kind.Root op held address key) = RootRests (store_of cs) (catalogue_at cs shard) held address
MayCome cs shard (kind.Drop op key) = Unit {0}
MayCome cs shard (kind.Enter op epoch) = Unit {0}
MayCome cs shard (kind.Got sender epoch round total deltas) = Unit {0}
MayCome cs shard (kind.Base view epoch swept round frames) = Unit {0}
MayCome cs shard (kind.KeptBlock born mark flags count bytes) = Unit {0}
MayCome cs shard (kind.KeptRoot created dropped counted address key) = Unit {0}
MayCome cs shard (kind.KeptRound way other epoch round total deltas) = Unit {0}

-- whether an entry puts a root
abbrev pub puts_root : Entry → Bool
puts_root (kind.Root op held address key) = true
puts_root other = false
