-- What the definitions give for two shards: lists with blocks and roots, a root of the other shard's key, a root that is dropped and put again.
use Rattle.std.proofs.Common.{◌≡◌, ℕ, ◌-◌, true, false, List, [], ◌∷◌, ◌++◌, length, map, replicate, slice_index, Some, None, refl}
use Rattle.hs_limits.specs.declared.address.Address.{Address}
use Rattle.hs_limits.specs.Block.{Block, spell}
use Rattle.hs_limits.specs.Limits.{greatest_limits}
use Rattle.hs_limits.specs.Reading.{read_block, block_at, addresses}
use Rattle.hs_model.specs.declared.course.CourseItem.{CourseItem}
use Rattle.hs_model.specs.declared.course.CourseItem.TheVariants as item
use Rattle.hs_model.specs.Store.{Root}
use Rattle.hs_entry.specs.declared.entry.Entry.TheVariants as kind
use Rattle.hs_fold.specs.Catalogue.{Present}
use Rattle.hs_fold.specs.Shards.Catalogue.{catalogue_of}
use Rattle.hs_fold.specs.Shards.Change.{gives, keeps, drops}
use Rattle.hs_fold.specs.Shards.Course.{begins, was_good}
use Rattle.hs_fold.specs.Shards.Happening.{changes}
use Rattle.hs_fold.specs.Shards.Opened.{catalogues, store_of}
use Rattle.hs_fold.specs.Shards.Parted.{Parted, behind_happenings}
use Rattle.hs_fold.specs.Shards.Pending.{changing_lines, pending}
use Rattle.hs_fold.specs.Shards.Prefix.{base_of}
use Rattle.hs_fold.specs.Shards.Setting.{Numbered, Setting, shard_in}
use Rattle.hs_fold.specs.Shards.Sound.{views_of}

-- an address that ends so
abbrev a : ℕ → Address
a byte = record { 0 = replicate 31 0 ++ byte ∷ [] }

-- a block is named by its last byte
abbrev set : Setting
set = record {
  name = λ bytes. a (slice_index bytes (length bytes - 1));
  limits = greatest_limits;
  shape = record { shards = 2; copies = 1 };
}

abbrev leaf : Block
leaf = record { pointers = []; bytes = 6 ∷ [] }

abbrev parent : Block
parent = record { pointers = a 6 ∷ []; bytes = 7 ∷ [] }

abbrev key : ℕ → List ℕ
key byte = byte ∷ []

abbrev kept : Block → ℕ → Present
kept block number = record { number = number; stored = record { pointers = block.pointers; bytes = block.bytes; born = 1 }; mark = 1 }

abbrev standing : ℕ → ℕ → Root
standing k byte = record { key = key k; address = a byte; dropped = None }

abbrev gone : ℕ → ℕ → Root
gone k byte = record { key = key k; address = a byte; dropped = Some 1 }

-- the shard of even bytes: a block, stored once, given again, and roots that are put against the order of their addresses
abbrev even : Numbered
even = (1, kind.View 1) ∷ (2, kind.Block 2 1 (spell leaf)) ∷ (3, kind.Block 3 1 (spell leaf)) ∷ (4, kind.Mark 4 1 2 (a 6)) ∷ (5, kind.Root 5 1 (a 6) (key 100)) ∷ (6, kind.Root 6 1 (a 7) (key 98)) ∷ []

evens : catalogue_of (shard_in set 0) even ≡ record { blocks = (a 6, kept leaf 2) ∷ []; roots = standing 98 7 ∷ standing 100 6 ∷ []; epoch = 1; swept = 1; view = 1 }
unfolding read_block block_at addresses
evens = refl

-- the shard of odd bytes: its block points to the other shard's; a Root of the other's key does nothing; one is dropped, which keeps its record, and put again
abbrev odd : Numbered
odd = (1, kind.View 1) ∷ (2, kind.Block 7 1 (spell parent)) ∷ (3, kind.Root 8 1 (a 7) (key 98)) ∷ (4, kind.Root 9 1 (a 7) (key 97)) ∷ (5, kind.Drop 10 (key 97)) ∷ (6, kind.Root 11 1 (a 6) (key 97)) ∷ (7, kind.Drop 12 (key 99)) ∷ []

odds : catalogue_of (shard_in set 1) odd ≡ record { blocks = (a 7, kept parent 2) ∷ []; roots = gone 97 7 ∷ standing 97 6 ∷ []; epoch = 1; swept = 1; view = 1 }
unfolding read_block block_at addresses
odds = refl

-- the store of both: roots by key, then by the epoch of the drop, then by address
both_open : store_of (catalogues set 0 (even ∷ odd ∷ [])) ≡ record {
  blocks = (a 6, record { pointers = []; bytes = 6 ∷ []; born = 1 }) ∷ (a 7, record { pointers = a 6 ∷ []; bytes = 7 ∷ []; born = 1 }) ∷ [];
  given = (a 6, 1) ∷ (a 7, 1) ∷ [];
  roots = gone 97 7 ∷ standing 97 6 ∷ standing 98 7 ∷ standing 100 6 ∷ [];
  epochs = 1 ∷ 1 ∷ [];
  swept = 1 ∷ 1 ∷ [];
  sessions = [];
}
unfolding read_block block_at addresses
both_open = refl

-- ---- the same with what is behind the first two entries of each

abbrev parts : List Parted
parts = record {
  done = (1, kind.View 1) ∷ (2, kind.Block 2 1 (spell leaf)) ∷ [];
  back = (3, kind.Block 3 1 (spell leaf)) ∷ (4, kind.Mark 4 1 2 (a 6)) ∷ (5, kind.Root 5 1 (a 6) (key 100)) ∷ (6, kind.Root 6 1 (a 7) (key 98)) ∷ [];
} ∷ record {
  done = (1, kind.View 1) ∷ (2, kind.Block 7 1 (spell parent)) ∷ [];
  back = (3, kind.Root 8 1 (a 7) (key 98)) ∷ (4, kind.Root 9 1 (a 7) (key 97)) ∷ (5, kind.Drop 10 (key 97)) ∷ (6, kind.Root 11 1 (a 6) (key 97)) ∷ (7, kind.Drop 12 (key 99)) ∷ [];
} ∷ []

behind_parts : behind_happenings set 0 parts
    ≡ changes (gives 1 (a 6)) ∷ changes (keeps 1 (a 6) (key 100)) ∷ changes (keeps 1 (a 7) (key 98)) ∷ changes (keeps 1 (a 7) (key 97)) ∷ changes (drops (key 97)) ∷ changes (keeps 1 (a 6) (key 97)) ∷ changes (drops (key 99)) ∷ []
unfolding read_block block_at addresses
behind_parts = refl

-- the lines of what happens: neither that of the block that was there, nor that of the root of the other shard's key
pending_lines : changing_lines (pending set (λ shard. 2) 0 (even ∷ odd ∷ [])) ≡ 4 ∷ 5 ∷ 6 ∷ 9 ∷ 10 ∷ 11 ∷ 12 ∷ []
unfolding read_block block_at addresses
pending_lines = refl

-- ---- views, Bases, courses

views : views_of ((1, kind.View 1) ∷ (4, kind.Base 2 1 1 0 0) ∷ (5, kind.View 3) ∷ []) ≡ 1 ∷ 2 ∷ 3 ∷ []
views = refl

base : base_of ((4, kind.Base 2 1 1 0 0) ∷ (5, kind.View 3) ∷ []) ≡ 4
unfolding base_of
base = refl

-- the copy of greater rank of each shard begins the course, whatever its moment; the other copies are good once the store is open
abbrev course : List CourseItem
course = item.Good 1 3 ∷ item.Took 0 4 3 ∷ item.Good 2 3 ∷ item.Took 1 5 3 ∷ item.Good 0 3 ∷ item.Good 3 9 ∷ item.Took 0 5 11 ∷ []

beginning : map (λ peer. begins 2 course peer) (0 ∷ 1 ∷ 2 ∷ 3 ∷ []) ≡ false ∷ true ∷ true ∷ false ∷ []
beginning = refl

good_below_nine : map (λ peer. was_good course 9 peer) (0 ∷ 1 ∷ 2 ∷ 3 ∷ []) ≡ true ∷ true ∷ true ∷ false ∷ []
good_below_nine = refl
