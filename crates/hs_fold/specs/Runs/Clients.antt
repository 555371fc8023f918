-- What clients' entries do to a catalogue: a new block and a new root do not count yet.
use Rattle.std.specs.Prelude.{ℕ, false, ◌==◌, ◌&&◌, if◌then◌else◌, List, map, Option, Some, None, is_none, Result, Ok, Err}
use Rattle.std.specs.BTreeMap.{insert_entry, is_at}
use Rattle.std.specs.Map.{set_value}
use Rattle.std.specs.Option.{option_map}
use Rattle.hs_limits.specs.declared.address.Address.{Address}
use Rattle.hs_limits.specs.declared.spelling.SpellingFault.{SpellingFault}
use Rattle.hs_limits.specs.Block.{Block}
use Rattle.hs_limits.specs.Shape.{shard_of_key}
use Rattle.hs_model.specs.Store.{address_cmp, is_retained}
use Rattle.hs_roots.specs.ByKey.{insert_by_key}
use Rattle.hs_fold.specs.Catalogue.{Present, Shard, fresh_present}
use Rattle.hs_fold.specs.Shards.Catalogue.{is_stored, is_marked, is_rooted, retained_in}
use Rattle.hs_fold.specs.Runs.Facts.{Facts, RootFacts, Catalogue, facts_at, plain}

-- a block as it is when it is stored
abbrev pub new_facts : Present → Facts
new_facts present = record { present = present; counted = false; zero = false; count = 0 }

-- a Block entry stores the block that its bytes spell
abbrev pub store_block : Shard → Catalogue → ℕ → ℕ → Address → Result Block SpellingFault → Catalogue
store_block at c number least a (Err fault) = c
store_block at c number least a (Ok block) =
    if is_stored at (plain c) least a then record c { blocks = insert_entry address_cmp c.blocks a (new_facts (fresh_present c.epoch number block)) } else c

-- a block that is given now
abbrev pub remark : ℕ → Facts → Facts
remark epoch f = record f { present = record f.present { mark = epoch } }

abbrev pub marked : ℕ → Option Facts → List (Address × Facts) → Address → List (Address × Facts)
marked epoch None blocks a = blocks
marked epoch (Some f) blocks a = set_value (is_at (address_cmp a)) blocks (remark epoch f)

-- a Mark gives the block of its number
abbrev pub give_block : Catalogue → ℕ → ℕ → Address → Catalogue
give_block c least number a = if is_marked (plain c) least number (option_map (λ f. f.present) (facts_at c a)) then record c { blocks = marked c.epoch (facts_at c a) c.blocks a } else c

-- a root as it is when it is put
abbrev pub new_root : ℕ → Address → List ℕ → RootFacts
new_root epoch a key = record { root = record { key = key; address = a; dropped = None }; created = epoch; counted = false }

-- the roots with one more: by key, behind those of its own key
abbrev pub insert_root : RootFacts → List RootFacts → List RootFacts
insert_root new roots = insert_by_key (λ (r : RootFacts). r.root.key) new roots

-- a Root entry puts a root; one that is retained already stays as it is
abbrev pub keep_root : Shard → Catalogue → ℕ → Address → List ℕ → Catalogue
keep_root at c held a key =
    if is_rooted at (plain c) held a key && is_none (retained_in (plain c) key) then record c { roots = insert_root (new_root c.epoch a key) c.roots } else c

-- a retained root of this key is one that was dropped now
abbrev pub end_retention : List ℕ → ℕ → RootFacts → RootFacts
end_retention key epoch r = if is_retained key r.root then record r { root = record r.root { dropped = Some epoch } } else r

-- a Drop entry ends the retention of a key of this shard
abbrev pub drop_key : Shard → Catalogue → List ℕ → Catalogue
drop_key at c key = if shard_of_key at.shards key == at.shard then record c { roots = map (end_retention key c.epoch) c.roots } else c
