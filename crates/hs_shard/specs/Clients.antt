-- What clients' entries do to a catalogue: a new block and a new root do not count yet.
use Rattle.std.specs.Prelude.{ℕ, ◌==◌, ◌&&◌, ◌||◌, false, not, if◌then◌else◌, List, [], Option, Some, None, is_none, is_some, Result, Ok, Err}
use Rattle.std.specs.BTreeMap.{insert_entry, is_at}
use Rattle.std.specs.Map.{set_value}
use Rattle.std.specs.Option.{option_map, option_map_or}
use Rattle.hs_desk.specs.declared.what.What.{What}
use Rattle.hs_desk.specs.declared.what.What.TheVariants.{Again, Dropped, Marked, Nothing, Refused, Rooted, Stored}
use Rattle.hs_limits.specs.declared.address.Address.{Address}
use Rattle.hs_limits.specs.declared.spelling.SpellingFault.{SpellingFault}
use Rattle.hs_limits.specs.Block.{Block}
use Rattle.hs_limits.specs.Limits.{greatest_limits}
use Rattle.hs_limits.specs.Shape.{shard_of_key}
use Rattle.hs_model.specs.Store.{address_cmp}
use Rattle.hs_roots.specs.declared.fault.RootFault.{RootFault}
use Rattle.hs_roots.specs.Refusals.{put_refusal}
use Rattle.hs_roots.specs.Roots.{retained_of}
use Rattle.hs_roots.specs.Roots.{put_root as with_root, drop_root as without_root}
use Rattle.hs_shard.specs.declared.effect.Effect.{Effect}
use Rattle.hs_shard.specs.declared.facts.Facts.{Facts}
use Rattle.hs_shard.specs.Facts.{BlockList, Catalogue, facts_at, facts_in, has_room, is_fresh, is_mine}

-- what an entry leaves, and its effect
pub record Applied : Type 0 where
  pub catalogue : Catalogue
  pub effect : Effect

abbrev pub applied : Catalogue → Effect → Applied
applied c effect = record { catalogue = c; effect = effect }

-- an effect that sends and removes nothing
abbrev pub only : What → Catalogue → Applied
only what c = record { catalogue = c; effect = record { what = what; sends = []; removed = None } }

-- ---- blocks

-- a block that is stored now
abbrev pub new_facts : ℕ → ℕ → List Address → Facts
new_facts number epoch pointers = record { number = number; born = epoch; mark = epoch; counted = false; zero = false; count = 0; pointers = pointers }

abbrev pub with_block : Address → Facts → Catalogue → Catalogue
with_block a f c = record c { blocks = insert_entry address_cmp c.blocks a f }

-- a Block stores the block that its bytes spell, if it is absent and of this shard, its pointers may still be used, and there is room
abbrev pub store_block : ℕ → ℕ → Address → Result Block SpellingFault → Catalogue → Applied
store_block number least a (Err fault) c = only Nothing c
store_block number least a (Ok block) c =
    if not (is_mine a c) || is_some (facts_at a c) then only Nothing c else
    if not (is_fresh least c && has_room c) then only Refused c else
    only Stored (with_block a (new_facts number c.epoch block.pointers) c)

-- with these facts of a present block
abbrev pub put_facts : Address → Option Facts → BlockList → BlockList
put_facts a None blocks = blocks
put_facts a (Some f) blocks = set_value (is_at (address_cmp a)) blocks f

-- the facts of a block changed, if it is present
abbrev pub change_at : Address → (Facts → Facts) → BlockList → BlockList
change_at a change blocks = put_facts a (option_map change (facts_in a blocks)) blocks

-- a block that is given in an epoch
abbrev pub give : ℕ → Facts → Facts
give epoch f = record f { mark = epoch }

-- a Mark gives the block of an entry's number, if it is still there and may still be used
abbrev pub mark_block : ℕ → ℕ → Address → Catalogue → Applied
mark_block least number a c =
    if not (option_map_or (λ f. f.number == number) (facts_at a c) false) then only Again c else
    if not (is_fresh least c) then only Refused c else
    only Marked (record c { blocks = change_at a (give c.epoch) c.blocks })

-- ---- roots

-- why a root is not put: its key retains another address, or there is no room
abbrev pub root_refusal : Address → List ℕ → Catalogue → Option RootFault
root_refusal a key c = put_refusal (record { roots = c.roots; limit = greatest_limits.roots }) a (retained_of key c.roots)

-- a Root retains an address under a key of this shard, if what was held may still be used; one that is retained already stays as it is
abbrev pub put_root : ℕ → Address → List ℕ → Catalogue → Applied
put_root held a key c =
    if not (shard_of_key c.shape.shards key == c.shard) then only Nothing c else
    if not (is_fresh held c) || is_some (root_refusal a key c) then only Refused c else
    only Rooted (record c { roots = with_root key a c.epoch c.roots })

-- a Drop ends the retention of a key
abbrev pub drop_root : List ℕ → Catalogue → Applied
drop_root key c =
    if is_none (retained_of key c.roots) then only Refused c else
    only Dropped (record c { roots = without_root key c.epoch c.roots })
