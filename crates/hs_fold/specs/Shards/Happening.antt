-- What entries do to the plain store: changes of clients, and inner events.
use Rattle.std.specs.Prelude.{ℕ, ◌==◌, ◌&&◌, if◌then◌else◌, List, [], ◌∷◌, Option, Some, None, is_none, Result, Ok, Err, IsTrue}
use Rattle.hs_limits.specs.declared.address.Address.{Address}
use Rattle.hs_limits.specs.declared.spelling.SpellingFault.{SpellingFault}
use Rattle.hs_limits.specs.Block.{Block}
use Rattle.hs_limits.specs.Reading.{read_block}
use Rattle.hs_limits.specs.Shape.{shard_of, shard_of_key}
use Rattle.hs_model.specs.Inner.{may_enter, enter, may_sweep, sweep}
use Rattle.hs_model.specs.Store.{Store}
use Rattle.hs_entry.specs.declared.entry.Entry.{Entry}
use Rattle.hs_entry.specs.declared.entry.Entry.TheVariants as kind
use Rattle.hs_fold.specs.Catalogue.{Present, Shard}
use Rattle.hs_fold.specs.Shards.Catalogue.{Catalogue, present_at, apply}
use Rattle.hs_fold.specs.Shards.Change.{Change, stores, gives, keeps, drops, change}
use Rattle.hs_fold.specs.Shards.Setting.{Numbered}

-- a client's operation changes the store, a shard enters its next epoch, or a shard sweeps its epoch
pub data Happening : Type 0 where
  changes : Change → Happening
  enters : ℕ → Happening
  sweeps : ℕ → Happening

-- ---- in the plain store

-- the store after it
abbrev pub happen : Store → Happening → Store
happen s (changes one) = change s one
happen s (enters shard) = enter s shard
happen s (sweeps shard) = sweep s shard

-- the store after some, one after another
abbrev pub happen_all : Store → List Happening → Store
happen_all s [] = s
happen_all s (one ∷ rest) = happen_all (happen s one) rest

-- a change may always come, and an inner event where it is allowed
abbrev pub MayHappen : Store → Happening → Type 0
MayHappen s (changes one) = Unit {0}
MayHappen s (enters shard) = IsTrue (may_enter s shard)
MayHappen s (sweeps shard) = IsTrue (may_sweep s shard)

-- so each of some, when it came
abbrev pub AreLegal : Store → List Happening → Type 0
AreLegal s [] = Unit {0}
AreLegal s (one ∷ rest) = MayHappen s one × AreLegal (happen s one) rest

-- ---- by entries

-- a Block whose address is present, or of another shard, changes nothing
abbrev pub block_happens : Shard → Catalogue → ℕ → Address → Result Block SpellingFault → Option Happening
block_happens at c least a (Err fault) = None
block_happens at c least a (Ok block) =
    if shard_of at.shards a == at.shard && is_none (present_at c a) then Some (changes (stores least a block)) else None

-- nor does a Mark whose block is gone, or was stored by another entry
abbrev pub mark_happens : Option Present → ℕ → ℕ → Address → Option Happening
mark_happens None least number a = None
mark_happens (Some kept) least number a = if kept.number == number then Some (changes (gives least a)) else None

-- nor does a Root or a Drop whose key is of another shard
abbrev pub key_happens : Shard → List ℕ → Change → Option Happening
key_happens at key one = if shard_of_key at.shards key == at.shard then Some (changes one) else None

-- what happens by an entry, where its shard's catalogue is this; what an Enter and a Got do is in Runs/
abbrev pub happening_of : Shard → Catalogue → Entry → Option Happening
happening_of at c (kind.View view) = None
happening_of at c (kind.Block op least bytes) = block_happens at c least (at.name bytes) (read_block bytes)
happening_of at c (kind.Mark op least block address) = mark_happens (present_at c address) least block address
happening_of at c (kind.Root op held address key) = key_happens at key (keeps held address key)
happening_of at c (kind.Drop op key) = key_happens at key (drops key)
happening_of at c (kind.Enter op epoch) = None
happening_of at c (kind.Got sender epoch round total deltas) = None
happening_of at c (kind.Base view epoch swept round frames) = None
happening_of at c (kind.KeptBlock born mark flags count bytes) = None
happening_of at c (kind.KeptRoot created dropped counted address key) = None
happening_of at c (kind.KeptRound way other epoch round total deltas) = None

-- the store after what happens, where something does
abbrev pub happen_by : Store → Option Happening → Store
happen_by s None = s
happen_by s (Some one) = happen s one

-- what happens before some more, where something does
abbrev pub and_then : Option Happening → List Happening → List Happening
and_then None rest = rest
and_then (Some one) rest = one ∷ rest

-- some entries, one after another, each with what happens by it
abbrev pub happens : Shard → Catalogue → Numbered → List (Entry × Option Happening)
happens at c [] = []
happens at c (e ∷ es) = (e.1, happening_of at c e.1) ∷ happens at (apply at c e) es

-- all that happens by them
abbrev pub happenings : List (Entry × Option Happening) → List Happening
happenings [] = []
happenings (e ∷ es) = and_then e.1 (happenings es)
