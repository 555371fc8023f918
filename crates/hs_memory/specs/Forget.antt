-- What a catalogue in memory has of the fold of its list: all but the blocks' bytes.
use Rattle.std.specs.Prelude.{ℕ, List, [], ◌∷◌, map, Option, Some, None}
use Rattle.hs_entry.specs.declared.entry.Entry.{Entry}
use Rattle.hs_entry.specs.declared.entry.Entry.TheVariants as kind
use Rattle.hs_fold.specs.Catalogue.{Shard}
use Rattle.hs_fold.specs.Runs.Facts.{Facts as FoldedFacts, RootFacts, Catalogue as Folded}
use Rattle.hs_fold.specs.Runs.Rounds.{run_of}
use Rattle.hs_fold.specs.Shards.Setting.{Numbered}
use Rattle.hs_limits.specs.declared.address.Address.{Address}
use Rattle.hs_limits.specs.declared.shape.Shape.{Shape}
use Rattle.hs_roots.specs.declared.root.RootRecord.{RootRecord}
use Rattle.hs_shard.specs.declared.facts.Facts.{Facts}
use Rattle.hs_shard.specs.Apply.{apply}
use Rattle.hs_shard.specs.Facts.{Catalogue}

-- a block without its bytes
abbrev pub known_of : FoldedFacts → Facts
known_of f = record {
  number = f.present.number;
  born = f.present.stored.born;
  mark = f.present.mark;
  counted = f.counted;
  zero = f.zero;
  count = f.count;
  pointers = f.present.stored.pointers;
}

-- a root, as a set of roots keeps it
abbrev pub record_of : RootFacts → RootRecord
record_of r = record { key = r.root.key; address = r.root.address; created = r.created; counted = r.counted; dropped = r.root.dropped }

-- the catalogue of a shard without the blocks' bytes, and with its side of the rounds as a run
abbrev pub forget : Shape → ℕ → Folded → Catalogue
forget shape shard c = record {
  shape = shape;
  shard = shard;
  blocks = map (λ e. (e.0, known_of e.1)) c.blocks;
  roots = map record_of c.roots;
  epoch = c.epoch;
  swept = c.swept;
  view = c.view;
  run = run_of shape shard c;
}

-- how the list of a shard is read
abbrev pub reading : (List ℕ → Address) → Shape → ℕ → Shard
reading name shape shard = record { name = name; shards = shape.shards; shard = shard }

-- the address that comes with an entry: of a Block that of its bytes
abbrev pub named : (List ℕ → Address) → Entry → Option Address
named name (kind.View view) = None
named name (kind.Block op least bytes) = Some (name bytes)
named name (kind.Mark op least block address) = None
named name (kind.Root op held address key) = None
named name (kind.Drop op key) = None
named name (kind.Enter op epoch) = None
named name (kind.Got sender epoch round total deltas) = None
named name (kind.Base view epoch swept round frames) = None
named name (kind.KeptBlock born mark flags count bytes) = None
named name (kind.KeptRoot created dropped counted address key) = None
named name (kind.KeptRound way other epoch round total deltas) = None

-- some entries take effect, one after another
abbrev pub apply_all : (List ℕ → Address) → Catalogue → Numbered → Catalogue
apply_all name c [] = c
apply_all name c (e ∷ es) = apply_all name (apply e.0 e.1 (named name e.1) c).catalogue es
