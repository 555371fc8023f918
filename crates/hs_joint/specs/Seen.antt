-- What the deletion machine sees of the catalogues that lists amount to.
use Rattle.std.specs.Prelude.{ℕ, ◌<◌, ◌==◌, ◌++◌, if◌then◌else◌, List, [], ◌∷◌, map, replicate, slice_index}
use Rattle.std.specs.Option.{option_map}
use Rattle.std.proofs.Common.{mod-lt}
use Rattle.hs_limits.specs.declared.address.Address.{Address}
use Rattle.hs_limits.specs.declared.delta.Delta.{Delta}
use Rattle.hs_limits.specs.Shape.{shard_of}
use Rattle.hs_rounds.specs.declared.body.RoundBody.{RoundBody}
use Rattle.hs_rounds.specs.Rounds.{told_by}
use Rattle.hs_deletion.specs.Records.{BlockRecord, RootRecord}
use Rattle.hs_deletion.specs.Machine.{Layout, Round}
use Rattle.hs_deletion.specs.Catalogue.{ShardCatalogue}
use Rattle.hs_fold.specs.Runs.Facts.{Facts, RootFacts, Catalogue}
use Rattle.hs_fold.specs.Runs.Fits.{catalogue_at}

-- the layout of so many shards: an address is of the shard that its last byte gives
abbrev pub layout_of : (shards : ℕ) → 0 < shards → Layout
layout_of shards some = record { shards = shards; home = λ a. shard_of shards a; within = λ a. mod-lt (slice_index a.0 31) some }

-- a present block
abbrev pub seen_block : Address × Facts → BlockRecord
seen_block e = record {
  address = e.0;
  pointers = e.1.present.stored.pointers;
  born = e.1.present.stored.born;
  mark = e.1.present.mark;
  counted = e.1.counted;
  zero = e.1.zero;
  count = e.1.count;
}

-- a root of a shard
abbrev pub seen_root : ℕ → RootFacts → RootRecord
seen_root shard r = record {
  home = shard;
  key = r.root.key;
  addresses = r.root.address ∷ [];
  created = r.created;
  counted = r.counted;
  dropped = r.root.dropped;
}

-- each address as often as its change tells
abbrev pub repeated : List Delta → List Address
repeated [] = []
repeated (d ∷ ds) = replicate d.amount d.address ++ repeated ds

-- what a round tells: round 0 raises, and each other lowers
abbrev pub seen_round : ℕ → RoundBody → Round
seen_round round told = record {
  raises = if round == 0 then repeated told.deltas else [];
  lowers = if round == 0 then [] else repeated told.deltas;
  total = told.total;
}

-- the catalogue of a shard
abbrev pub seen : ℕ → Catalogue → ShardCatalogue
seen shard c = record {
  blocks = map seen_block c.blocks;
  roots = map (seen_root shard) c.roots;
  epoch = c.epoch;
  swept = c.swept;
  round = c.round;
  got = λ sender epoch round. option_map (seen_round round) (told_by epoch round c.got sender);
}

-- those of all shards
abbrev pub all_seen : List Catalogue → ℕ → ShardCatalogue
all_seen cs shard = seen shard (catalogue_at cs shard)
