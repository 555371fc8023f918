-- How an operation sees the core.
use Rattle.std.specs.Option.{option_and_then, option_map, option_map_or}
use Rattle.std.specs.Prelude.{ℕ, List, [], Option, None, false, length, map, slice_index_or, sum_by}
use Rattle.hs_core_words.specs.Looking.{catalogue_of}
use Rattle.hs_core_words.specs.Pending.{has_room, is_pending}
use Rattle.hs_core_words.specs.State.{Core}
use Rattle.hs_limits.specs.declared.address.Address.{Address}
use Rattle.hs_limits.specs.declared.limits.Limits.{Limits}
use Rattle.hs_model.specs.declared.op.Op.{Op}
use Rattle.hs_ops.specs.Speaking.{wanted_address}
use Rattle.hs_ops.specs.Views.{OpView}
use Rattle.hs_roots.specs.Roots.{retained_count}
use Rattle.hs_shard.specs.declared.facts.Facts.{Facts}
use Rattle.hs_shard.specs.Facts.{facts_at}

-- what the catalogue knows of the block that it writes or reads
abbrev pub facts_for : ℕ → Op → Core → Option Facts
facts_for shard o core = option_and_then (λ a. facts_at a (catalogue_of shard core)) (wanted_address core.sessions o)

-- that block's pointers, none where it is gone
abbrev pub pointers_for : ℕ → Op → Core → List Address
pointers_for shard o core = option_map_or (λ facts. facts.pointers) (facts_for shard o core) []

-- a view with nothing in it
abbrev pub empty_view : Limits → ℕ → OpView
empty_view limits shard =
    record { limits = limits; seats = []; roots = []; retained = 0; blocks = 0; epochs = []; swept = []; shard = shard; present = None; pointers = 0; room = false; pending = false; viewed = false; busy = None }

-- an operation that this shard judges sees what has taken effect
abbrev pub view_for : ℕ → Op → Core → OpView
view_for shard o core = record (empty_view core.limits shard) {
  seats = core.sessions;
  roots = (catalogue_of shard core).roots;
  retained = sum_by (λ c. retained_count c.roots) core.catalogues;
  blocks = sum_by (λ c. length c.blocks) core.catalogues;
  epochs = map (λ c. c.epoch) core.catalogues;
  swept = map (λ c. c.swept) core.catalogues;
  present = option_map (λ facts. facts.number) (facts_for shard o core);
  pointers = length (pointers_for shard o core);
  room = has_room shard o 0 0 core;
  pending = is_pending shard o core;
  viewed = slice_index_or core.progress.viewed shard false;
}
