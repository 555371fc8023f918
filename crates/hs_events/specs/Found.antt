-- What opening found, and the core that it opens.
use Rattle.std.specs.List.{list_any, range_with_len}
use Rattle.std.specs.Prelude.{Bool, List, Option, [], false, if◌then◌else◌, map, slice_index_or, ℕ}
use Rattle.hs_core_words.specs.Opening.{Taken, open_core}
use Rattle.hs_core_words.specs.State.{Core}
use Rattle.hs_entry.specs.Entries.{rank_of}
use Rattle.hs_events.specs.Taken.{taken_list}
use Rattle.hs_fold.specs.Shards.Setting.{Numbered, Setting}
use Rattle.hs_members.specs.Members.{peers_of}
use Rattle.hs_memory.specs.Forget.{apply_all}
use Rattle.hs_shard.specs.Facts.{Catalogue, empty_catalogue}

-- logs: what each disk was read as, None where it is no log or was not read; lost: the peers of taken logs whose disk failed before the core was opened, each with the moment;
-- good: which peers were good when the core was opened; opened: that moment
pub record Found : Type 0 where
  pub logs : List (Option Numbered)
  pub lost : List (ℕ × ℕ)
  pub good : List Bool
  pub opened : ℕ

-- whether a peer is good when the core is opened
abbrev pub starts_good : Found → ℕ → Bool
starts_good found peer = slice_index_or found.good peer false

-- the list that a shard opens with: the taken one, where a good peer has it
abbrev pub opened_list : Setting → Found → ℕ → Numbered
opened_list set found shard = if list_any (starts_good found) (peers_of set.shape shard) then taken_list set.shape found.logs shard else []

-- its catalogue
abbrev pub opened_catalogue : Setting → Found → ℕ → Catalogue
opened_catalogue set found shard = apply_all set.name (empty_catalogue set.shape shard) (opened_list set found shard)

abbrev pub opens_with : Setting → Found → Taken
opens_with set found =
    let shards : List ℕ = range_with_len 0 set.shape.shards in
    record {
      catalogues = map (opened_catalogue set found) shards;
      views = map (λ shard. (rank_of (opened_list set found shard)).view) shards;
      lengths = map (λ shard. (rank_of (opened_list set found shard)).number) shards;
      good = found.good;
    }

-- the core that is opened
abbrev pub first_core : Setting → Found → Core
first_core set found = open_core set.shape set.limits (opens_with set found) found.opened
