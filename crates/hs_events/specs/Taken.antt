-- The log that is taken of each shard. Logs stand by peer: None where there is none.
use Rattle.std.specs.List.{range_with_len}
use Rattle.std.specs.Option.{option_map_or}
use Rattle.std.specs.Prelude.{Bool, List, None, Option, Some, [], false, find, flat_map, map, not, slice_index_or, unwrap_or, ℕ, ◌==◌, ◌*◌, ◌∷◌}
use Rattle.hs_entry.specs.Entries.{rank_of}
use Rattle.hs_fold.specs.Opened.{chosen_each, outranks}
use Rattle.hs_fold.specs.Shards.Setting.{Numbered}
use Rattle.hs_limits.specs.declared.shape.Shape.{Shape}
use Rattle.hs_members.specs.Members.{home_of, peers_of}
use Rattle.hs_model.specs.declared.course.CourseItem.{CourseItem}
use Rattle.hs_model.specs.declared.course.CourseItem.TheVariants as item

-- how many peers a store has
abbrev pub peer_count : Shape → ℕ
peer_count shape = shape.shards * shape.copies

-- where a disk has no log it counts as blank
abbrev pub or_blank : List (Option Numbered) → List Numbered
or_blank logs = map (λ log. unwrap_or log []) logs

-- by shard the list of greatest rank
abbrev pub taken_lists : Shape → List (Option Numbered) → List Numbered
taken_lists shape logs = chosen_each shape.shards shape.copies (or_blank logs)

abbrev pub taken_list : Shape → List (Option Numbered) → ℕ → Numbered
taken_list shape logs shard = slice_index_or (taken_lists shape logs) shard []

-- whether a peer has a log, and that list does not outrank it
abbrev pub is_best : Shape → List (Option Numbered) → ℕ → ℕ → Bool
is_best shape logs shard peer = option_map_or (λ log. not (outranks (rank_of (taken_list shape logs shard)) (rank_of log))) (slice_index_or logs peer None) false

-- the peer whose log is taken of a shard: the lowest of these, where there is one
abbrev pub taken_peer : Shape → List (Option Numbered) → ℕ → Option ℕ
taken_peer shape logs shard = find (is_best shape logs shard) (peers_of shape shard)

abbrev pub is_taken : Shape → List (Option Numbered) → ℕ → Bool
is_taken shape logs peer = option_map_or (λ p. p == peer) (taken_peer shape logs (home_of shape peer)) false

-- a course begins with these: for each shard that has a taken log a Good of its peer and a Took of its last number
abbrev pub taken_items : Shape → List (Option Numbered) → ℕ → List CourseItem
taken_items shape logs moment = flat_map (λ shard. items_for shard (taken_peer shape logs shard)) (range_with_len 0 shape.shards)
  where
    items_for : ℕ → Option ℕ → List CourseItem
    items_for shard None = []
    items_for shard (Some peer) = item.Good peer moment ∷ item.Took shard (rank_of (taken_list shape logs shard)).number moment ∷ []
