-- The core as it opens.
use Rattle.std.specs.List.{range_with_len}
use Rattle.std.specs.Prelude.{ℕ, ◌+◌, ◌*◌, Bool, false, not, List, [], None, drop, map, replicate, slice_index, take, if◌then◌else◌}
use Rattle.hs_awaiting.specs.Words.{change_if, each, ◌▸◌}
use Rattle.hs_core_words.specs.Changing.{note}
use Rattle.hs_core_words.specs.Looking.{shape_of, shards_of, status_of}
use Rattle.hs_core_words.specs.State.{Core, Progress}
use Rattle.hs_core_words.specs.Step.{end_event}
use Rattle.hs_core_words.specs.Views.{change_view}
use Rattle.hs_journal.specs.declared.entry.Who.TheVariants as who
use Rattle.hs_limits.specs.declared.limits.Limits.{Limits}
use Rattle.hs_limits.specs.declared.shape.Shape.{Shape}
use Rattle.hs_limits.specs.Shape.{peer_of}
use Rattle.hs_members.specs.Members.{Members, all_peers, has_good, is_good_status, members_at}
use Rattle.hs_model.specs.declared.deed.Deed.TheVariants as deed
use Rattle.hs_model.specs.declared.reply.Reply.TheVariants as reply
use Rattle.hs_post.specs.Pool.{empty_pool}
use Rattle.hs_replica.specs.Group.{Group, new_group}
use Rattle.hs_shard.specs.Facts.{Catalogue}

-- what a core opens with. By shard: the catalogue of the taken log, the view of that log, and the number of its last entry; by peer: whether it has this log
pub record Taken : Type 0 where
  pub catalogues : List Catalogue
  pub views : List ℕ
  pub lengths : List ℕ
  pub good : List Bool

-- which copies of a shard are good, where these are the good peers
abbrev pub good_copies : Shape → List Bool → ℕ → List Bool
good_copies shape good shard = take shape.copies (drop (peer_of shape shard 0) good)

-- the copies of a shard's list: the good peers have the taken log, all of it sealed and in effect
abbrev pub taken_group : Shape → Taken → ℕ → Group
taken_group shape taken shard =
    new_group shape shard (slice_index taken.views shard) (slice_index taken.lengths shard) (good_copies shape taken.good shard)

-- the first view of a shard: where it has a good peer, one above that of the taken log
abbrev pub first_view : Members → List ℕ → ℕ → ℕ
first_view m views shard = if has_good shard m then slice_index views shard + 1 else slice_index views shard

abbrev pub first_views : Members → List ℕ → List ℕ
first_views m views = map (first_view m views) (range_with_len 0 m.shape.shards)

-- no View has taken effect, no peer is joining, and no line was begun
abbrev pub none_yet : Progress
none_yet = record { viewed = []; rejoins = []; last_line = 0; event_line = 0 }

-- a core of these members with nothing in it
abbrev pub empty_core : Limits → Members → ℕ → Core
empty_core limits m moment =
    record { limits = limits; members = m; catalogues = []; groups = []; tasks = []; progress = none_yet; pool = empty_pool limits.pool; sessions = []; operations = []; journal = []; entries = []; refused = []; ended = None; moment = moment }

-- each peer has the status that its log gives it, and each shard its first view
abbrev pub first_members : Shape → Taken → Members
first_members shape taken = members_at shape (first_views (members_at shape taken.views taken.good) taken.views) taken.good

-- nothing is under way
abbrev pub new_core : Shape → Limits → Taken → ℕ → Core
new_core shape limits taken moment = record (empty_core limits (first_members shape taken) moment) {
  catalogues = taken.catalogues;
  groups = map (taken_group shape taken) (range_with_len 0 shape.shards);
  tasks = replicate (shape.shards * shape.copies) [];
  progress = record none_yet { viewed = replicate shape.shards false; rejoins = replicate (shape.shards * shape.copies) None };
}

-- each shard with a good peer begins its first view
abbrev pub begin_views : Core → Core
begin_views core = core ▸ each (shards_of core) change_view

-- each peer that is not good is told of
abbrev pub note_if_down : ℕ → Core → Core
note_if_down peer core =
    core ▸ change_if (not (is_good_status (status_of peer core))) (note who.Store deed.Nothing (reply.Down peer 0))

abbrev pub note_down : Core → Core
note_down core = core ▸ each (all_peers (shape_of core)) note_if_down

abbrev pub open_core : Shape → Limits → Taken → ℕ → Core
open_core shape limits taken moment = new_core shape limits taken moment ▸ begin_views ▸ note_down ▸ end_event
