-- What the core tells.
use Rattle.std.specs.BTreeMap.{is_at}
use Rattle.std.specs.List.{list_any, range_with_len}
use Rattle.std.specs.Map.{lookup}
use Rattle.std.specs.Option.{option_map}
use Rattle.std.specs.Ordering.{nat_cmp}
use Rattle.std.specs.Prelude.{ℕ, ◌==◌, ◌||◌, Bool, not, List, [], length, find, fold, map, max, nat_lt, Option, Some, None, slice_get, slice_index_or, if◌then◌else◌}
use Rattle.hs_awaiting.specs.declared.waiting.Waiting.{Waiting}
use Rattle.hs_core_words.specs.declared.task.Task.{Task}
use Rattle.hs_core_words.specs.State.{Core}
use Rattle.hs_desk.specs.declared.job.Job.{Job}
use Rattle.hs_limits.specs.declared.limits.PeerStatus.{PeerStatus}
use Rattle.hs_limits.specs.declared.shape.Shape.{Shape}
use Rattle.hs_members.specs.Members.{all_peers, has_good, home_of, is_joining, lead_by, status}
use Rattle.hs_post.specs.Pool.{oldest_for}
use Rattle.hs_rejoin.specs.Rejoin.{Rejoin, next_job}
use Rattle.hs_replica.specs.Group.{Group, copy_of, new_group}
use Rattle.hs_shard.specs.Facts.{Catalogue, empty_catalogue}

-- ---- shards

abbrev pub shape_of : Core → Shape
shape_of core = core.members.shape

abbrev pub shards_of : Core → List ℕ
shards_of core = range_with_len 0 (shape_of core).shards

-- what has taken effect in a shard
abbrev pub catalogue_of : ℕ → Core → Catalogue
catalogue_of shard core = slice_index_or core.catalogues shard (empty_catalogue (shape_of core) shard)

-- the copies of its list
abbrev pub group_of : ℕ → Core → Group
group_of shard core = slice_index_or core.groups shard (new_group (shape_of core) shard 0 0 [])

-- its lead
abbrev pub lead_of : ℕ → Core → Option ℕ
lead_of shard core = lead_by shard (map (λ copy. length copy.stamps) (group_of shard core).copies) core.members

-- the leads of all shards
abbrev pub leads_of : Core → List (Option ℕ)
leads_of core = map (λ shard. lead_of shard core) (shards_of core)

-- how many of its entries have taken effect
abbrev pub front_of : ℕ → Core → ℕ
front_of shard core = (group_of shard core).front

-- ---- peers

abbrev pub status_of : ℕ → Core → PeerStatus
status_of peer core = status peer core.members

-- the shard that it keeps a copy of, and that copy
abbrev pub home : ℕ → Core → ℕ
home peer core = home_of (shape_of core) peer

-- how many entries it has sealed, and how many the lead knows it to have sealed
abbrev pub sealed_of : ℕ → Core → ℕ
sealed_of peer core = (copy_of (group_of (home peer core) core) peer).sealed

abbrev pub known_of : ℕ → Core → ℕ
known_of peer core = (copy_of (group_of (home peer core) core) peer).known

-- its jobs
abbrev pub tasks_of : ℕ → Core → List Task
tasks_of peer core = slice_index_or core.tasks peer []

-- how far it is, where it is joining
abbrev pub rejoin_of : ℕ → Core → Option Rejoin
rejoin_of peer core = slice_index_or core.progress.rejoins peer None

-- the next step of a joining peer: it copies what the lead has sealed
abbrev pub copying_step : ℕ → Core → Option Job
copying_step peer core = step_of (lead_of (home peer core) core) (rejoin_of peer core)
  where
    step_of : Option ℕ → Option Rejoin → Option Job
    step_of (Some lead) (Some rejoin) = next_job (sealed_of lead core) rejoin
    step_of lead rejoin = None

-- the first job of a peer: a joining one has its copying steps alone
abbrev pub first_task : ℕ → Core → Option Task
first_task peer core =
    if is_joining (status_of peer core) then option_map (λ job. record { job = job; line = 0 }) (copying_step peer core)
    else slice_get (tasks_of peer core) 0

abbrev pub first_job : ℕ → Core → Option Job
first_job peer core = option_map (λ task. task.job) (first_task peer core)

-- the number of the oldest message for it
abbrev pub oldest_message : ℕ → Core → Option ℕ
oldest_message peer core = oldest_for peer (leads_of core) core.pool

-- ---- operations

-- the operation of a line, where it has no answer
abbrev pub operation_of : ℕ → Core → Option Waiting
operation_of line core = lookup (is_at (nat_cmp line)) core.operations

-- ---- all of it

-- the greatest epoch
abbrev pub top_epoch : Core → ℕ
top_epoch core = fold (λ top c. max top c.epoch) 0 core.catalogues

-- open is an operation without an answer, an entry that has not taken effect, a shard that has not swept the greatest epoch, and a joining peer
abbrev pub open_work : Core → Bool
open_work core =
    not (length core.operations == 0)
    || (list_any (λ group. not (length group.waiting == 0)) core.groups
    || (list_any (λ c. nat_lt c.swept (top_epoch core)) core.catalogues
    || list_any (λ peer. is_joining (status_of peer core)) (all_peers (shape_of core))))

-- the first shard without a good peer
abbrev pub lost_shard : Core → Option ℕ
lost_shard core = find (λ shard. not (has_good shard core.members)) (shards_of core)
