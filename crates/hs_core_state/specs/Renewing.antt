-- The next copying steps of a shard's peers, from what they are made of: for private clauses.
use Rattle.std.specs.Option.{option_map_or}
use Rattle.std.specs.Prelude.{◌≡◌, ◌≢◌, ℕ, Option, None, Some, List, length, map, slice_index_or, if◌then◌else◌}
use Rattle.hs_desk.specs.declared.job.Job.{Job}
use Rattle.hs_members.specs.Members.{IsPeer, Members, home_of, is_joining, lead_by, status}
use Rattle.hs_rejoin.specs.Rejoin.{Rejoin, next_job}
use Rattle.hs_replica.specs.Group.{Group, copy_of}

-- the lead of a shard with this group
abbrev pub lead_in : Members → Group → ℕ → Option ℕ
lead_in m group shard = lead_by shard (map (λ copy. length copy.stamps) group.copies) m

-- how many entries a lead has sealed, 0 where there is none
abbrev pub lead_sealed : Option ℕ → Group → ℕ
lead_sealed lead group = option_map_or (λ l. (copy_of group l).sealed) lead 0

-- the next step of a joining peer, where this is its lead, which has sealed so many
abbrev pub step_by : Option ℕ → ℕ → Option Rejoin → Option Job
step_by (Some lead) sealed (Some rejoin) = next_job sealed rejoin
step_by lead sealed rejoin = None

-- and of any peer
abbrev pub step_at : Members → Option ℕ → ℕ → List (Option Rejoin) → ℕ → Option Job
step_at m lead sealed rejoins peer =
    if is_joining (status peer m) then step_by lead sealed (slice_index_or rejoins peer None) else None

-- the steps of a shard's peers are renewed, and the others stay
pub record Renews (m : Members) (group : Group) (rejoins : List (Option Rejoin)) (shard : ℕ) (old new : List (Option Job)) : Type 0 where
  pub length : length new ≡ length old
  pub inside : (peer : ℕ) → IsPeer m.shape peer → home_of m.shape peer ≡ shard
      → slice_index_or new peer None ≡ step_at m (lead_in m group shard) (lead_sealed (lead_in m group shard) group) rejoins peer
  pub outside : (peer : ℕ) → home_of m.shape peer ≢ shard → slice_index_or new peer None ≡ slice_index_or old peer None
