-- How a peer joins: it copies the lead's list, and is good once it has all of it.
use Rattle.std.specs.Option.{option_map, option_map_or}
use Rattle.std.specs.Prelude.{ℕ, Bool, false, List, None, filter}
use Rattle.hs_awaiting.specs.Words.{change_if, change_with, each, ◌▸◌}
use Rattle.hs_core_words.specs.Changing.{change_rejoin, set_rejoin, set_status}
use Rattle.hs_core_words.specs.Effects.{commit}
use Rattle.hs_core_words.specs.Looking.{group_of, home, lead_of, rejoin_of, shape_of, status_of}
use Rattle.hs_core_words.specs.State.{Core}
use Rattle.hs_core_words.specs.Views.{change_view}
use Rattle.hs_limits.specs.declared.limits.PeerStatus.TheVariants.{Good, Joining}
use Rattle.hs_members.specs.Members.{is_joining, peers_of}
use Rattle.hs_rejoin.specs.Rejoin.{follow, is_level, new_rejoin}
use Rattle.hs_replica.specs.Group.{length_of}

-- the joining peers of a shard
abbrev pub joining_peers : ℕ → Core → List ℕ
joining_peers shard core = filter (λ peer. is_joining (status_of peer core)) (peers_of (shape_of core) shard)

-- one begins, or begins again, with the lead that there is
abbrev pub begin_joining : ℕ → Core → Core
begin_joining peer core = set_rejoin peer (option_map new_rejoin (lead_of (home peer core) core)) core

-- a peer that is down starts to join
abbrev pub start : ℕ → Core → Core
start peer core = core ▸ set_status peer Joining ▸ begin_joining peer

-- the joining peers of a shard copy from its lead on
abbrev pub follow_lead : ℕ → Core → Core
follow_lead shard core =
    core ▸ change_with (lead_of shard core) (λ lead core. core ▸ each (joining_peers shard core) (λ peer. change_rejoin peer (follow lead)))

-- its list is as long as the lead's
abbrev pub is_level_with_lead : ℕ → Core → Bool
is_level_with_lead peer core =
    let len : ℕ = option_map_or (length_of (group_of (home peer core) core)) (lead_of (home peer core) core) 0 in
    option_map_or (is_level len) (rejoin_of peer core) false

-- then it is good, and the view rises
abbrev pub join : ℕ → Core → Core
join peer core =
    core ▸ set_status peer Good ▸ set_rejoin peer None
    ▸ change_view (home peer core) ▸ follow_lead (home peer core) ▸ commit (home peer core)

abbrev pub join_if_level : ℕ → Core → Core
join_if_level peer core = core ▸ change_if (is_level_with_lead peer core) (join peer)
