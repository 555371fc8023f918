-- How a peer goes down.
use Rattle.std.specs.Prelude.{ℕ, Bool, [], None}
use Rattle.hs_awaiting.specs.Words.{change_if, each, ◌▸◌}
use Rattle.hs_core_words.specs.Changing.{change_pool, note, set_rejoin, set_status, set_tasks}
use Rattle.hs_core_words.specs.Effects.{commit}
use Rattle.hs_core_words.specs.Joining.{begin_joining, joining_peers}
use Rattle.hs_core_words.specs.Looking.{home, lead_of, status_of}
use Rattle.hs_core_words.specs.State.{Core}
use Rattle.hs_core_words.specs.Views.{change_view}
use Rattle.hs_journal.specs.declared.entry.Who.TheVariants as who
use Rattle.hs_limits.specs.declared.limits.PeerStatus.TheVariants.{Down}
use Rattle.hs_members.specs.Members.{has_good, is_good_status}
use Rattle.hs_model.specs.declared.deed.Deed.TheVariants as deed
use Rattle.hs_model.specs.declared.reply.Reply.TheVariants as reply
use Rattle.hs_post.specs.Pool.{drop_for}
use Rattle.hs_replica.specs.Group.{is_peer}

-- its jobs are dropped, and the Copies and Haves for it are taken out of the pool
abbrev pub leave : ℕ → Core → Core
leave peer core = core ▸ set_status peer Down ▸ set_tasks peer [] ▸ set_rejoin peer None ▸ change_pool (drop_for peer)

-- where a good peer is left, what all that are left have sealed takes effect
abbrev pub commit_rest : ℕ → Core → Core
commit_rest shard core = core ▸ change_if (has_good shard core.members) (commit shard)

-- where it was good the view rises; where it led, the joining peers begin again
abbrev pub go_down : ℕ → Core → Core
go_down peer core =
    let shard : ℕ = home peer core in
    let was_good : Bool = is_good_status (status_of peer core) in
    let was_lead : Bool = is_peer peer (lead_of shard core) in
    core ▸ leave peer
    ▸ change_if was_good (change_view shard)
    ▸ change_if was_lead (λ core. core ▸ each (joining_peers shard core) begin_joining)
    ▸ change_if was_good (commit_rest shard)

-- a disk has failed: its peer is told of, with the line of the last event that had one, and goes down
abbrev pub fail_disk : ℕ → Core → Core
fail_disk peer core = core ▸ note who.Store deed.Nothing (reply.Down peer core.progress.event_line) ▸ go_down peer
