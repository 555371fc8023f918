-- Lines of a script that are no client's: turns, messages, failures and starts.
use Rattle.std.specs.Prelude.{ℕ, ◌&&◌, Bool, true, false, not, List, [], ◌∷◌, Option, Some, None, length, nat_le, if◌then◌else◌}
use Rattle.hs_awaiting.specs.Words.{change_if, change_with, ◌▸◌}
use Rattle.hs_core_words.specs.Changing.{change_pool, post, refuse}
use Rattle.hs_core_words.specs.Delivering.{handle}
use Rattle.hs_core_words.specs.Effects.{round_messages}
use Rattle.hs_core_words.specs.Entering.{propose_due}
use Rattle.hs_core_words.specs.Failing.{go_down}
use Rattle.hs_core_words.specs.Joining.{start}
use Rattle.hs_core_words.specs.Looking.{catalogue_of, group_of, home, lead_of, status_of}
use Rattle.hs_core_words.specs.State.{Core}
use Rattle.hs_members.specs.Members.{is_down, is_good_status}
use Rattle.hs_model.specs.declared.reply.Reply.{Reply}
use Rattle.hs_model.specs.declared.reply.Reply.TheVariants as reply
use Rattle.hs_model.specs.Refusals.{first, refused_when}
use Rattle.hs_post.specs.declared.message.Message.{Message}
use Rattle.hs_post.specs.Pool.{is_full, message_at, without}
use Rattle.hs_replica.specs.Group.{is_peer, resend}
use Rattle.hs_rounds.specs.Rounds.{sent_back}
use Rattle.hs_shard.specs.Facts.{Catalogue}
use Rattle.hs_shard.specs.Rounds.{messages}

-- ---- messages

-- a line's message, or the refusal that there is none
abbrev pub with_message : ℕ → ℕ → (Message → Core → Core) → Core → Core
with_message line number f core = with_this (message_at number core.pool) core
  where
    with_this : Option Message → Core → Core
    with_this None core = refuse line (reply.NoMessage number) core
    with_this (Some m) core = f m core

-- a message is taken out of the pool and handled
abbrev pub deliver : ℕ → Message → Core → Core
deliver number m core = core ▸ change_pool (without number) ▸ handle m

-- a message is lost
abbrev pub lose : ℕ → Message → Core → Core
lose number m core = change_pool (without number) core

-- a message is sent once more, where the pool is not full
abbrev pub send_again : ℕ → Message → Core → Core
send_again line m core = if is_full core.pool then refuse line (reply.PoolFull core.pool.limit) core else post (m ∷ []) core

-- ---- peers

-- there is no such peer, it is down, or it is not down
abbrev pub no_peer : ℕ → Core → Option Reply
no_peer peer core = refused_when (nat_le (length core.members.statuses) peer) (reply.NoPeer peer)

abbrev pub not_up : ℕ → Core → Option Reply
not_up peer core = refused_when (is_down (status_of peer core)) (reply.NotUp peer)

abbrev pub not_down : ℕ → Core → Option Reply
not_down peer core = refused_when (not (is_down (status_of peer core))) (reply.NotDown peer)

-- what is done where it is not refused
abbrev pub unless_refused : ℕ → List (Option Reply) → (Core → Core) → Core → Core
unless_refused line refusals f core = by_first (first refusals)
  where
    by_first : Option Reply → Core
    by_first (Some refusal) = refuse line refusal core
    by_first None = f core

-- a line of a peer that is up, and of one that is down
abbrev pub with_up : ℕ → ℕ → (Core → Core) → Core → Core
with_up line peer f core = unless_refused line (no_peer peer core ∷ not_up peer core ∷ []) f core

abbrev pub with_down : ℕ → ℕ → (Core → Core) → Core → Core
with_down line peer f core = unless_refused line (no_peer peer core ∷ not_down peer core ∷ []) f core

-- a shard sends the round again that it sent last, or so many before it; and its last two rounds, the older first
abbrev pub send_round : ℕ → ℕ → Core → Core
send_round back shard core =
    let c : Catalogue = catalogue_of shard core in
    core ▸ change_with (sent_back back c.run) (λ at. post (round_messages shard (messages c.shape.shards at.0 at.1 c.run)))

abbrev pub send_rounds : ℕ → Core → Core
send_rounds shard core = core ▸ send_round 1 shard ▸ send_round 0 shard

-- a good lead proposes a due Enter, sends its rounds again, and then what the others are not known to have; another good peer sends its Have again
abbrev pub nudge : ℕ → Core → Core
nudge peer core =
    let shard : ℕ = home peer core in
    core ▸ change_if (is_peer peer (lead_of shard core)) (λ core. core ▸ propose_due shard ▸ send_rounds shard)
    ▸ (λ core. post (resend peer (group_of shard core)) core)

abbrev pub nudge_good : ℕ → Core → Core
nudge_good peer core = core ▸ change_if (is_good_status (status_of peer core)) (nudge peer)
