-- Why an event is refused that is no client's.
use Rattle.std.specs.Prelude.{ℕ, [], ◌∷◌, Option, Some, None, if◌then◌else◌}
use Rattle.hs_core_words.specs.Asking.{no_peer, not_down, not_up}
use Rattle.hs_core_words.specs.declared.event.Event.{Event}
use Rattle.hs_core_words.specs.declared.event.Event.TheVariants as event
use Rattle.hs_core_words.specs.State.{Core}
use Rattle.hs_model.specs.declared.reply.Reply.{Reply}
use Rattle.hs_model.specs.declared.reply.Reply.TheVariants as reply
use Rattle.hs_model.specs.Refusals.{first}
use Rattle.hs_post.specs.declared.message.Message.{Message}
use Rattle.hs_post.specs.Pool.{is_full, message_at}

-- there is no message of this number; and none, or no room to send it once more
abbrev pub message_refusal : ℕ → Option Message → Option Reply
message_refusal number None = Some (reply.NoMessage number)
message_refusal number (Some m) = None

abbrev pub repeat_refusal : ℕ → Core → Option Message → Option Reply
repeat_refusal number core None = Some (reply.NoMessage number)
repeat_refusal number core (Some m) = if is_full core.pool then Some (reply.PoolFull core.pool.limit) else None

-- a client's line and a report are never refused so
abbrev pub refusal_in : Event → Core → Option Reply
refusal_in (event.Line line o) core = None
refusal_in (event.Report peer d) core = None
refusal_in (event.Turn line peer) core = first (no_peer peer core ∷ not_up peer core ∷ [])
refusal_in (event.Deliver line number) core = message_refusal number (message_at number core.pool)
refusal_in (event.Lose line number) core = message_refusal number (message_at number core.pool)
refusal_in (event.Repeat line number) core = repeat_refusal number core (message_at number core.pool)
refusal_in (event.Nudge line peer) core = first (no_peer peer core ∷ not_up peer core ∷ [])
refusal_in (event.Fail line peer) core = first (no_peer peer core ∷ not_up peer core ∷ [])
refusal_in (event.Start line peer) core = first (no_peer peer core ∷ not_down peer core ∷ [])
