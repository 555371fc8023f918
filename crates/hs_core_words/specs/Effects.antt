-- What happens when entries take effect.
use Rattle.std.specs.List.{list_all}
use Rattle.std.specs.Option.{option_map_or}
use Rattle.std.specs.Prelude.{ℕ, ◌+◌, ◌-◌, ◌==◌, ◌&&◌, ◌||◌, Bool, true, false, List, Option, is_some, map, nat_le, if◌then◌else◌}
use Rattle.hs_awaiting.specs.declared.wait.Wait.{Wait}
use Rattle.hs_awaiting.specs.declared.wait.Wait.TheVariants as wait
use Rattle.hs_awaiting.specs.Kinds.{puts_root, writes_block}
use Rattle.hs_awaiting.specs.declared.waiting.Waiting.{Waiting}
use Rattle.hs_awaiting.specs.Words.{change_if, change_with, times, ◌▸◌}
use Rattle.hs_core_words.specs.Changing.{change_group, note, post, set_catalogue, set_viewed}
use Rattle.hs_core_words.specs.Entering.{propose_due}
use Rattle.hs_core_words.specs.Looking.{catalogue_of, front_of, group_of, operation_of}
use Rattle.hs_core_words.specs.Operating.{go_on_with, resume_where}
use Rattle.hs_core_words.specs.Pending.{is_address, named}
use Rattle.hs_core_words.specs.State.{Core}
use Rattle.hs_desk.specs.declared.what.What.{What}
use Rattle.hs_desk.specs.declared.what.What.TheVariants as what
use Rattle.hs_entry.specs.declared.entry.Entry.{Entry}
use Rattle.hs_entry.specs.declared.entry.Entry.TheVariants as kind
use Rattle.hs_journal.specs.declared.entry.Who.TheVariants as who
use Rattle.hs_limits.specs.declared.address.Address.{Address}
use Rattle.hs_model.specs.declared.deed.Deed.TheVariants as deed
use Rattle.hs_model.specs.declared.reply.Reply.TheVariants as reply
use Rattle.hs_ops.specs.Speaking.{wanted_address}
use Rattle.hs_ops.specs.Operations.{effect_step}
use Rattle.hs_post.specs.declared.message.Message.{Message}
use Rattle.hs_post.specs.declared.message.Message.TheVariants as message
use Rattle.hs_replica.specs.Group.{commit_front, committed, take_committed}
use Rattle.hs_shard.specs.declared.effect.Effect.{Effect}
use Rattle.hs_shard.specs.declared.effect.Sent.{Sent}
use Rattle.hs_shard.specs.Apply.{apply}
use Rattle.hs_shard.specs.Clients.{Applied}

-- ---- what waits

-- whether it is for a View, for room, or for a Block of this address
abbrev pub is_for_view : Waiting → Bool
is_for_view w = is_view w.wait
  where
    is_view : Wait → Bool
    is_view wait.View = true
    is_view other = false

abbrev pub is_for_room : Waiting → Bool
is_for_room w = is_room w.wait
  where
    is_room : Wait → Bool
    is_room wait.Room = true
    is_room other = false

abbrev pub is_for_address : Option Address → Core → Waiting → Bool
is_for_address a core w = is_any w.wait && option_map_or (λ a. is_address a (wanted_address core.sessions w.operation.op)) a false
  where
    is_any : Wait → Bool
    is_any wait.Address = true
    is_any other = false

-- a Block wakes the writes that wait for its address or for room, and a Root the roots that wait for room
abbrev pub wakes : Entry → Option Address → Core → Waiting → Bool
wakes (kind.Block line least bytes) a core w = is_for_address a core w || is_for_room w && writes_block w.operation.op
wakes (kind.Root line held kept key) a core w = is_for_room w && puts_root w.operation.op
wakes other a core w = false

-- ---- what an entry did is told

-- a shard has swept, and maybe it was the last to
abbrev pub note_sweep : ℕ → ℕ → Core → Core
note_sweep shard removed core =
    let epoch : ℕ = (catalogue_of shard core).swept in
    let all : Bool = list_all (λ c. nat_le epoch c.swept) core.catalogues in
    core ▸ note (who.Shard shard) (deed.Swept shard) (reply.Sweep epoch removed)
    ▸ change_if all (note who.Store deed.Nothing (reply.Done epoch))

-- an Enter that no line asked for is told by its shard
abbrev pub note_enter : ℕ → What → Core → Core
note_enter shard (what.Entered epoch) core = note (who.Shard shard) (deed.Entered shard) (reply.Enter epoch) core
note_enter shard other core = core

-- the operation that asked for an entry hears what it did
abbrev pub tell_operation : ℕ → What → Core → Core
tell_operation line did core = go_on_with (λ v o. effect_step v did o) line core

abbrev pub tell_enter : ℕ → ℕ → What → Core → Core
tell_enter shard line did core = if is_some (operation_of line core) then tell_operation line did core else note_enter shard did core

-- the View of the current view: what waited for it goes on
abbrev pub reach_view : ℕ → ℕ → Core → Core
reach_view shard view core =
    core ▸ change_if (view == (group_of shard core).view) (λ core. core ▸ set_viewed shard true ▸ resume_where shard is_for_view)

-- by the kind of the entry
abbrev pub after_entry : ℕ → Entry → Effect → Core → Core
after_entry shard (kind.View view) effect core = reach_view shard view core
after_entry shard (kind.Block line least bytes) effect core = tell_operation line effect.what core
after_entry shard (kind.Mark line least block a) effect core = tell_operation line effect.what core
after_entry shard (kind.Root line held a key) effect core = tell_operation line effect.what core
after_entry shard (kind.Drop line key) effect core = tell_operation line effect.what core
after_entry shard (kind.Enter line epoch) effect core = tell_enter shard line effect.what core
after_entry shard (kind.Got from epoch round total deltas) effect core =
    core ▸ change_with effect.removed (note_sweep shard) ▸ propose_due shard
after_entry shard (kind.Base view epoch swept round frames) effect core = core
after_entry shard (kind.KeptBlock born mark flags count bytes) effect core = core
after_entry shard (kind.KeptRoot created dropped counted address key) effect core = core
after_entry shard (kind.KeptRound way other epoch round total deltas) effect core = core

-- ---- one entry, and all that are committed

-- the messages of some rounds that a shard sends
abbrev pub round_messages : ℕ → List Sent → List Message
round_messages shard sends = map (λ s. message.Round shard s.to s.epoch s.round s.body.total s.body.deltas) sends

-- an entry takes effect: its rounds go out, its operation is answered, a due Enter is proposed, and what waited for it goes on
abbrev pub take_effect : ℕ → Entry → Core → Core
take_effect shard entry core =
    let a : Option Address = named entry core in
    let applied : Applied = apply (front_of shard core + 1) entry a (catalogue_of shard core) in
    core ▸ change_group shard take_committed ▸ set_catalogue shard applied.catalogue
    ▸ post (round_messages shard applied.effect.sends)
    ▸ after_entry shard entry applied.effect
    ▸ (λ core. resume_where shard (wakes entry a core) core)

-- the next entry that every good peer is known to have sealed, if there is one
abbrev pub commit_next : ℕ → Core → Core
commit_next shard core = core ▸ change_with (committed (group_of shard core)) (λ e. take_effect shard e.1)

-- all of them, in order
abbrev pub commit : ℕ → Core → Core
commit shard core = times (commit_front (group_of shard core) - front_of shard core) (commit_next shard) core
