-- The anatomy of an event: the single acts of which it is made, for any number of shards and copies, each with what is known where it comes.
use Rattle.std.specs.Prelude.{◌≡◌, ℕ, ◌+◌, ◌==◌, ◌&&◌, ◌<◌, Bool, true, false, not, List, [], ◌∷◌, Option, Some, None, drop, length, if◌then◌else◌}
use Rattle.hs_anatomy.specs.Effect.{told_at_once}
use Rattle.hs_anatomy.specs.Once.{AreOnce, IsIdle}
use Rattle.hs_anatomy.specs.Refusing.{refusal_in}
use Rattle.hs_awaiting.specs.declared.wait.Wait.TheVariants as wait
use Rattle.hs_awaiting.specs.declared.waiting.Waiting.{Waiting}
use Rattle.hs_awaiting.specs.Words.{change_if, each, ◌▸◌}
use Rattle.hs_core_words.specs.Asking.{send_round}
use Rattle.hs_core_words.specs.Changing.{change_group, change_pool, change_rejoin, note, post, refuse, set_rejoin, set_status, set_tasks, set_viewed}
use Rattle.hs_core_words.specs.declared.event.Event.{Event}
use Rattle.hs_core_words.specs.declared.event.Event.TheVariants as event
use Rattle.hs_core_words.specs.declared.task.Task.{Task}
use Rattle.hs_core_words.specs.Delivering.{is_new_round, take_copy}
use Rattle.hs_core_words.specs.Entering.{is_enter_due}
use Rattle.hs_core_words.specs.Failing.{leave}
use Rattle.hs_core_words.specs.Joining.{begin_joining, follow_lead, is_level_with_lead, joining_peers, start}
use Rattle.hs_core_words.specs.Looking.{catalogue_of, first_task, group_of, home, lead_of, operation_of, status_of, tasks_of}
use Rattle.hs_core_words.specs.Operating.{begin_line, go_on_with, propose_entry, resume}
use Rattle.hs_core_words.specs.Seeing.{pointers_for}
use Rattle.hs_core_words.specs.State.{Core}
use Rattle.hs_core_words.specs.Step.{line_of}
use Rattle.hs_core_words.specs.Views.{begin_view, change_view}
use Rattle.hs_desk.specs.Answers.{answers}
use Rattle.hs_desk.specs.declared.done.Done.{Done}
use Rattle.hs_desk.specs.declared.done.Done.TheVariants as done
use Rattle.hs_desk.specs.declared.job.Job.TheVariants as job
use Rattle.hs_entry.specs.declared.entry.Entry.{Entry}
use Rattle.hs_entry.specs.declared.entry.Entry.TheVariants as kind
use Rattle.hs_journal.specs.declared.entry.Who.TheVariants as who
use Rattle.hs_limits.specs.declared.delta.Delta.{Delta}
use Rattle.hs_limits.specs.declared.limits.PeerStatus.TheVariants.{Good}
use Rattle.hs_members.specs.Members.{has_good, is_good_status}
use Rattle.hs_model.specs.declared.deed.Deed.TheVariants as deed
use Rattle.hs_model.specs.declared.op.Op.{Op}
use Rattle.hs_model.specs.declared.reply.Reply.{Reply}
use Rattle.hs_model.specs.declared.reply.Reply.TheVariants as reply
use Rattle.hs_ops.specs.Operations.{bytes_step}
use Rattle.hs_post.specs.declared.message.Message.{Message}
use Rattle.hs_post.specs.declared.message.Message.TheVariants as message
use Rattle.hs_post.specs.Pool.{is_empty, is_full, message_at, restart_numbers, without}
use Rattle.hs_rejoin.specs.Rejoin.{copied, emptied}
use Rattle.hs_replica.specs.Group.{committed, have, is_peer, on_copied, on_emptied, on_have, on_sealed, resend, takes}

-- ---- what acts leave

-- an event has begun: its moment, its line, and with the first line the numbers of messages start again, if none is under way
abbrev pub begun : Event → ℕ → Core → Core
begun e moment core = record core {
  pool = change_if ((core.progress.event_line == 0 && not (line_of e == 0)) && is_empty core.pool) restart_numbers core.pool;
  moment = moment;
  progress = record core.progress { event_line = if line_of e == 0 then core.progress.event_line else line_of e };
}

-- the first job of a peer is done
abbrev pub without_job : ℕ → Core → Core
without_job peer core = set_tasks peer (drop 1 (tasks_of peer core)) core

-- it was a Seal, the emptying of a joining peer's disk, or the copying of an entry to it
abbrev pub sealed_by : ℕ → ℕ → Core → Core
sealed_by peer number core =
    core ▸ post (have peer number (group_of (home peer core) core)) ▸ change_group (home peer core) (on_sealed peer number)

abbrev pub emptied_by : ℕ → Core → Core
emptied_by peer core = core ▸ change_rejoin peer emptied ▸ change_group (home peer core) (on_emptied peer)

abbrev pub copied_by : ℕ → ℕ → Core → Core
copied_by peer number core = core ▸ change_rejoin peer (copied number) ▸ change_group (home peer core) (on_copied peer number)

-- a peer has joined, and one is down: each with the view that begins by it, before anything takes effect
abbrev pub joined : ℕ → Core → Core
joined peer core =
    core ▸ set_status peer Good ▸ set_rejoin peer None ▸ change_view (home peer core) ▸ follow_lead (home peer core)

abbrev pub fallen : ℕ → Core → Core
fallen peer core =
    let shard : ℕ = home peer core in
    let was_good : Bool = is_good_status (status_of peer core) in
    let was_lead : Bool = is_peer peer (lead_of shard core) in
    core ▸ leave peer ▸ change_if was_good (change_view shard) ▸ change_if was_lead (λ core. core ▸ each (joining_peers shard core) begin_joining)

-- the bytes of an entry, or that it is gone, as they are reported
abbrev pub bytes_report : ℕ → Option (List ℕ) → Done
bytes_report number None = done.Gone number
bytes_report number (Some bytes) = done.Bytes number bytes

-- ---- what is known

-- the event reports what the first job of a peer came to; `s` is the core as the event has begun, and this comes first
pub record IsAnswered (s : Core) (e : Option Event) (a : Core) (peer : ℕ) (d : Done) : Type 0 where
  pub start : a ≡ s
  pub reported : e ≡ Some (event.Report peer d)
  pub task : Task
  pub first : first_task peer a ≡ Some task
  pub fits : answers peer task.job d ≡ true

-- it was a Read, and the operation of its line waits for these bytes
pub record IsRead (s : Core) (e : Option Event) (a : Core) (peer number line : ℕ) (bytes : Option (List ℕ)) (w : Waiting) : Type 0 where
  pub answered : IsAnswered s e a peer (bytes_report number bytes)
  pub first : first_task peer a ≡ Some (record { job = job.Read number; line = line })
  pub at : operation_of line a ≡ Some w
  pub waits : w.wait ≡ wait.Bytes number

-- the message of a number comes, before all else
pub record IsComing (s : Core) (e : Option Event) (a : Core) (number : ℕ) (m : Message) : Type 0 where
  pub start : a ≡ s
  pub line : ℕ
  pub delivered : e ≡ Some (event.Deliver line number)
  pub at : message_at number a.pool ≡ Some m

-- a good peer of a shard is nudged
pub record IsNudged (s : Core) (e : Option Event) (shard peer : ℕ) : Type 0 where
  pub line : ℕ
  pub asked : e ≡ Some (event.Nudge line peer)
  pub good : is_good_status (status_of peer s) ≡ true
  pub home : shard ≡ home peer s

-- why an Enter may be due in a shard: a round took effect there, or a good peer of it is nudged
pub data IsUrged (s : Core) (e : Option Event) (a : Core) (shard : ℕ) : Type 0 where
  ByRound : shard < length a.groups → IsUrged s e a shard
  ByNudge : (peer : ℕ) → IsNudged s e shard peer → IsUrged s e a shard

-- why a peer goes down: its line says so, or its disk has failed
pub data IsFelled (s : Core) (e : Option Event) (peer : ℕ) : Type 0 where
  ByLine : (line : ℕ) → e ≡ Some (event.Fail line peer) → refusal_in (event.Fail line peer) s ≡ None → IsFelled s e peer
  ByDisk : (by : ℕ) → e ≡ Some (event.Report by (done.Failed peer)) → IsFelled s e peer

-- a peer goes down before all else but that a job is done and that its disk is told of
pub record IsFalling (s : Core) (e : Option Event) (a : Core) (peer : ℕ) : Type 0 where
  pub why : IsFelled s e peer
  pub members : a.members ≡ s.members
  pub lists : a.groups ≡ s.groups
  pub catalogues : a.catalogues ≡ s.catalogues

-- right behind which job of its own a peer joins: its disk was emptied, or got an entry more
pub data IsBehind (s : Core) (e : Option Event) (a : Core) (peer : ℕ) : Type 0 where
  ByEmptying : IsAnswered s e s peer done.Emptied → a ≡ emptied_by peer (without_job peer s) → IsBehind s e a peer
  ByCopying : (number : ℕ) → IsAnswered s e s peer (done.Copied number) → a ≡ copied_by peer number (without_job peer s) → IsBehind s e a peer

-- then it has copied all of the lead's list
pub record IsLevel (s : Core) (e : Option Event) (a : Core) (peer : ℕ) : Type 0 where
  pub level : is_level_with_lead peer a ≡ true
  pub behind : IsBehind s e a peer

-- ---- acts beside all that is answered

-- of catalogues, sessions, operations and what is told they change nothing, and of lists only who has which of the entries; no round comes anew
pub data Aside (s : Core) (e : Option Event) (a : Core) : Core → Type 0 where
  -- a job is done; it was a Seal, an emptying, a copying
  Reports : (peer : ℕ) (d : Done) → IsAnswered s e a peer d → Aside s e a (without_job peer a)
  Seals : (peer number : ℕ) → IsAnswered s e a peer (done.Sealed number) → Aside s e a (sealed_by peer number (without_job peer a))
  Empties : (peer : ℕ) → IsAnswered s e a peer done.Emptied → Aside s e a (emptied_by peer (without_job peer a))
  Copies : (peer number : ℕ) → IsAnswered s e a peer (done.Copied number) → Aside s e a (copied_by peer number (without_job peer a))
  -- a message is gone: lost, or of no use where it comes; a Copy is taken; a Have is heard
  Loses : (number : ℕ) (m : Message) → message_at number a.pool ≡ Some m → Aside s e a (change_pool (without number) a)
  Takes : (number shard to view next : ℕ) (entry : Entry) → IsComing s e a number (message.Copy shard to view next entry) → takes to view next (group_of shard a) ≡ true
      → Aside s e a (take_copy shard to next entry (change_pool (without number) a))
  Hears : (number shard from to view sealed : ℕ) → IsComing s e a number (message.Have shard from to view sealed) → is_good_status (status_of to a) ≡ true
      → Aside s e a (change_group shard (on_have from view sealed) (change_pool (without number) a))
  -- a message is sent once more; a good peer sends again what may have been lost
  Repeats : (number : ℕ) (m : Message) → message_at number a.pool ≡ Some m → is_full a.pool ≡ false → Aside s e a (post (m ∷ []) a)
  Resends : (shard peer : ℕ) → IsNudged s e shard peer → Aside s e a (post (resend peer (group_of shard a)) a)
  -- a peer that was down begins to join; the View of a shard's view has taken effect
  Starts : (line peer : ℕ) → a ≡ s → e ≡ Some (event.Start line peer) → refusal_in (event.Start line peer) s ≡ None → Aside s e a (start peer a)
  Views : (shard : ℕ) → Aside s e a (set_viewed shard true a)

-- ---- acts

-- `s` is the core as the event has begun, `e` the event; none as a core opens, and then `s` has nothing under way
pub data Act (s : Core) (e : Option Event) (a : Core) : Core → Type 0 where
  IsAside : {b : Core} → Aside s e a b → Act s e a b
  -- a line that is no client's is refused; a peer is told of whose disk has failed, or that is not good as the core opens
  Refuses : (now : Event) (refusal : Reply) → e ≡ Some now → refusal_in now s ≡ Some refusal → Act s e a (refuse (line_of now) refusal a)
  TellsDown : (by peer : ℕ) → e ≡ Some (event.Report by (done.Failed peer)) → Act s e a (note who.Store deed.Nothing (reply.Down peer a.progress.event_line) a)
  FindsDown : (peer : ℕ) → e ≡ None → is_good_status (status_of peer a) ≡ false → Act s e a (note who.Store deed.Nothing (reply.Down peer 0) a)
  -- a client's line, which is all that there is of its event
  Asks : (line : ℕ) (o : Op) → a ≡ s → e ≡ Some (event.Line line o) → Act s e a (begin_line line o a)
  -- an operation goes on that waits for no entry, unless its line had two as the event had begun; one is told the bytes for which it waits
  Goes : (line : ℕ) (w : Waiting) → operation_of line a ≡ Some w → (AreOnce s.operations → IsIdle w.wait) → Act s e a (resume line a)
  Hands : (peer number line : ℕ) (bytes : Option (List ℕ)) (w : Waiting) → IsRead s e a peer number line bytes w
      → Act s e a (go_on_with (λ v o. bytes_step v bytes (pointers_for w.shard w.operation.op (without_job peer a)) o) line (without_job peer a))
  -- an entry takes effect that every good peer is known to have sealed, and is told of
  TakesEffect : (shard number : ℕ) (entry : Entry) → committed (group_of shard a) ≡ Some (number, entry) → Act s e a (told_at_once shard entry a)
  -- a due Enter is proposed; a new Round that came is proposed as a Got; a shard sends a round again
  Enters : (shard : ℕ) → IsUrged s e a shard → is_enter_due shard a ≡ true → Act s e a (propose_entry shard (kind.Enter 0 ((catalogue_of shard a).epoch + 1)) a)
  Gets : (number from to epoch round total : ℕ) (deltas : List Delta) → IsComing s e a number (message.Round from to epoch round total deltas)
      → is_new_round to from epoch round (change_pool (without number) a) ≡ true → Act s e a (propose_entry to (kind.Got from epoch round total deltas) (change_pool (without number) a))
  SendsRound : (back shard peer : ℕ) → IsNudged s e shard peer → Act s e a (send_round back shard a)
  -- a peer goes down; one that has copied all of the lead's list is good; a shard's first view begins
  Falls : (peer : ℕ) → IsFalling s e a peer → Act s e a (fallen peer a)
  Joins : (peer : ℕ) → IsLevel s e a peer → Act s e a (joined peer a)
  Opens : (shard : ℕ) → e ≡ None → has_good shard a.members ≡ true → Act s e a (begin_view shard a)

-- one after another, from the core as the event has begun
pub data Acts (s : Core) (e : Option Event) : Core → Type 0 where
  NoAct : Acts s e s
  AndThen : {a b : Core} → Acts s e a → Act s e a b → Acts s e b
