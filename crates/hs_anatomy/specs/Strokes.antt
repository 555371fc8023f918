-- What acts are made of: the changes of one thing each, some of which leave what holds between acts to the next one.
use Rattle.std.specs.Prelude.{◌≡◌, ℕ, ◌+◌, ◌<◌, true, false, List, Option, Some, None, length}
use Rattle.hs_anatomy.specs.Acts.{Aside, IsFelled, IsNudged}
use Rattle.hs_anatomy.specs.Effect.{taken}
use Rattle.hs_anatomy.specs.Refusing.{refusal_in}
use Rattle.hs_awaiting.specs.declared.next.Next.{Next}
use Rattle.hs_awaiting.specs.declared.wait.Wait.TheVariants as wait
use Rattle.hs_awaiting.specs.declared.waiting.Waiting.{Waiting}
use Rattle.hs_awaiting.specs.Going.{next_step}
use Rattle.hs_awaiting.specs.Words.{change_with, each, ◌▸◌}
use Rattle.hs_core_words.specs.Asking.{send_round}
use Rattle.hs_core_words.specs.Changing.{add_operation, change_group, note, post, put_operation, set_rejoin, set_status, set_viewed}
use Rattle.hs_core_words.specs.declared.event.Event.{Event}
use Rattle.hs_core_words.specs.declared.event.Event.TheVariants as event
use Rattle.hs_core_words.specs.Delivering.{is_new_round}
use Rattle.hs_core_words.specs.Entering.{is_enter_due}
use Rattle.hs_core_words.specs.Failing.{leave}
use Rattle.hs_core_words.specs.Joining.{begin_joining, follow_lead, joining_peers}
use Rattle.hs_core_words.specs.Looking.{catalogue_of, group_of, lead_of, operation_of, shape_of, status_of}
use Rattle.hs_core_words.specs.Operating.{add_read, answer, propose_entry}
use Rattle.hs_core_words.specs.Seeing.{view_for}
use Rattle.hs_core_words.specs.State.{Core}
use Rattle.hs_core_words.specs.Step.{line_of}
use Rattle.hs_core_words.specs.Views.{restart}
use Rattle.hs_desk.specs.declared.done.Done.TheVariants as done
use Rattle.hs_entry.specs.declared.entry.Entry.{Entry}
use Rattle.hs_entry.specs.declared.entry.Entry.TheVariants as kind
use Rattle.hs_journal.specs.declared.entry.Who.{Who}
use Rattle.hs_journal.specs.declared.entry.Who.TheVariants as who
use Rattle.hs_limits.specs.declared.address.Address.{Address}
use Rattle.hs_limits.specs.declared.delta.Delta.{Delta}
use Rattle.hs_limits.specs.declared.limits.PeerStatus.TheVariants.{Good}
use Rattle.hs_members.specs.Members.{is_good_status, view_of}
use Rattle.hs_model.specs.declared.deed.Deed.{Deed}
use Rattle.hs_model.specs.declared.deed.Deed.TheVariants as deed
use Rattle.hs_model.specs.declared.op.Op.{Op}
use Rattle.hs_model.specs.declared.reply.Reply.{Reply}
use Rattle.hs_model.specs.declared.reply.Reply.TheVariants as reply
use Rattle.hs_ops.specs.declared.step.OpStep.{OpStep}
use Rattle.hs_ops.specs.declared.step.OpStep.TheVariants as step
use Rattle.hs_ops.specs.Operations.{go_step, new_operation}
use Rattle.hs_ops.specs.Speaking.{judging_shard}
use Rattle.hs_ops.specs.Views.{OpView}
use Rattle.hs_replica.specs.Group.{committed, last_number, renew, renewal}

-- ---- what is known

-- what makes an operation take a step: what it sees of the core, at a report or an effect too; or what its client's line sees as it comes
pub data IsStepOf (e : Option Event) (a : Core) (line : ℕ) (w : Waiting) (taken : OpStep) : Type 0 where
  Seen : (how : Next) (pointers : List Address) → taken ≡ next_step how pointers (view_for w.shard w.operation.op a) w.operation → IsStepOf e a line w taken
  AtFirst : (o : Op) (v : OpView) → e ≡ Some (event.Line line o) → taken ≡ go_step v (new_operation line o) → IsStepOf e a line w taken

-- the same operation at another stage, or with another wait
pub record IsOneOf (w was : Waiting) : Type 0 where
  pub op : w.operation.op ≡ was.operation.op
  pub line : w.operation.line ≡ was.operation.line
  pub shard : w.shard ≡ was.shard

-- whose entry is proposed in a shard: an operation's, by a step that it took before; a due Enter; a Round that came; the View of a view that begins
pub data IsOffered (e : Option Event) (a : Core) (shard : ℕ) : Entry → Type 0 where
  FromStep : {entry : Entry} (c : Core) (line : ℕ) (was w : Waiting) → IsStepOf e c line was (step.Propose entry) → operation_of line a ≡ Some w
      → w.wait ≡ wait.Entry (last_number (group_of shard a) + 1) → w.shard ≡ shard → IsOneOf w was → IsOffered e a shard entry
  FromDue : is_enter_due shard a ≡ true → IsOffered e a shard (kind.Enter 0 ((catalogue_of shard a).epoch + 1))
  FromRound : (from epoch round total : ℕ) (deltas : List Delta) → is_new_round shard from epoch round a ≡ true → IsOffered e a shard (kind.Got from epoch round total deltas)
  FromView : IsOffered e a shard (kind.View (view_of shard a.members))

-- who is told what, that is no client's operation
pub data IsNoted (s : Core) (e : Option Event) (a : Core) : Who → Deed → Reply → Type 0 where
  OfRefusal : (now : Event) (refusal : Reply) → e ≡ Some now → refusal_in now s ≡ Some refusal → IsNoted s e a (who.Line (line_of now)) deed.Nothing refusal
  OfDisk : (by peer : ℕ) → e ≡ Some (event.Report by (done.Failed peer)) → IsNoted s e a who.Store deed.Nothing (reply.Down peer a.progress.event_line)
  OfFound : (peer : ℕ) → e ≡ None → is_good_status (status_of peer a) ≡ false → IsNoted s e a who.Store deed.Nothing (reply.Down peer 0)
  OfSweep : (shard removed : ℕ) → shard < length a.groups → IsNoted s e a (who.Shard shard) (deed.Swept shard) (reply.Sweep (catalogue_of shard a).swept removed)
  OfDone : (epoch : ℕ) → IsNoted s e a who.Store deed.Nothing (reply.Done epoch)
  OfEntering : (shard epoch : ℕ) → shard < length a.groups → IsNoted s e a (who.Shard shard) (deed.Entered shard) (reply.Enter epoch)

-- ---- what strokes leave

-- a client's line has its operation, before its first step
abbrev pub new_waiting : ℕ → Op → Core → Waiting
new_waiting line o core = record { operation = new_operation line o; shard = judging_shard (shape_of core).shards core.sessions o; wait = wait.View }

abbrev pub added : ℕ → Op → Core → Core
added line o core = add_operation line (new_waiting line o core) (record core { progress = record core.progress { last_line = line } })

-- a view has begun, before its View is proposed
abbrev pub renewed : ℕ → Core → Core
renewed shard core =
    core ▸ set_viewed shard false ▸ change_group shard (renew core.members) ▸ restart shard ▸ (λ core. post (renewal (group_of shard core)) core)

-- ---- strokes

-- of catalogues, sessions, operations and what is told they change nothing
pub data Still (s : Core) (e : Option Event) (a : Core) : Core → Type 0 where
  Besides : {b : Core} → Aside s e a b → Still s e a b
  Proposes : (shard : ℕ) (entry : Entry) → IsOffered e a shard entry → Still s e a (propose_entry shard entry a)
  Reads : (line number : ℕ) (w : Waiting) → operation_of line a ≡ Some w → w.wait ≡ wait.Bytes number → Still s e a (change_with (lead_of w.shard a) (add_read number line) a)
  SendsAgain : (back shard peer : ℕ) → IsNudged s e shard peer → Still s e a (send_round back shard a)
  Leaves : (peer : ℕ) → IsFelled s e peer → Still s e a (leave peer a)
  TurnsGood : (peer : ℕ) → Still s e a (set_rejoin peer None (set_status peer Good a))
  BeginsAgain : (shard : ℕ) → Still s e a (each (joining_peers shard a) begin_joining a)
  Follows : (shard : ℕ) → Still s e a (follow_lead shard a)

pub data Stroke (s : Core) (e : Option Event) (a : Core) : Core → Type 0 where
  IsStill : {b : Core} → Still s e a b → Stroke s e a b
  Notes : {of : Who} {did : Deed} {told : Reply} → IsNoted s e a of did told → Stroke s e a (note of did told a)
  Adds : (line : ℕ) (o : Op) → a ≡ s → e ≡ Some (event.Line line o) → Stroke s e a (added line o a)
  Waits : (line : ℕ) (w was : Waiting) → operation_of line a ≡ Some was → IsOneOf w was → Stroke s e a (put_operation line w a)
  Answers : (line : ℕ) (w was : Waiting) (told : Reply) → operation_of line a ≡ Some was → IsOneOf w was → IsStepOf e a line was (step.Answer told) → Stroke s e a (answer line w told a)
  TakesOut : (shard number : ℕ) (entry : Entry) → committed (group_of shard a) ≡ Some (number, entry) → Stroke s e a (taken shard entry a)
  Renews : (shard : ℕ) → Stroke s e a (renewed shard a)

-- one after another, from the core as the event has begun
pub data Strokes (s : Core) (e : Option Event) : Core → Type 0 where
  NoStroke : Strokes s e s
  AndStroke : {a b : Core} → Strokes s e a → Stroke s e a b → Strokes s e b
