-- What every single change keeps, each event keeps: what is asked of the changes, of the core, and of the event.
use Rattle.std.specs.Prelude.{◌≡◌, ℕ, ◌+◌, ◌<◌, ◌≤◌, true, List, [], Option, Some, None, length}
use Rattle.hs_standing.specs.Changes.{IsBeside, IsIdle, told_at_once}
use Rattle.hs_awaiting.specs.declared.wait.Wait.TheVariants as wait
use Rattle.hs_awaiting.specs.declared.waiting.Waiting.{Waiting}
use Rattle.hs_core_words.specs.declared.event.Event.{Event}
use Rattle.hs_core_words.specs.declared.event.Event.TheVariants as event
use Rattle.hs_core_words.specs.Asking.{send_round}
use Rattle.hs_core_words.specs.Changing.{change_pool, note, refuse}
use Rattle.hs_core_words.specs.Delivering.{is_new_round}
use Rattle.hs_core_words.specs.Entering.{is_enter_due}
use Rattle.hs_core_words.specs.Looking.{catalogue_of, first_task, group_of, operation_of, shape_of}
use Rattle.hs_core_words.specs.Operating.{begin_line, go_on_with, propose_entry, resume}
pub use Rattle.hs_core_words.specs.Records.{HasRecordRoom}
use Rattle.hs_core_words.specs.Seeing.{pointers_for}
use Rattle.hs_core_words.specs.State.{Core}
use Rattle.hs_core_words.specs.Views.{begin_view}
use Rattle.hs_desk.specs.declared.done.Done.{Done}
use Rattle.hs_desk.specs.declared.done.Done.TheVariants as done
use Rattle.hs_desk.specs.declared.job.Job.TheVariants as job
use Rattle.hs_effects.specs.Logged.{AreOnce}
use Rattle.hs_effects.specs.Taking.{taken}
use Rattle.hs_entry.specs.declared.entry.Entry.{Entry}
use Rattle.hs_entry.specs.declared.entry.Entry.TheVariants as kind
use Rattle.hs_fold.specs.Shards.Sound.{most_records}
use Rattle.hs_journal.specs.declared.entry.Who.TheVariants as who
use Rattle.hs_model.specs.declared.deed.Deed.TheVariants as deed
use Rattle.hs_model.specs.declared.op.Op.{Op}
use Rattle.hs_model.specs.declared.reply.Reply.{Reply}
use Rattle.hs_model.specs.declared.reply.Reply.TheVariants as reply
use Rattle.hs_ops.specs.Operations.{bytes_step}
use Rattle.hs_post.specs.declared.message.Message.TheVariants as message
use Rattle.hs_post.specs.Pool.{message_at, without}
use Rattle.hs_replica.specs.Group.{committed}
use Rattle.hs_limits.specs.declared.delta.Delta.{Delta}
use Rattle.hs_limits.specs.declared.shape.Shape.{Shape}

-- ---- the changes

-- what is asked of a client's line, of bytes that a report tells, of a line that is no client's; by Q no line has two operations, each of the changes keeps Q, and those beside a run keep what is asked
pub record Walks (MayLine : ℕ → Op → Core → Type 0) (MayTell : ℕ → Option (List ℕ) → Waiting → Core → Type 0) (MayRefuse : ℕ → Type 0) (Q : Core → Type 0) : Type 0 where
  pub once : (c : Core) → Q c → AreOnce c.operations
  pub line_beside : (line : ℕ) (o : Op) (a b : Core) → IsBeside a b → MayLine line o a → MayLine line o b
  pub tell_beside : (number : ℕ) (bytes : Option (List ℕ)) (w : Waiting) (a b : Core) → IsBeside a b → MayTell number bytes w a → MayTell number bytes w b
  pub beside : (a b : Core) → IsBeside a b → Q a → Q b
  -- a peer that is down is told of, and a line that is no client's is refused
  pub downed : (peer line : ℕ) (c : Core) → Q c → Q (note who.Store deed.Nothing (reply.Down peer line) c)
  pub refused : (line : ℕ) (refusal : Reply) (c : Core) → MayRefuse line → Q c → Q (refuse line refusal c)
  -- a client's line
  pub line : (line : ℕ) (o : Op) (c : Core) → MayLine line o c → Q c → Q (begin_line line o c)
  -- an operation that waits for no entry goes on
  pub goes : (line : ℕ) (c : Core) → ((w : Waiting) → operation_of line c ≡ Some w → IsIdle w.wait) → Q c → Q (resume line c)
  -- one that waits for bytes is told them
  pub told : (line number : ℕ) (bytes : Option (List ℕ)) (w : Waiting) (c : Core) → operation_of line c ≡ Some w → w.wait ≡ wait.Bytes number → MayTell number bytes w c → Q c
      → Q (go_on_with (λ v o. bytes_step v bytes (pointers_for w.shard w.operation.op c) o) line c)
  -- an entry takes effect, by which no shard has more root records than it takes
  pub effect : (shard number : ℕ) (entry : Entry) (c : Core) → shard < (shape_of c).shards → committed (group_of shard c) ≡ Some (number, entry) → ((g : ℕ) → length (catalogue_of g (taken shard entry c)).roots ≤ most_records) → Q c
      → Q (told_at_once shard entry c)
  -- a due Enter is proposed; a new Round that was under way is proposed as a Got; a shard sends a round again
  pub due : (shard : ℕ) (c : Core) → shard < (shape_of c).shards → is_enter_due shard c ≡ true → Q c → Q (propose_entry shard (kind.Enter 0 ((catalogue_of shard c).epoch + 1)) c)
  pub round : (number from to epoch round total : ℕ) (deltas : List Delta) (c : Core) → to < (shape_of c).shards → message_at number c.pool ≡ Some (message.Round from to epoch round total deltas)
      → is_new_round to from epoch round (change_pool (without number) c) ≡ true → Q c → Q (propose_entry to (kind.Got from epoch round total deltas) (change_pool (without number) c))
  pub again : (back shard : ℕ) (c : Core) → Q c → Q (send_round back shard c)

-- and so does a first view, in a shard in whose list nothing waits, while there is no operation
pub record WalksOpen (MayLine : ℕ → Op → Core → Type 0) (MayTell : ℕ → Option (List ℕ) → Waiting → Core → Type 0) (MayRefuse : ℕ → Type 0) (Q : Core → Type 0) : Type 0 where
  pub walks : Walks MayLine MayTell MayRefuse Q
  pub opens : (shard : ℕ) (c : Core) → shard < (shape_of c).shards → (group_of shard c).waiting ≡ [] → c.operations ≡ [] → Q c → Q (begin_view shard c)

-- and so does a view that begins, in a store of this shape, of more than one copy a shard
abbrev pub WalksViews : Shape → (Core → Type 0) → Type 0
WalksViews shape Q = (shard : ℕ) (c : Core) → shape_of c ≡ shape → shard < (shape_of c).shards → 1 < (shape_of c).copies → Q c → Q (begin_view shard c)

-- ---- the event

-- an operation waits for the bytes that a peer's first job reads
pub record IsReadFor (peer number : ℕ) (core : Core) (w : Waiting) : Type 0 where
  pub line : ℕ
  pub first : first_task peer core ≡ Some (record { job = job.Read number; line = line })
  pub at : operation_of line core ≡ Some w
  pub waits : w.wait ≡ wait.Bytes number

-- what is asked of a report: of one that tells bytes, or that they are gone, what is asked where an operation waits for them
abbrev pub MayReport : (ℕ → Option (List ℕ) → Waiting → Core → Type 0) → ℕ → Done → Core → Type 0
MayReport MayTell peer (done.Stored number) core = Unit {0}
MayReport MayTell peer (done.Sealed number) core = Unit {0}
MayReport MayTell peer (done.Bytes number bytes) core = (w : Waiting) → IsReadFor peer number core w → MayTell number (Some bytes) w core
MayReport MayTell peer (done.Gone number) core = (w : Waiting) → IsReadFor peer number core w → MayTell number None w core
MayReport MayTell peer done.Emptied core = Unit {0}
MayReport MayTell peer (done.Copied number) core = Unit {0}
MayReport MayTell peer (done.Stepped switched) core = Unit {0}
MayReport MayTell peer (done.Failed disk) core = Unit {0}

-- and of any event
abbrev pub MayEvent : (ℕ → Op → Core → Type 0) → (ℕ → Option (List ℕ) → Waiting → Core → Type 0) → (ℕ → Type 0) → Event → Core → Type 0
MayEvent MayLine MayTell MayRefuse (event.Line line o) core = MayLine line o core
MayEvent MayLine MayTell MayRefuse (event.Report peer d) core = MayReport MayTell peer d core
MayEvent MayLine MayTell MayRefuse (event.Turn line peer) core = MayRefuse line
MayEvent MayLine MayTell MayRefuse (event.Deliver line number) core = MayRefuse line
MayEvent MayLine MayTell MayRefuse (event.Lose line number) core = MayRefuse line
MayEvent MayLine MayTell MayRefuse (event.Repeat line number) core = MayRefuse line
MayEvent MayLine MayTell MayRefuse (event.Nudge line peer) core = MayRefuse line
MayEvent MayLine MayTell MayRefuse (event.Fail line peer) core = MayRefuse line
MayEvent MayLine MayTell MayRefuse (event.Start line peer) core = MayRefuse line
