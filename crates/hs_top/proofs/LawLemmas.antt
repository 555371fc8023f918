-- The laws by which a run keeps what is promised of it, as calls of them ensure them.
use Rattle.std.specs.Prelude.{All, IfSome, None, Option, Some, [], false, length, true, ℕ, ◌+◌, ◌<◌, ◌≡◌, ◌≤◌, List}
use Rattle.hs_settled.specs.Opened.{IsAsideAs, OpensRanked}
use Rattle.hs_settled.specs.Printing.{FailsInOpening, FailsInText, LeavesUnread}
use Rattle.hs_clauses.specs.Asked.{start_of}
use Rattle.hs_clauses.specs.Shown.{HasItsDisks, IsShownRun, IsToldAs, IsToldRun, RunsSoundly}
use Rattle.hs_clauses.specs.Stopped.{IsShownByMoments, KeepsCopies}
use Rattle.hs_cluster.specs.Kept.{AreStored}
use Rattle.hs_desk.specs.declared.fault.CoreFault.{CoreFault}
use Rattle.hs_settled.specs.Ending.{HasItsCause}
use Rattle.hs_events.specs.Due.{Events}
use Rattle.hs_events.specs.Beginning.{first_items}
use Rattle.hs_events.specs.Found.{Found, first_core, opened_list, starts_good}
use Rattle.hs_events.specs.Reports.{failures}
use Rattle.hs_events.specs.Sane.{IsFromOne}
use Rattle.hs_events.specs.Taken.{peer_count}
use Rattle.hs_events.specs.Whole.{open_whole}
use Rattle.hs_fold.specs.Good.{good_from}
use Rattle.hs_fold.specs.Shards.Setting.{Setting}
use Rattle.hs_journal.specs.Events.{client_op}
use Rattle.hs_journal.specs.Order.{IsOrdered}
use Rattle.hs_journal.specs.Telling.{AreDated}
use Rattle.hs_limits.specs.Shape.{IsShape}
use Rattle.hs_ports.specs.Fault.{HasRisen}
use Rattle.hs_ports.specs.Objects.{faults_at}
use Rattle.hs_promise.specs.Answers.{Answers, BeganNothing, IsEntry}
use Rattle.hs_promise.specs.Calm.{RisesAreTold}
use Rattle.hs_promise.specs.Causes.{Cause, CauseButLoss, FullCause}
use Rattle.hs_promise.specs.Completes.{EndsWell, FullBeyond, HasPrompt, MayEndWell, SettlesEach}
use Rattle.hs_promise.specs.declared.status.Status.TheVariants as status
use Rattle.hs_promise.specs.Deletes.{Deletes}
use Rattle.hs_promise.specs.Ending.{ending_of}
use Rattle.hs_promise.specs.Ends.{Ends}
use Rattle.hs_promise.specs.Entry.{IsSoundAtEntry, MayStop, entry_store}
use Rattle.hs_promise.specs.Headers.{KeepsHeaders}
use Rattle.hs_promise.specs.Found.{IsReadAs}
use Rattle.hs_promise.specs.Kept.{KeepsAlong}
use Rattle.hs_promise.specs.Lost.{NoneGoodCause, NotesCause, NotesEnd}
use Rattle.hs_promise.specs.Machine.{NeverOpened, Went, WentAs, loss_count}
use Rattle.hs_promise.specs.Run.{DiskRose, Ran, Script}
use Rattle.hs_promise.specs.Stops.{Stops}
use Rattle.hs_promise.specs.Story.{Story, all_events}
use Rattle.hs_promise.specs.Untold.{IsGoodUntold}
use Rattle.hs_script.specs.Reading.{commands}
use Rattle.hs_side.specs.declared.header.Header.{Header}
use Rattle.hs_standing.specs.Run.{MayRun, RunBegins}
use Rattle.hs_standing.specs.Standing.{AllMayKeep}

-- what a peer is to read is in what is sealed of its list
abbrev pub StoresBlocks : Type 0
StoresBlocks =
    (set : Setting) (found : Found) (events : Events) → set.shape.copies ≡ 1 → (first_core set found).ended ≡ None
    → ((shard : ℕ) → shard < set.shape.shards → IsFromOne (opened_list set found shard)) → length found.good ≡ peer_count set.shape → AreStored (open_whole set found) events

pub record Laws : Type 0 where
  -- clauses
  pub answers : (S : Script) (r : Ran) → IsToldRun S r → IsSoundAtEntry S r → Answers S (entry_store S r) r.journal
  pub full : (S : Script) (r : Ran) → IsToldRun S r → IsSoundAtEntry S r → FullCause S (entry_store S r) r
  pub keeps : (S : Script) (r : Ran) → IsToldRun S r → IsSoundAtEntry S r → KeepsAlong S (entry_store S r) r
  pub stops : (S : Script) (r : Ran) → IsShownRun S r → KeepsHeaders S r → MayStop S r → Stops S (entry_store S r) r
  pub stops_copies : (S : Script) (r : Ran) → IsShownByMoments S r → KeepsHeaders S r → MayStop S r → KeepsCopies S r → Stops S (entry_store S r) r
  -- deletion
  pub soundly : (S : Script) (r : Ran) (story : Story) → HasItsDisks S r → IsToldAs S r story → IsSoundAtEntry S r → (first_core S.set story.found).ended ≡ None → RunsSoundly S r story
  pub events : (S : Script) (r : Ran) (story : Story) → RunsSoundly S r story → AllMayKeep (start_of S r) (MayRun (start_of S r)) (first_core S.set story.found) (all_events story)
  pub deletes : (S : Script) (r : Ran) (story : Story) → Went S r story → RunBegins (start_of S r) story.found
      → AllMayKeep (start_of S r) (MayRun (start_of S r)) (first_core S.set story.found) (all_events story) → Deletes S (entry_store S r) r
  pub deletes_ended : (S : Script) (r : Ran) (story : Story) (fault : CoreFault) → Went S r story → (first_core S.set story.found).ended ≡ Some fault → Deletes S (entry_store S r) r
  pub deletes_never : (S : Script) (r : Ran) → NeverOpened r → Deletes S (entry_store S r) r
  -- causes
  pub entries : (S : Script) (r : Ran) (how : Option Story) → WentAs S r how → All (IsEntry S r.line) r.journal
  pub dated : (S : Script) (r : Ran) (how : Option Story) → WentAs S r how → AreDated S.commands r.journal
  pub nothing : (S : Script) (r : Ran) (how : Option Story) → IsShape S.set.shape → WentAs S r how → IfSome how (LeavesUnread S r) → r.course ≡ [] → BeganNothing r
  pub good : (S : Script) (r : Ran) (story : Story) → Went S r story
      → (S.set.shape.copies ≡ 1 → (m peer : ℕ) → r.old.moment < m → peer < peer_count S.set.shape → starts_good story.found peer ≡ true → good_from false (first_items S.set.shape story.found r.old.moment) m peer ≡ true) → IsGoodUntold S r
  pub notes_end : (S : Script) (r : Ran) (how : Option Story) → S.set.shape.copies ≡ 1 → WentAs S r how → NotesEnd r
  pub ordered : (S : Script) (r : Ran) (how : Option Story) → client_op (S.commands 0) ≡ None → WentAs S r how → IsOrdered S.commands r.journal
  pub none_good : (S : Script) (r : Ran) (how : Option Story) → WentAs S r how → IsShape S.set.shape → IfSome how (FailsInOpening r) → r.course ≡ [] → NoneGoodCause S r
  pub prompt : (S : Script) (r : Ran) (how : Option Story) → client_op (S.commands 0) ≡ None → WentAs S r how → IfSome how (FailsInText S r) → (line : ℕ) → HasPrompt S r line
  pub any_cause : (S : Script) (r : Ran) (how : Option Story) → WentAs S r how → (r.ending ≡ status.ReadFault → HasRisen r.old.source_faults r.new.source_faults)
      → (r.ending ≡ status.WriteFault → HasRisen r.old.sink_faults r.new.sink_faults)
      → ((peer : ℕ) (found : Header) → r.ending ≡ status.WrongShape peer found → peer < peer_count S.set.shape) → CauseButLoss S r r.ending
  pub cause : (S : Script) (r : Ran) (how : Option Story) → WentAs S r how → ((S.set.shape.copies ≡ 1 → ⊥) → IfSome how (λ story. OpensRanked S.set story.found)) → (r.ending ≡ status.ReadFault → HasRisen r.old.source_faults r.new.source_faults)
      → (r.ending ≡ status.WriteFault → HasRisen r.old.sink_faults r.new.sink_faults)
      → ((peer : ℕ) (found : Header) → r.ending ≡ status.WrongShape peer found → peer < peer_count S.set.shape) → Cause S r r.ending
  -- notes
  pub notes : (S : Script) (r : Ran) (story : Story) → Went S r story → ((peer : ℕ) → peer < peer_count S.set.shape → IsReadAs r story peer)
      → ((disk : ℕ) → DiskRose r (loss_count story disk) disk)
      → ((first_core S.set story.found).ended ≡ None → (disk : ℕ) → DiskRose r (failures true disk (first_core S.set story.found) (all_events story) + loss_count story disk) disk)
      → ((S.set.shape.copies ≡ 1 → ⊥) → (first_core S.set story.found).ended ≡ None → (peer : ℕ) → peer < peer_count S.set.shape → starts_good story.found peer ≡ false → IsAsideAs S r story peer) → NotesCause S r
  pub notes_never : (S : Script) (r : Ran) → NeverOpened r → ((disk : ℕ) → faults_at r.old.disk_faults disk ≤ faults_at r.new.disk_faults disk) → NotesCause S r
  pub stored : StoresBlocks
  -- settles
  pub settles : (S : Script) (r : Ran) (story : Story) → Went S r story → S.commands 0 ≡ None → RunBegins (start_of S r) story.found
      → AllMayKeep (start_of S r) (MayRun (start_of S r)) (first_core S.set story.found) (all_events story) → Answers S (entry_store S r) r.journal
      → SettlesEach S (entry_store S r) r
  -- ends
  pub room : (S : Script) (r : Ran) (story : Story) → RunsSoundly S r story → FullBeyond S r
  pub room_ended : (S : Script) (r : Ran) (story : Story) (fault : CoreFault) → Went S r story → (first_core S.set story.found).ended ≡ Some fault → FullBeyond S r
  pub room_never : (S : Script) (r : Ran) → NeverOpened r → FullBeyond S r
  pub ends_well : (S : Script) (r : Ran) (script left : List ℕ) → ((n : ℕ) → S.commands n ≡ commands script n) → HasItsCause S r → Ends r script left
      → FullBeyond S r → MayEndWell S script r → EndsWell S r
  -- counts
  pub rises : (S : Script) (r : Ran) (story : Story) → Went S r story
      → ((ending_of r.ending).short ≡ false → (disk : ℕ) → starts_good story.found disk ≡ true → failures true disk (first_core S.set story.found) (all_events story) ≡ 0 → faults_at r.new.disk_faults disk ≡ faults_at r.old.disk_faults disk)
      → RisesAreTold S r
  pub rises_never : (S : Script) (r : Ran) → NeverOpened r → RisesAreTold S r
