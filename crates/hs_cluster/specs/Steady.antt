-- What a core beside the lists of its peers owes to those who do its jobs and keep its disks, with any number of copies.
use Rattle.std.specs.Prelude.{◌≡◌, ◌≢◌, ◌≤◌, ℕ, false, [], ◌∷◌, None, Option, Some, length, take}
use Rattle.hs_cluster.specs.Cached.{HasEffect, in_effect}
use Rattle.hs_cluster.specs.Sealed.{sealed_front}
use Rattle.hs_cluster.specs.PeerLogs.{log_of_peer}
use Rattle.hs_core_words.specs.declared.event.Event.{Event}
use Rattle.hs_core_words.specs.declared.event.Event.TheVariants as event
use Rattle.hs_core_words.specs.Looking.{first_job}
use Rattle.hs_core_words.specs.Step.{step}
use Rattle.hs_desk.specs.declared.done.Done.{Done}
use Rattle.hs_desk.specs.declared.done.Done.TheVariants as done
use Rattle.hs_desk.specs.declared.fault.CoreFault.{CoreFault}
use Rattle.hs_desk.specs.declared.job.Job.{Job}
use Rattle.hs_desk.specs.declared.job.Job.TheVariants as job
use Rattle.hs_entry.specs.declared.entry.Entry.{Entry}
use Rattle.hs_events.specs.Asked.{failed_disk}
use Rattle.hs_events.specs.Course.{is_refused}
use Rattle.hs_events.specs.Due.{Events}
use Rattle.hs_events.specs.Sane.{appended_of}
use Rattle.hs_events.specs.Whole.{Whole, floor, reach, step_whole, taken_report}
use Rattle.hs_fold.specs.Shards.Setting.{Numbered}
use Rattle.hs_members.specs.Members.{IsPeer, IsShard}
use Rattle.hs_moments.specs.Moments.{Grows}
use Rattle.hs_moments.specs.WholeMachine.{IsFrontOf, whole_machine}
use Rattle.hs_moments.specs.Working.{NextJob}
use Rattle.hs_peerlog.specs.Lists.{numbered_entry}

-- ---- before an event

-- a peer that follows copies, from another one's log, the entry of a number, which is sealed there: just that may be added to its list
pub record IsNextCopy (c : Whole) (peer from number : ℕ) : Type 0 where
  pub there : IsPeer c.core.members.shape from
  pub other : from ≢ peer
  pub source : log_of_peer c from ≡ Some (sealed_front c from)
  pub follows : log_of_peer c peer ≡ Some (c.lists peer)
  pub unsealed : floor c peer ≡ 0
  pub sealed : (entry : Entry) × (numbered_entry (sealed_front c from) number ≡ Some entry)
  pub added : (entry : Entry) → numbered_entry (sealed_front c from) number ≡ Some entry → c.adds peer ≡ (number, entry) ∷ []

-- a good peer has the log of what it has sealed, and its job asks for the next entry there, or reads
pub record IsNextOwn (c : Whole) (peer : ℕ) (j : Job) : Type 0 where
  pub log : log_of_peer c peer ≡ Some (sealed_front c peer)
  pub next : NextJob c peer j

-- what a first job asks for; nothing is reclaimed
abbrev pub AsksFor : Whole → ℕ → Job → Type 0
AsksFor c peer (job.Append number entry) = IsNextOwn c peer (job.Append number entry)
AsksFor c peer (job.Seal number) = IsNextOwn c peer (job.Seal number)
AsksFor c peer (job.Read number) = IsNextOwn c peer (job.Read number)
AsksFor c peer job.Reset = log_of_peer c peer ≡ None
AsksFor c peer (job.Copy from number) = IsNextCopy c peer from number
AsksFor c peer job.Reclaim = ⊥

-- what is sealed is within a peer's list, each job asks for what is next, and one that reads has sealed what took effect
pub record IsSteady (c : Whole) : Type 0 where
  pub within : (peer : ℕ) → floor c peer ≤ length (reach c peer)
  pub asks : (peer : ℕ) (j : Job) → IsPeer c.core.members.shape peer → first_job peer c.core ≡ Some j → AsksFor c peer j
  pub reads : (peer number : ℕ) → IsPeer c.core.members.shape peer → first_job peer c.core ≡ Some (job.Read number) → HasEffect c peer

-- ---- behind an event

-- a peer that nothing is told of: where its log is told of, it is as before; and else what began its list still does
pub record KeepsItsLog (c new : Whole) (peer : ℕ) : Type 0 where
  pub same : (list : Numbered) → log_of_peer new peer ≡ Some list → (log_of_peer c peer ≡ Some list) × (appended_of peer new.core ≡ appended_of peer c.core)
  pub begins : log_of_peer new peer ≡ None → IsFrontOf peer (reach c peer) (reach new peer)

-- what its log has behind a report, and the entry that waits there
abbrev pub LogTold : Whole → ℕ → Done → Numbered → Option Entry → Type 0
LogTold c peer (done.Stored number) list waiting = (log_of_peer c peer ≡ Some list) × ((entry : Entry) → first_job peer c.core ≡ Some (job.Append number entry) → waiting ≡ Some entry)
LogTold c peer (done.Sealed number) list waiting = (list ≡ take number (reach c peer)) × (waiting ≡ None)
LogTold c peer (done.Bytes number bytes) list waiting = (log_of_peer c peer ≡ Some list) × (waiting ≡ None)
LogTold c peer (done.Gone number) list waiting = (log_of_peer c peer ≡ Some list) × (waiting ≡ None)
LogTold c peer done.Emptied list waiting = (list ≡ []) × (waiting ≡ None)
LogTold c peer (done.Copied number) list waiting = (list ≡ reach c peer) × (waiting ≡ None)
LogTold c peer (done.Stepped switched) list waiting = ⊥
LogTold c peer (done.Failed disk) list waiting = (log_of_peer c peer ≡ Some list) × (waiting ≡ appended_of peer c.core)

-- the peer of a report
pub record TellsItsLog (c new : Whole) (peer : ℕ) (d : Done) : Type 0 where
  pub log : (list : Numbered) → log_of_peer new peer ≡ Some list → LogTold c peer d list (appended_of peer new.core)
  pub begins : log_of_peer new peer ≡ None → IsFrontOf peer (reach c peer) (reach new peer)

-- only logs of peers are told of, and what is sealed is within a list; the peer that reports; one whose disk is told to have failed, or that a line has fail; the others; and what took effect of each shard stays
pub record GoesAlong (c : Whole) (e : Event) (new : Whole) : Type 0 where
  pub peers : (peer : ℕ) (list : Numbered) → log_of_peer new peer ≡ Some list → IsPeer new.core.members.shape peer
  pub within : (peer : ℕ) → floor new peer ≤ length (reach new peer)
  pub told : (peer : ℕ) (d : Done) → taken_report c.core e ≡ Some (peer, d) → TellsItsLog c new peer d
  pub failed : (peer disk : ℕ) (d : Done) → taken_report c.core e ≡ Some (peer, d) → failed_disk d ≡ Some disk → log_of_peer new disk ≡ None
  pub down : (line peer : ℕ) → e ≡ event.Fail line peer → log_of_peer new peer ≡ None
  pub beside : (peer : ℕ) → ((d : Done) → taken_report c.core e ≢ Some (peer, d)) → KeepsItsLog c new peer
  pub effect : (shard : ℕ) → IsShard new.core.members.shape shard → IsFrontOf shard (in_effect c shard) (in_effect new shard)

-- an event by which the core goes on; and one by which a shard is lost: what began a list still does, and no more of it is sealed
pub record StepsSteadily (c : Whole) (e : Event × ℕ) : Type 0 where
  pub on : (step e.0 e.1 c.core).ended ≡ None → GoesAlong c e.0 (step_whole e.0 e.1 c)
  pub lost : (fault : CoreFault) → (step e.0 e.1 c.core).ended ≡ Some fault → is_refused (Some fault) ≡ false → (peer : ℕ) → Grows whole_machine c (step_whole e.0 e.1 c) peer

-- ---- along events

-- so before each event of a core that goes on, and by it
abbrev pub AreSteady : Whole → Events → Type 0
AreSteady c [] = c.core.ended ≡ None → IsSteady c
AreSteady c (e ∷ es) = (c.core.ended ≡ None → IsSteady c × StepsSteadily c e) × AreSteady (step_whole e.0 e.1 c) es
