-- Why a shard counts as lost, and why a peer is told to be down.
use Rattle.std.specs.List.{list_any}
use Rattle.std.specs.Prelude.{Bool, List, None, Some, if◌then◌else◌, is_none, true, ℕ, ◌&&◌, ◌++◌, ◌-◌, ◌<◌, ◌||◌, ◌≡◌, ◌≤◌, ◌⊎◌}
use Rattle.hs_events.specs.Taken.{peer_count}
use Rattle.hs_fold.specs.Shards.Course.{begins}
use Rattle.hs_journal.specs.declared.entry.JournalEntry.{JournalEntry}
use Rattle.hs_journal.specs.Order.{IsAt, IsOfLine}
use Rattle.hs_limits.specs.Shape.{peer_of}
use Rattle.hs_members.specs.Members.{home_of, peers_of}
use Rattle.hs_model.specs.declared.command.Command.TheVariants as command
use Rattle.hs_ports.specs.Moments.{disk_at}
use Rattle.hs_side.specs.Current.{list_in}
use Rattle.hs_promise.specs.Ending.{ending_of}
use Rattle.hs_promise.specs.Entry.{is_aside}
use Rattle.hs_journal.specs.Notes.{is_first_noted, note_count}
use Rattle.hs_journal.specs.Telling.{IsDownAt}
use Rattle.hs_promise.specs.Run.{DiskRose, Ran, Script}

-- ---- a shard that is lost

-- a line that starts a peer was begun, and has no refusal
pub record IsStarted (S : Script) (r : Ran) (peer line : ℕ) : Type 0 where
  pub starts : S.commands line ≡ Some (command.Start peer)
  pub begun : line ≤ r.line
  pub unrefused : (place : ℕ) → IsOfLine r.journal place line → ⊥

-- a line was gone past: a later one was begun, or it was begun and the run did not end within it
abbrev pub IsPast : Ran → ℕ → Type 0
IsPast r line = (line < r.line) ⊎ (line ≡ r.line) × ((ending_of r.ending).past ≡ true)

-- no line behind this one started the peer again
abbrev pub NotStartedAfter : Script → Ran → ℕ → ℕ → Type 0
NotStartedAfter S r peer line = (k : ℕ) → line < k → IsStarted S r peer k → ⊥

-- why a peer counts as not good: a `fail` line, or a note, and no start above it; or a start, and no settle that was gone past above it
pub data NotGood (S : Script) (r : Ran) (peer : ℕ) : Type 0 where
  Failed : (line : ℕ) → line ≤ r.line → S.commands line ≡ Some (command.Fail peer) → NotStartedAfter S r peer line → NotGood S r peer
  Noted : (place line : ℕ) → IsDownAt r.journal place peer line → NotStartedAfter S r peer line → NotGood S r peer
  Joins : (line : ℕ) → IsStarted S r peer line → ((k : ℕ) → line < k → S.commands k ≡ Some command.Settle → IsPast r k → ⊥) → NotGood S r peer

-- a shard is lost only where none of its peers counts as good
pub record LostCause (S : Script) (r : Ran) (shard : ℕ) : Type 0 where
  pub within : shard < S.set.shape.shards
  pub each : (copy : ℕ) → copy < S.set.shape.copies → NotGood S r (peer_of S.set.shape shard copy)

-- ---- notes of disks

-- opening lost the taken log of a peer's shard
abbrev pub lost_taken : Script → Ran → ℕ → Bool
lost_taken S r peer = list_any (λ p. begins S.set.shape.shards r.course p && is_first_noted p (r.journal ++ r.refused)) (peers_of S.set.shape (home_of S.set.shape peer))

-- a peer that was set aside without a failure of its disk has one note more: its sides are no log, or it was not yet made equal to that log
abbrev pub extra_note : Script → Ran → ℕ → ℕ
extra_note S r peer = if is_aside S r peer && (is_none (list_in (disk_at r.old.disks peer).seen) || lost_taken S r peer) then 1 else 0

-- of a disk that tells its contents there are at most so many notes more than its count rose by
abbrev pub NotesCause : Script → Ran → Type 0
NotesCause S r = (peer : ℕ) → DiskRose r (note_count peer (r.journal ++ r.refused) - extra_note S r peer) peer

-- a peer is set aside only where its disk failed, or has no log, or was not yet made equal to the taken log of its shard, which was lost
abbrev pub AsideCause : Script → Ran → Type 0
AsideCause S r = (peer : ℕ) → is_aside S r peer ≡ true → DiskRose r 1 peer ⊎ ((list_in (disk_at r.old.disks peer).seen ≡ None) ⊎ (lost_taken S r peer ≡ true))

-- ---- notes end a run

-- behind a note that a peer is down stand only such notes, with the same line
abbrev pub NotesComeLast : List JournalEntry → Type 0
NotesComeLast journal = (i j peer line : ℕ) (entry : JournalEntry) → IsDownAt journal i peer line → i < j → IsAt journal j entry → (other : ℕ) × IsDownAt journal j other line

-- so it is; and where the last line was gone past there is none
pub record NotesEnd (r : Ran) : Type 0 where
  pub past : (ending_of r.ending).past ≡ true → (peer : ℕ) → note_count peer r.journal ≡ 0
  pub last : NotesComeLast r.journal

-- ---- a run without a course

-- why no peer was good: no store was opened, or memory was wanting; or each peer is told to be down before any line, or would have been told so, had the journal had room
abbrev pub NoneGoodCause : Script → Ran → Type 0
NoneGoodCause S r =
    (((ending_of r.ending).closed ≡ true) ⊎ ((ending_of r.ending).wanting ≡ true))
    ⊎ ((peer : ℕ) → peer < peer_count S.set.shape → is_first_noted peer (r.journal ++ r.refused) ≡ true)
