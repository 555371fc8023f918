-- Clause 1's other half: a run is the machine's on the events that are due, and on no others.
use Rattle.std.specs.Prelude.{ℕ, ◌+◌, ◌==◌, ◌≡◌, ◌⊎◌, ◌<◌, Bool, count_by, true, false, if◌then◌else◌, List, [], ◌∷◌, length, Option, Some, None, IfSome, All}
use Rattle.hs_desk.specs.declared.fault.CoreFault.{CoreFault}
use Rattle.hs_desk.specs.declared.fault.CoreFault.TheVariants as fault
use Rattle.hs_model.specs.Refusals.{first}
use Rattle.hs_promise.specs.Course.{course_of}
use Rattle.hs_promise.specs.Ending.{Ending, ending_of}
use Rattle.hs_promise.specs.Entry.{MayStop}
use Rattle.hs_promise.specs.Found.{HasFound, IsReadAs, IsStillBehind, IsToldAside, told_failures}
use Rattle.hs_promise.specs.Lines.{AreLines}
use Rattle.hs_events.specs.Course.{steps}
use Rattle.hs_events.specs.Due.{Events, MomentsRise, is_walk, next_turn}
use Rattle.hs_promise.specs.Promise.{AreOfScript}
use Rattle.hs_promise.specs.Reports.{TellTheirLists}
use Rattle.hs_promise.specs.Run.{DiskRose, Ran, Script}
use Rattle.hs_events.specs.Found.{first_core, starts_good}
use Rattle.hs_promise.specs.Story.{Story, all_events, last_core}
use Rattle.hs_events.specs.Taken.{peer_count}
use Rattle.hs_events.specs.Whole.{open_whole}

-- ---- the end

-- a run of a script ends so; the core ended with the fault that the status tells, and did not where the last line was gone past. A failed sink and want of memory come before either, while the same line is printed
pub record EndsAs (ending : Ending) (ended : Option CoreFault) : Type 0 where
  pub scripted : ending.unscripted ≡ false
  pub opened : ending.closed ≡ false
  pub past : ending.past ≡ true → ended ≡ None
  pub full : ending.full ≡ true → ended ≡ Some fault.OpsFull
  pub lost : IfSome ending.lost (λ shard. ended ≡ Some (fault.ShardLost shard))

-- opening is turns until nobody has one; it may be cut short only where no line was begun
abbrev pub opening_is_whole : Ran → List Events → Bool
opening_is_whole r [] = (ending_of r.ending).past
opening_is_whole r (first ∷ rest) = true

-- ---- all of it

-- how often a disk failed before the core was opened, as far as its log was the taken one
abbrev pub loss_count : Story → ℕ → ℕ
loss_count story disk = count_by (λ peer. peer.0 == disk) story.found.lost

-- a core was opened, and the run went as a story says; the report of a job is what its disk call gave, or with a cache what was read before
pub record Went (S : Script) (r : Ran) (story : Story) : Type 0 where
  pub found : HasFound S r story
  pub opening : is_walk next_turn (opening_is_whole r story.lines) 0 (first_core S.set story.found) story.opening ≡ true
  pub lines : AreLines S r 1 (steps (first_core S.set story.found) story.opening) story.lines
  pub line : r.line ≡ length story.lines
  pub rises : MomentsRise story.found.opened (all_events story) r.new.moment
  pub journal : r.journal ≡ (last_core S story).journal
  pub refused : r.refused ≡ (if (ending_of r.ending).full then (last_core S story).refused else [])
  pub course : r.course ≡ course_of S story r.old.moment
  pub ends : EndsAs (ending_of r.ending) (last_core S story).ended
  pub failed : (disk : ℕ) → DiskRose r (told_failures false S story disk) disk

-- and so where the disks tell their contents, so that no read finds what is no log, and what was read is told
pub record IsOfDisks (S : Script) (r : Ran) (story : Story) : Type 0 where
  pub read : (peer : ℕ) → peer < peer_count S.set.shape → IsReadAs r story peer
  pub told : (first_core S.set story.found).ended ≡ None → TellTheirLists (open_whole S.set story.found) (all_events story)
  pub still : MayStop S r → All (IsStillBehind r story) story.found.lost
  pub failed : (disk : ℕ) → DiskRose r (told_failures true S story disk + loss_count story disk) disk
  pub aside : (peer : ℕ) → peer < peer_count S.set.shape → starts_good story.found peer ≡ false → IsToldAside S r story peer

-- no core was opened, since a disk is of another store or memory was wanting: nothing was answered, read or put
pub record NeverOpened (r : Ran) : Type 0 where
  pub scripted : (ending_of r.ending).unscripted ≡ false
  pub cause : ((ending_of r.ending).closed ≡ true) ⊎ ((ending_of r.ending).wanting ≡ true)
  pub journal : r.journal ≡ []
  pub refused : r.refused ≡ []
  pub course : r.course ≡ []
  pub line : r.line ≡ 0
  pub unread : r.new.left ≡ r.old.left
  pub unput : r.new.got ≡ r.old.got

abbrev pub WentAs : Script → Ran → Option Story → Type 0
WentAs S r None = NeverOpened r
WentAs S r (Some story) = Went S r story

-- there is a story of the run, or no core was opened; where the disks tell their contents the story is theirs
pub record IsOfMachine (tells : Type 0) (S : Script) (r : Ran) : Type 0 where
  pub script : AreOfScript S r
  pub how : Option Story
  pub went : WentAs S r how
  pub told : tells → IfSome how (IsOfDisks S r)
