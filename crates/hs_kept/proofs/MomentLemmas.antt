-- At each moment of a run whose core goes on behind its opening, what is pending is what its lines ask for.
use Rattle.std.proofs.Common.{◌≡◌, ◌∙◌, inl, inr, ap, refl, ℕ, ◌+◌, ◌<◌, ◌==◌, ◌&&◌, Bool, true, false, List, None, length, arith, if◌then◌else◌}
use Rattle.std.specs.Prelude.{filter}
use Rattle.hs_clauses.proofs.AskedLemmas.{IsAskedOf, its_disks, told_as}
use Rattle.hs_clauses.proofs.CourseLemmas.{some_course}
use Rattle.hs_clauses.proofs.FoundLemmas.{opens_begins}
use Rattle.hs_clauses.proofs.ListLemmas.{none_aside}
use Rattle.hs_clauses.proofs.MomentLemmas.{at_moment, good, one_list, state_then}
use Rattle.hs_clauses.specs.Asked.{start_of}
use Rattle.hs_clauses.specs.Shown.{HasItsDisks, HaveOneList, IsShown, IsToldAs, OnDisks, RunsSoundly}
use Rattle.hs_events.specs.Course.{items_of}
use Rattle.hs_events.specs.Found.{Found, first_core}
use Rattle.hs_events.specs.Taken.{taken_items}
use Rattle.hs_events.specs.Whole.{open_whole}
use Rattle.hs_fold.specs.Shards.Course.{begins}
use Rattle.hs_fold.specs.Shards.Images.{AreGoodImages, Image}
use Rattle.hs_model.specs.declared.course.CourseItem.{CourseItem}
use Rattle.hs_moments.specs.Joint.{AtMoment}
use Rattle.hs_moments.specs.WholeMachine.{whole_machine}
use Rattle.hs_ports.specs.Objects.{IsDuring}
use Rattle.hs_promise.specs.Ending.{ending_of}
use Rattle.hs_promise.specs.Entry.{IsSoundAtEntry, MayStop, counted_course, entry_logs, still_counts}
use Rattle.hs_promise.specs.Run.{Ran, Script}
use Rattle.hs_promise.specs.Stops.{stop_at}
use Rattle.hs_promise.specs.Story.{Story, all_events}
use Rattle.hs_standing.specs.Run.{IsRunning, MayRun, RunOpens}
use Rattle.hs_standing.specs.Standing.{AllMayKeep, IsStateAt}
use Rattle.hs_standing.specs.Start.{Start}
use Rattle.hs_kept.proofs.AwaitLemmas.{good_then, pending_asked}
use Rattle.hs_kept.proofs.RunningLemmas.{RunsOn, running_then}
use Rattle.hs_kept.specs.Pending.{ArePendingAs}

-- what is needed of the laws of a run over sound lists
pub record MomentLaws : Type 0 where
  pub opens : (S : Script) (r : Ran) (story : Story) → OnDisks S r → IsShown S r story → IsSoundAtEntry S r → (first_core S.set story.found).ended ≡ None → RunOpens (start_of S r) story.found
  pub stands : (S : Script) (r : Ran) (story : Story) → OnDisks S r → IsShown S r story → IsSoundAtEntry S r → (first_core S.set story.found).ended ≡ None
      → AllMayKeep (start_of S r) (MayRun (start_of S r)) (first_core S.set story.found) (all_events story)
  pub soundly : (S : Script) (r : Ran) (story : Story) → HasItsDisks S r → IsToldAs S r story → IsSoundAtEntry S r → (first_core S.set story.found).ended ≡ None → RunsSoundly S r story
  pub running : (start : Start) (found : Found) → RunOpens start found → IsRunning start (open_whole start.set found)
  pub goes_on : (start : Start) → RunsOn start

module _ (laws : MomentLaws) (S : Script) (r : Ran) (story : Story) (on : OnDisks S r) (shown : IsShown S r story) (going : (first_core S.set story.found).ended ≡ None) (may : MayStop S r) where
  opens : RunOpens (start_of S r) story.found
  opens = laws.opens S r story on shown may.sound going

  asked : IsAskedOf S r story
  asked = record { on = on; sound = may.sound; read = shown.read; going = going; few = opens.well.few; runs = laws.soundly S r story (its_disks S r on) (told_as S r story shown) may.sound going }

  has_shard : 0 < S.set.shape.shards
  has_shard = let some = on.shape.shards in elim some [
    | inl e ↦ omega (arith, e)
    | inr rest ↦ elim rest [
      | inl e ↦ omega (arith, e)
      | inr more ↦ elim more [
        | inl e ↦ omega (arith, e)
        | inr e ↦ omega (arith, e)
      ]
    ]
  ]

  not_empty : (length r.course == 0) ≡ false
  not_empty =
      some_course (S.set.shape.shards + S.set.shape.shards) 0 r.course
      (ap (λ (items : List CourseItem). begins S.set.shape.shards items 0) shown.went.course
      ∙ opens_begins S r story shown.went.found on.one 0 (items_of (first_core S.set story.found) (all_events story)) has_shard (shown.went.found.kept 0 (good S r story shown.went asked 0 has_shard)))

  counted_is : counted_course S r ≡ r.course
  counted_is =
      ap (λ b. if (ending_of r.ending).wanting && b then filter (still_counts r) (taken_items S.set.shape (entry_logs S r) r.old.moment) else r.course) not_empty
      ∙ none (ending_of r.ending).wanting
    where
      none : (w : Bool) → (if w && false then filter (still_counts r) (taken_items S.set.shape (entry_logs S r) r.old.moment) else r.course) ≡ r.course
      none true = refl
      none false = refl

  -- no disk was set aside, so each has one list
  lists_of : HaveOneList r
  lists_of =
      one_list S r may
      (λ p low. none_aside S r story shown.went on.one shown.read on.disks (good S r story shown.went asked) p (let disks = on.disks in omega (arith, low, disks)))

  module _ (m : ℕ) (during : IsDuring r.old r.new m) (images : List Image) (count : AreGoodImages S.set.shape (stop_at S r m) images) where
    at : AtMoment whole_machine (IsStateAt (state_then S story m)) S.set.shape (counted_course S r) r.journal m r.new.disks
    at = at_moment S r story shown.went asked counted_is m during shown lists_of

    running : IsRunning (start_of S r) (state_then S story m)
    running =
        running_then (start_of S r) (laws.goes_on (start_of S r)) m (open_whole S.set story.found) (all_events story) (laws.running (start_of S r) story.found opens) (laws.stands S r story on shown may.sound going)
        (good_then (start_of S r) (stop_at S r m) r.journal on.one on.left (state_then S story m) at images count)

    pub asked_then : ArePendingAs S r m images
    asked_then = pending_asked (start_of S r) (stop_at S r m) r.journal on.one on.left (state_then S story m) at images count running
