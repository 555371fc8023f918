-- The course of a run: how it begins, and what each event gives.
use Rattle.std.specs.Prelude.{List, ℕ, ◌++◌}
use Rattle.hs_events.specs.Beginning.{first_items}
use Rattle.hs_events.specs.Course.{items_of}
use Rattle.hs_events.specs.Found.{first_core}
use Rattle.hs_model.specs.declared.course.CourseItem.{CourseItem}
use Rattle.hs_promise.specs.Run.{Script}
use Rattle.hs_promise.specs.Story.{Story, all_events}

-- the course of a run that began at this moment
abbrev pub course_of : Script → Story → ℕ → List CourseItem
course_of S story entry = first_items S.set.shape story.found entry ++ items_of (first_core S.set story.found) (all_events story)
