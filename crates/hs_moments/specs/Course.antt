-- The course that a machine's events give.
use Rattle.std.specs.Prelude.{ℕ, ◌*◌, Bool, if◌then◌else◌, List, [], ◌∷◌, ◌++◌, Option, None, Some, nat_lt}
use Rattle.std.proofs.Common.{zero, suc}
use Rattle.hs_limits.specs.declared.shape.Shape.{Shape}
use Rattle.hs_model.specs.declared.course.CourseItem.{CourseItem}
use Rattle.hs_model.specs.declared.course.CourseItem.TheVariants as item
use Rattle.hs_events.specs.Course.{change_item}
use Rattle.hs_moments.specs.Machine.{Machine}

-- a client's line was begun
abbrev pub begun_items : Option ℕ → ℕ → List CourseItem
begun_items None moment = []
begun_items (Some line) moment = item.Begun line moment ∷ []

-- of so many peers in ascending order those that became good, or are good no more
abbrev pub good_items : (ℕ → Bool) → (ℕ → Bool) → ℕ → ℕ → List CourseItem
good_items was is moment zero = []
good_items was is moment (suc n) = good_items was is moment n ++ change_item (was n) (is n) n moment

-- the shards whose front rose
abbrev pub front_items : (ℕ → ℕ) → (ℕ → ℕ) → ℕ → ℕ → List CourseItem
front_items was is moment zero = []
front_items was is moment (suc n) = front_items was is moment n ++ (if nat_lt (was n) (is n) then item.Took n (is n) moment ∷ [] else [])

module _ {State Event : Type 0} (M : Machine State Event) (shape : Shape) where
  abbrev pub items_of : State → State → Event → ℕ → List CourseItem
  items_of c c' e moment = begun_items (M.begins e) moment ++ (good_items (M.good c) (M.good c') moment (shape.shards * shape.copies) ++ front_items (M.front c) (M.front c') moment shape.shards)

  abbrev pub course_of : State → List (Event × ℕ) → List CourseItem
  course_of c [] = []
  course_of c (e ∷ es) = items_of c (M.step c e.0 e.1) e.0 e.1 ++ course_of (M.step c e.0 e.1) es
