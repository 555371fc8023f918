-- The course of a run: which peers were good when, which lines were begun, and how far each shard's list took effect.
use Rattle.std.specs.Prelude.{ℕ, Bool, true, false, ◌==◌, ◌&&◌, if◌then◌else◌, List, [], ◌∷◌, ◌<◌, Contains, nat_lt}
use Rattle.hs_model.specs.declared.course.CourseItem.{CourseItem}
use Rattle.hs_model.specs.declared.course.CourseItem.TheVariants as item

-- whether a peer is good behind one item more
abbrev pub good_after : Bool → ℕ → ℕ → CourseItem → Bool
good_after good moment peer (item.Good p m) = if p == peer && nat_lt m moment then true else good
good_after good moment peer (item.Bad p m) = if p == peer && nat_lt m moment then false else good
good_after good moment peer other = good

-- whether a peer is good at a moment, where it was so before the items: the last of a moment below that names it is a Good
abbrev pub good_from : Bool → List CourseItem → ℕ → ℕ → Bool
good_from good [] moment peer = good
good_from good (i ∷ items) moment peer = good_from (good_after good moment peer i) items moment peer

abbrev pub is_good : List CourseItem → ℕ → ℕ → Bool
is_good course moment peer = good_from false course moment peer

-- the number behind one item more
abbrev pub taken_after : ℕ → ℕ → ℕ → CourseItem → ℕ
taken_after taken moment shard (item.Took g number m) = if g == shard && nat_lt m moment then number else taken
taken_after taken moment shard other = taken

-- the number of the last entry of a shard that took effect below a moment
abbrev pub taken_from : ℕ → List CourseItem → ℕ → ℕ → ℕ
taken_from taken [] moment shard = taken
taken_from taken (i ∷ items) moment shard = taken_from (taken_after taken moment shard i) items moment shard

abbrev pub taken_below : List CourseItem → ℕ → ℕ → ℕ
taken_below course moment shard = taken_from 0 course moment shard

-- a line was begun below a moment
pub record IsBegun (course : List CourseItem) (line moment : ℕ) : Type 0 where
  pub at : ℕ
  pub below : at < moment
  pub begun : Contains course (item.Begun line at)
