-- Which peers a course begins with, and which became good.
use Rattle.std.specs.Prelude.{ℕ, ◌+◌, Bool, false, ◌==◌, ◌&&◌, List, take, nat_lt}
use Rattle.std.specs.List.{list_any}
use Rattle.hs_model.specs.declared.course.CourseItem.{CourseItem}
use Rattle.hs_model.specs.declared.course.CourseItem.TheVariants as item

-- whether an item is a Good of this peer
abbrev pub is_good_of : ℕ → CourseItem → Bool
is_good_of peer (item.Good p m) = p == peer
is_good_of peer (item.Bad p m) = false
is_good_of peer (item.Begun line m) = false
is_good_of peer (item.Took shard number m) = false

-- whether a peer's Good begins the course, by its place: a Good and a Took for each shard come first
abbrev pub begins : ℕ → List CourseItem → ℕ → Bool
begins shards course peer = list_any (is_good_of peer) (take (shards + shards) course)

-- whether an item is a Good of this peer below a moment
abbrev pub is_good_below : ℕ → ℕ → CourseItem → Bool
is_good_below moment peer (item.Good p m) = p == peer && nat_lt m moment
is_good_below moment peer (item.Bad p m) = false
is_good_below moment peer (item.Begun line m) = false
is_good_below moment peer (item.Took shard number m) = false

-- whether a peer was good at some time below a moment
abbrev pub was_good : List CourseItem → ℕ → ℕ → Bool
was_good course moment peer = list_any (is_good_below moment peer) course
