-- How the course of a run begins: with what opening found.
use Rattle.std.specs.Prelude.{List, flat_map, map, ℕ, ◌++◌, ◌||◌}
use Rattle.hs_events.specs.Course.{change_item}
use Rattle.hs_events.specs.Found.{Found, starts_good}
use Rattle.hs_events.specs.Taken.{is_taken, taken_items}
use Rattle.hs_limits.specs.declared.shape.Shape.{Shape}
use Rattle.hs_members.specs.Members.{all_peers}
use Rattle.hs_model.specs.declared.course.CourseItem.{CourseItem}
use Rattle.hs_model.specs.declared.course.CourseItem.TheVariants as item

-- the taken logs at the moment of entry, the peers of these that failed before the core was opened, and when it is opened each other good peer
abbrev pub first_items : Shape → Found → ℕ → List CourseItem
first_items shape found entry =
    taken_items shape found.logs entry
    ++ (map (λ peer. item.Bad peer.0 peer.1) found.lost
    ++ flat_map (λ peer. change_item (is_taken shape found.logs peer) (is_taken shape found.logs peer || starts_good found peer) peer found.opened) (all_peers shape))
