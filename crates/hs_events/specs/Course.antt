-- What the events of the core give for a course.
use Rattle.std.specs.Option.{option_map_or}
use Rattle.std.specs.Prelude.{Bool, List, None, Option, Some, [], false, flat_map, if◌then◌else◌, nat_lt, true, ℕ, ◌++◌, ◌∷◌}
use Rattle.hs_core_words.specs.Looking.{front_of, shape_of, shards_of, status_of}
use Rattle.hs_core_words.specs.State.{Core}
use Rattle.hs_core_words.specs.Step.{step}
use Rattle.hs_core_words.specs.declared.event.Event.{Event}
use Rattle.hs_desk.specs.declared.fault.CoreFault.{CoreFault}
use Rattle.hs_desk.specs.declared.fault.CoreFault.TheVariants as fault
use Rattle.hs_members.specs.Members.{all_peers, is_good_status}
use Rattle.hs_model.specs.declared.course.CourseItem.{CourseItem}
use Rattle.hs_model.specs.declared.course.CourseItem.TheVariants as item
use Rattle.hs_core_words.specs.Calls.{begun_line}
use Rattle.hs_events.specs.Due.{Events}

-- the item of a peer that was good, or not, and is good then, or not
abbrev pub change_item : Bool → Bool → ℕ → ℕ → List CourseItem
change_item true true peer moment = []
change_item true false peer moment = item.Bad peer moment ∷ []
change_item false true peer moment = item.Good peer moment ∷ []
change_item false false peer moment = []

-- a shard took effect up to this number, where its front rose
abbrev pub took_items : ℕ → ℕ → ℕ → ℕ → List CourseItem
took_items shard before after moment = if nat_lt before after then item.Took shard after moment ∷ [] else []

-- from a core to the one after it: the client's line that was begun, the peers whose being good changed, and the shards whose front rose
abbrev pub items_between : Option ℕ → Core → Core → ℕ → List CourseItem
items_between begun core after moment =
    option_map_or (λ line. item.Begun line moment ∷ []) begun []
    ++ (flat_map (λ peer. change_item (is_good_status (status_of peer core)) (is_good_status (status_of peer after)) peer moment) (all_peers (shape_of core))
    ++ flat_map (λ shard. took_items shard (front_of shard core) (front_of shard after) moment) (shards_of core))

-- an event that the journal had no room for has not happened
abbrev pub is_refused : Option CoreFault → Bool
is_refused None = false
is_refused (Some fault.OpsFull) = true
is_refused (Some (fault.ShardLost shard)) = false
is_refused (Some fault.NoMemory) = false

-- what an event gives
abbrev pub event_items : Core → Event × ℕ → List CourseItem
event_items core e =
    let after : Core = step e.0 e.1 core in
    if is_refused after.ended then [] else items_between (begun_line e.0) core after e.1

-- some events, one after another
abbrev pub items_of : Core → Events → List CourseItem
items_of core [] = []
items_of core (e ∷ es) = event_items core e ++ items_of (step e.0 e.1 core) es

abbrev pub steps : Core → Events → Core
steps core [] = core
steps core (e ∷ es) = steps (step e.0 e.1 core) es

-- ---- what happened

-- the events before one that the journal had no room for: what came of it is neither told nor in the course
abbrev pub happened : Core → Events → Events
happened core [] = []
happened core (e ∷ es) =
    let after : Core = step e.0 e.1 core in
    if is_refused after.ended then [] else e ∷ happened after es
