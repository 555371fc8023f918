-- Which events are due for a line of a script, or for opening.
-- What a disk call came to is the disk's to say; all else follows from the core.
use Rattle.std.specs.List.{list_any}
use Rattle.std.specs.Option.{option_and_then, option_map, option_map_or, option_or}
use Rattle.std.specs.Prelude.{Bool, List, None, Option, Some, [], drop, false, filter_map, find, if◌then◌else◌, is_none, is_some, length, nat_le, nat_lt, not, slice_get, take, true, ℕ, ◌&&◌, ◌++◌, ◌+◌, ◌==◌, ◌||◌, ◌∷◌, ◌≤◌}
use Rattle.hs_core_words.specs.Asking.{no_peer, not_up}
use Rattle.hs_core_words.specs.Looking.{first_job, known_of, oldest_message, open_work, shape_of, status_of}
use Rattle.hs_core_words.specs.State.{Core}
use Rattle.hs_core_words.specs.Step.{step}
use Rattle.hs_core_words.specs.declared.event.Event.{Event}
use Rattle.hs_core_words.specs.declared.event.Event.TheVariants as event
use Rattle.hs_events.specs.declared.due.Due.{Due}
use Rattle.hs_events.specs.declared.due.Due.TheVariants.{Reporting, Handling, Nudging}
use Rattle.hs_events.specs.declared.due.Place.{Place}
use Rattle.hs_desk.specs.Answers.{answers}
use Rattle.hs_desk.specs.declared.done.Done.{Done}
use Rattle.hs_members.specs.Members.{IsPeer, all_peers, is_good_status}
use Rattle.hs_model.specs.Refusals.{first}

-- events of the core, each with its moment
abbrev pub Events : Type 0
Events = List (Event × ℕ)

-- moments never fall, from one on and up to another
abbrev pub MomentsRise : ℕ → Events → ℕ → Type 0
MomentsRise from [] to = from ≤ to
MomentsRise from (e ∷ es) to = (from ≤ e.1) × MomentsRise e.1 es to

-- where passes and nudges begin
abbrev pub first_place : Place
first_place = record { peer = 0; nudger = 0; progress = false }

-- ---- what is due

-- a turn of a peer: its first job, else the oldest message for it, else nothing
abbrev pub turn_of : Core → ℕ → Option Due
turn_of core peer = option_or (option_map (λ job. Reporting peer) (first_job peer core)) (option_map (Handling peer) (oldest_message peer core))

-- passes: each peer in ascending order does turns to its end, until nobody has one
abbrev pub next_turn : Place → Core → Option Due
next_turn place core =
    if is_some core.ended then None
    else slice_get (filter_map (turn_of core) (drop place.peer (all_peers (shape_of core)) ++ take place.peer (all_peers (shape_of core)))) 0

-- with nobody's turn left and something open the next good peer is nudged; a new sequence of nudges begins where the last one made progress
abbrev pub next_good : ℕ → Core → Option ℕ
next_good peer core = find (λ p. is_good_status (status_of p core)) (drop peer (all_peers (shape_of core)))

abbrev pub next_nudger : Place → Core → Option ℕ
next_nudger place core = option_or (next_good place.nudger core) (if place.progress then next_good 0 core else None)

abbrev pub next_nudge : Place → Core → Option Due
next_nudge place core =
    if is_some core.ended || not (open_work core) then None else option_map Nudging (next_nudger place core)

abbrev pub next_due : Place → Core → Option Due
next_due place core = option_or (next_turn place core) (next_nudge place core)

-- ---- that events are what is due

-- a report answers the first job of its peer
abbrev pub is_answer : Core → ℕ → Done → Bool
is_answer core peer done = option_map_or (λ job. answers peer job done) (first_job peer core) false

-- what an event of a line may be due as; whose message it is the message tells
abbrev pub due_by : ℕ → Core → Event → Option Due
due_by line core (event.Line l o) = None
due_by line core (event.Report peer done) = if is_answer core peer done then Some (Reporting peer) else None
due_by line core (event.Turn l peer) = None
due_by line core (event.Deliver l message) = if l == line then Some (Handling 0 message) else None
due_by line core (event.Lose l message) = None
due_by line core (event.Repeat l message) = None
due_by line core (event.Nudge l peer) = if l == line then Some (Nudging peer) else None
due_by line core (event.Fail l peer) = None
due_by line core (event.Start l peer) = None

abbrev pub is_same_due : Due → Due → Bool
is_same_due (Reporting p) (Reporting q) = p == q
is_same_due (Reporting p) (Handling q n) = false
is_same_due (Reporting p) (Nudging q) = false
is_same_due (Handling p m) (Reporting q) = false
is_same_due (Handling p m) (Handling q n) = m == n
is_same_due (Handling p m) (Nudging q) = false
is_same_due (Nudging p) (Reporting q) = false
is_same_due (Nudging p) (Handling q n) = false
is_same_due (Nudging p) (Nudging q) = p == q

-- whether an event of a line is what is due
abbrev pub is_it : ℕ → Core → Due → Event → Bool
is_it line core due e = option_map_or (is_same_due due) (due_by line core e) false

-- whether a peer is known to have sealed more than before
abbrev pub raises_known : Core → Core → Bool
raises_known before after = list_any (λ peer. nat_lt (known_of peer before) (known_of peer after)) (all_peers (shape_of before))

-- where they stand behind what was due
abbrev pub place_after : Due → Bool → Place → Place
place_after (Reporting peer) raised place = record place { peer = peer; progress = true }
place_after (Handling peer message) raised place = record place { peer = peer; progress = place.progress || raised }
place_after (Nudging peer) raised place =
    record { peer = 0; nudger = peer + 1; progress = (nat_le place.nudger peer && (not (place.nudger == 0) && place.progress)) || raised }

-- ---- events that are due one after another

-- the core, and where passes and nudges stand
pub record Walked : Type 0 where
  pub place : Place
  pub core : Core

-- behind an event of a line, where it is what is due
abbrev pub move : (Place → Core → Option Due) → ℕ → Walked → Event × ℕ → Option Walked
move due line at e =
    let after : Core = step e.0 e.1 at.core in
    option_and_then (λ d. if is_it line at.core d e.0 then Some (record { place = place_after d (raises_known at.core after) at.place; core = after }) else None) (due at.place at.core)

-- behind some; they may stop before nothing is due any more
abbrev pub walk : (Place → Core → Option Due) → ℕ → Walked → Events → Option Walked
walk due line at [] = Some at
walk due line at (e ∷ es) = option_and_then (λ next. walk due line next es) (move due line at e)

-- these are due one after another, and then nothing is, or they stop before
abbrev pub is_walk : (Place → Core → Option Due) → Bool → ℕ → Core → Events → Bool
is_walk due whole line core es =
    option_map_or (λ at. not whole || is_none (due at.place at.core)) (walk due line (record { place = first_place; core = core }) es) false

-- the one thing that is due, or nothing yet
abbrev pub is_one : Option Due → Bool → ℕ → Core → Events → Bool
is_one None whole line core [] = true
is_one None whole line core (e ∷ es) = false
is_one (Some due) whole line core [] = not whole
is_one (Some due) whole line core (e ∷ es) = is_it line core due e.0 && length es == 0

-- of `turn P`, where it is not refused, the turn is due behind it
abbrev pub turn_behind : ℕ → Core → Option Due
turn_behind peer core = if is_some core.ended || is_some (first (no_peer peer core ∷ not_up peer core ∷ [])) then None else turn_of core peer

-- ---- whose

-- whose turn or nudge is due
abbrev pub peer_due : Due → ℕ
peer_due (Reporting peer) = peer
peer_due (Handling peer message) = peer
peer_due (Nudging peer) = peer

-- it is a peer of the core
abbrev pub IsDueOf : Core → Due → Type 0
IsDueOf core due = IsPeer core.members.shape (peer_due due)
