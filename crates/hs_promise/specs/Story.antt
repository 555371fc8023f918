-- How a run went within, where a core was opened: what opening found, and the events.
use Rattle.std.specs.Prelude.{List, flat_map, ◌++◌}
use Rattle.hs_core_words.specs.State.{Core}
use Rattle.hs_events.specs.Course.{steps}
use Rattle.hs_events.specs.Due.{Events}
use Rattle.hs_events.specs.Found.{Found, first_core}
use Rattle.hs_promise.specs.Run.{Script}

-- opening: the events of opening; lines: those of each line that was begun
pub record Story : Type 0 where
  pub found : Found
  pub opening : Events
  pub lines : List Events

-- all of them, and the core behind them
abbrev pub all_events : Story → Events
all_events story = story.opening ++ flat_map (λ line. line) story.lines

abbrev pub last_core : Script → Story → Core
last_core S story = steps (first_core S.set story.found) (all_events story)
