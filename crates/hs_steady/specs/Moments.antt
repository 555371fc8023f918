-- What a run shows of lists from the opening of its core on; and a moment of it.
use Rattle.std.specs.Prelude.{◌≡◌, ◌<◌, ◌≤◌, ◌-◌, ◌^◌, ℕ, None}
use Rattle.hs_cluster.specs.Kept.{LeavesLists, Span}
use Rattle.hs_cluster.specs.Opens.{OpensLists}
use Rattle.hs_cluster.specs.Steady.{AreSteady}
use Rattle.hs_events.specs.Course.{happened}
use Rattle.hs_events.specs.Due.{Events}
use Rattle.hs_events.specs.Found.{Found, first_core}
use Rattle.hs_events.specs.Whole.{Whole, open_whole}
use Rattle.hs_fold.specs.Shards.Setting.{Setting}
use Rattle.hs_moments.specs.Machine.{state_at}
use Rattle.hs_moments.specs.WholeMachine.{whole_machine}

-- of a core with the lists that its shards opened with and that go on as they should: these lists at each moment, and what reports told
abbrev pub ShowsOpened : Setting → Found → Events → Span → Type 0
ShowsOpened set found events span = (c : Whole) → OpensLists set found c → AreSteady c events → LeavesLists c events span

-- the store after the events of a moment below this one, where its core goes on then
pub record IsMomentOf (set : Setting) (found : Found) (events : Events) (span : Span) (c : Whole) (moment : ℕ) : Type 0 where
  pub above : span.before < moment
  pub up_to : moment ≤ span.now
  pub early : moment < 2 ^ 64 - 1
  pub state : state_at whole_machine (open_whole set found) (happened (first_core set found) events) moment ≡ c
  pub going : c.core.ended ≡ None
