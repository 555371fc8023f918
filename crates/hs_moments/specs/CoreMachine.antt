-- The core as a machine over events, without lists; and the core at a moment of a run.
use Rattle.std.specs.Prelude.{ℕ, [], false}
use Rattle.hs_events.specs.Course.{happened, steps}
use Rattle.hs_events.specs.Due.{Events}
use Rattle.hs_core_words.specs.Calls.{begun_line}
use Rattle.hs_core_words.specs.declared.event.Event.{Event}
use Rattle.hs_core_words.specs.Looking.{front_of, status_of}
use Rattle.hs_core_words.specs.State.{Core}
use Rattle.hs_core_words.specs.Step.{step}
use Rattle.hs_members.specs.Members.{is_good_status}
use Rattle.hs_moments.specs.Machine.{Machine, until}

abbrev pub core_machine : Machine Core Event
core_machine = record {
  step = λ core e at. step e at core;
  counts = λ core peer. false;
  reach = λ core peer. [];
  floor = λ core peer. 0;
  good = λ core peer. is_good_status (status_of peer core);
  front = λ core shard. front_of shard core;
  journal = λ core. core.journal;
  begins = begun_line;
}

-- the core behind the events of a run below a moment, as far as they happened
abbrev pub core_at : Core → Events → ℕ → Core
core_at core events moment = steps core (until moment (happened core events))
