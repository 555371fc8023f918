-- The core after some events, one after another, beside the machine of a shard's copies.
use Rattle.std.specs.Prelude.{ℕ, ◌≤◌, List, [], ◌∷◌}
use Rattle.hs_copies.specs.Lists.{IsFront}
use Rattle.hs_copies.specs.Machine.{Copies, after_events}
use Rattle.hs_core_words.specs.declared.event.Event.{Event}
use Rattle.hs_core_words.specs.Looking.{front_of}
use Rattle.hs_core_words.specs.State.{Core}
use Rattle.hs_core_words.specs.Step.{step}
use Rattle.hs_entry.specs.declared.entry.Entry.{Entry}
use Rattle.hs_core_copies.specs.InStep.{GoesOn}

-- each event at its moment
abbrev pub core_after : List (Event × ℕ) → Core → Core
core_after [] core = core
core_after (e ∷ es) core = core_after es (step e.0 e.1 core)

-- what took effect stays at the front of what has taken effect, and as much of it took effect as the core counts
pub record KeepsEffects (shard : ℕ) (old new : Core) (copies : Copies Entry) : Type 0 where
  pub goes_on : GoesOn shard new copies
  pub stays : IsFront copies.took (after_events copies goes_on.events).took
  pub counted : front_of shard old ≤ front_of shard new
