-- A core of which each shard is in step with the machine of its copies, and what is so of it along events.
use Rattle.std.specs.Prelude.{◌≡◌, ℕ, ◌*◌, List, [], ◌∷◌, None, length}
use Rattle.hs_copies.specs.Lists.{Item}
use Rattle.hs_copies.specs.Machine.{Copies}
use Rattle.hs_core_copies.specs.InStep.{IsInStep}
use Rattle.hs_core_copies.specs.Opening.{IsTakenLog}
use Rattle.hs_core_words.specs.declared.event.Event.{Event}
use Rattle.hs_core_words.specs.Looking.{shape_of}
use Rattle.hs_core_words.specs.Opening.{Taken}
use Rattle.hs_core_words.specs.Records.{HasRecordRoom}
use Rattle.hs_core_words.specs.State.{Core}
use Rattle.hs_core_words.specs.Step.{step}
use Rattle.hs_entry.specs.declared.entry.Entry.{Entry}
use Rattle.hs_events.specs.Due.{Events}
use Rattle.hs_limits.specs.declared.shape.Shape.{Shape}
use Rattle.hs_limits.specs.Shape.{IsShape}
use Rattle.hs_members.specs.Members.{IsShard}
pub use Rattle.hs_standing.specs.Copies.{AllKnowTheirCopies}

-- by shard the machine of its copies
pub record AreInStep (core : Core) (machines : ℕ → Copies Entry) : Type 0 where
  pub shape : IsShape (shape_of core)
  pub each : (shard : ℕ) → IsShard (shape_of core) shard → IsInStep shard core (machines shard)

-- the logs with which a core opens, by shard
pub record AreTakenLogs (shape : Shape) (taken : Taken) (logs : ℕ → List (Item Entry)) : Type 0 where
  pub fits : IsShape shape
  pub count : length taken.good ≡ shape.shards * shape.copies
  pub each : (shard : ℕ) → IsShard shape shard → IsTakenLog taken shard (logs shard)

-- some events come so, and no shard has more root records, with the Roots that wait, than it takes, as long as the core goes on
abbrev pub AllComeWithRoom : (Event → Core → Type 0) → Core → Events → Type 0
AllComeWithRoom May core [] = Unit {0}
AllComeWithRoom May core (e ∷ es) = (core.ended ≡ None → HasRecordRoom core × May e.0 core) × AllComeWithRoom May (step e.0 e.1 core) es
