-- Events that are due one after another, so far. Kept: what is shown of the disks by events.
use Rattle.std.specs.Prelude.{◌≡◌, ◌≤◌, ℕ, Bool, true, false, ⊤, Option, Some, Result, Ok, is_ok}
use Rattle.hs_cluster.specs.Calls.{Does, done_of, ran_out}
use Rattle.hs_events.specs.declared.due.Due.{Due}
use Rattle.hs_events.specs.declared.due.Place.{Place}
use Rattle.hs_cluster.specs.declared.fault.ClusterFault.{ClusterFault}
use Rattle.hs_events.specs.Due.{Events, MomentsRise, first_place, is_it, is_walk, next_due, next_turn, walk}
use Rattle.hs_cluster.specs.Running.{Running}
use Rattle.hs_core_words.specs.declared.event.Event.{Event}
use Rattle.hs_core_words.specs.State.{Core}

-- what is due of turns and nudges, or of turns alone
abbrev pub due_with : Bool → Place → Core → Option Due
due_with true = next_due
due_with false = next_turn

-- the one thing that was due was done, at a moment from one on and up to another, unless memory ran out
pub record DoesDue (line : ℕ) (due : Due) (before now : ℕ) (old new : Running) (result : Result ⊤ ClusterFault) (Kept : Events → Type 0) : Type 0 where
  pub event : Event × ℕ
  pub due_is : ran_out result ≡ false → is_it line old.core due event.0 ≡ true
  pub after : before ≤ event.1
  pub up_to : event.1 ≤ now
  pub does : Does (done_of result event) old new result
  pub kept : Kept (done_of result event)

-- some were, one after another, and this is where passes and nudges stand
pub record HasWalked (nudges : Bool) (line before now : ℕ) (old new : Running) (place : Place) (Kept : Events → Type 0) : Type 0 where
  pub events : Events
  pub walked : walk (due_with nudges) line (record { place = first_place; core = old.core }) events ≡ Some (record { place = place; core = new.core })
  pub rises : MomentsRise before events now
  pub does : Does events old new (Ok tt)
  pub kept : Kept events

-- they were, one after another, until nothing was due, or they were cut short
pub record RunsWalk (nudges : Bool) (line before now : ℕ) (old new : Running) (result : Result ⊤ ClusterFault) (Kept : Events → Type 0) : Type 0 where
  pub events : Events
  pub due : is_walk (due_with nudges) (is_ok result) line old.core events ≡ true
  pub rises : MomentsRise before events now
  pub does : Does events old new result
  pub kept : Kept events
