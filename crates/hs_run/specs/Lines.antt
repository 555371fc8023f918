-- How lines are read from a source.
use Rattle.std.specs.Prelude.{◌≡◌, ◌≢◌, ℕ, ◌+◌, ◌-◌, ◌<◌, ◌≤◌, Bool, true, false, List, length, Option, Some, None, slice_index}
use Rattle.hs_ports.specs.Source.{before, IsEnded}
use Rattle.hs_script.specs.declared.read.TheConstants.{LONGEST_LINE}
use Rattle.hs_run.specs.declared.stop.Stop.{Stop}
use Rattle.hs_run.specs.declared.stop.Stop.TheVariants as stop

-- no line feed stands from one place to another
abbrev pub HasNoFeed : List ℕ → ℕ → ℕ → Type 0
HasNoFeed bytes from end = (k : ℕ) → from ≤ k → k < end → slice_index bytes k ≢ 10

-- the first line feed from a place on stands here
pub record IsFeedAt (bytes : List ℕ) (from at : ℕ) : Type 0 where
  pub from_on : from ≤ at
  pub within : at < length bytes
  pub feed : slice_index bytes at ≡ 10
  pub first : HasNoFeed bytes from at

-- some bytes came from the source into the buffer, or the input is at its end
pub record Moves (left : Option (List ℕ)) (held : List ℕ) (budget : ℕ) (left' : Option (List ℕ)) (held' : List ℕ) (budget' : ℕ) : Type 0 where
  pub stream : before held' left' ≡ before held left
  pub spent : budget' + length held' ≡ budget + length held
  pub front : (k : ℕ) → k < length held → slice_index held' k ≡ slice_index held k
  pub longer : length held ≤ length held'

-- more came, or nothing is left
abbrev pub Fills : Bool → Option (List ℕ) → List ℕ → ℕ → Option (List ℕ) → List ℕ → ℕ → Type 0
Fills true left held budget left' held' budget' = Moves left held budget left' held' budget' × (length held < length held')
Fills false left held budget left' held' budget' = Moves left held budget left' held' budget' × (held' ≡ held) × IsEnded left'

-- a line feed stands at the place found, or none is held and nothing is left
abbrev pub Gathers : Option ℕ → Option (List ℕ) → List ℕ → ℕ → Option (List ℕ) → List ℕ → ℕ → Type 0
Gathers (Some at) left held budget left' held' budget' = Moves left held budget left' held' budget' × IsFeedAt held' 0 at
Gathers None left held budget left' held' budget' = Moves left held budget left' held' budget' × HasNoFeed held' 0 (length held') × IsEnded left'

-- the source gave one byte more than the budget
pub record Overflows (left : Option (List ℕ)) (held : List ℕ) (budget : ℕ) (left' : Option (List ℕ)) (held' : List ℕ) (budget' : ℕ) : Type 0 where
  pub stream : before held' left' ≡ before held left
  pub spent : length held' ≡ (budget + length held) + 1
  pub front : (k : ℕ) → k < length held → slice_index held' k ≡ slice_index held k

-- why no more came
abbrev pub Stuck : Stop → Option (List ℕ) → List ℕ → ℕ → Option (List ℕ) → List ℕ → ℕ → Type 0
Stuck stop.ReadFault left held budget left' held' budget' = Moves left held budget left' held' budget' × (held' ≡ held)
Stuck stop.NoMemory left held budget left' held' budget' = Moves left held budget left' held' budget' × (held' ≡ held)
Stuck stop.InputFull left held budget left' held' budget' = Overflows left held budget left' held' budget' × (length held' ≡ length held + 1)
Stuck other left held budget left' held' budget' = ⊥

-- why no line was found: the source failed, memory was wanting, the line is too long, or one byte too many came
abbrev pub Halts : Stop → Option (List ℕ) → List ℕ → ℕ → Option (List ℕ) → List ℕ → ℕ → Type 0
Halts stop.ReadFault left held budget left' held' budget' = Moves left held budget left' held' budget' × HasNoFeed held' 0 (length held')
Halts stop.NoMemory left held budget left' held' budget' = Moves left held budget left' held' budget'
Halts stop.BadLine left held budget left' held' budget' = Moves left held budget left' held' budget' × HasNoFeed held' 0 (length held') × (LONGEST_LINE < length held')
Halts stop.InputFull left held budget left' held' budget' = Overflows left held budget left' held' budget' × HasNoFeed held' 0 (length held' - 1)
Halts other left held budget left' held' budget' = ⊥
