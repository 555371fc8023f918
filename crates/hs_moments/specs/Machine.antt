-- One machine over events, as what stands above it sees it. Its state has the whole lists of its peers; the value of the core's type is this state without them.
use Rattle.std.specs.Prelude.{ℕ, ◌≤◌, List, [], ◌∷◌, Bool, Option, if◌then◌else◌, nat_lt}
use Rattle.hs_entry.specs.declared.entry.Entry.{Entry}
use Rattle.hs_journal.specs.declared.entry.JournalEntry.{JournalEntry}

pub record Machine (State Event : Type 0) : Type 0 where
  -- one event at a moment
  pub step : State → Event → ℕ → State
  -- whether a peer's disk counts: it was not set aside at opening, or its peer was good since
  pub counts : State → ℕ → Bool
  -- the list of a peer, with what its last copying step may have added; and how long it is at least on the disk: of a good peer its sealed number, of another 0
  pub reach : State → ℕ → List (ℕ × Entry)
  pub floor : State → ℕ → ℕ
  pub good : State → ℕ → Bool
  -- the number of the last entry of a shard that took effect
  pub front : State → ℕ → ℕ
  pub journal : State → List JournalEntry
  -- the client's line that an event begins
  pub begins : Event → Option ℕ

-- the events of a moment below m: they come first
abbrev pub until : {Event : Type 0} → ℕ → List (Event × ℕ) → List (Event × ℕ)
until m [] = []
until m (e ∷ es) = if nat_lt e.1 m then e ∷ until m es else []

module _ {State Event : Type 0} (M : Machine State Event) where
  -- the state behind some events, each with its moment
  abbrev pub runs : State → List (Event × ℕ) → State
  runs c [] = c
  runs c (e ∷ es) = runs (M.step c e.0 e.1) es

  -- the core after them
  abbrev pub state_at : State → List (Event × ℕ) → ℕ → State
  state_at c es m = runs c (until m es)

  -- moments never fall, from one on up to another
  abbrev pub Rises : ℕ → List (Event × ℕ) → ℕ → Type 0
  Rises from [] to = from ≤ to
  Rises from (e ∷ es) to = (from ≤ e.1) × Rises e.1 es to
