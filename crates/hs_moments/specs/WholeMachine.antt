-- The core beside the whole lists as a machine over events.
use Rattle.std.specs.Prelude.{◌≡◌, ℕ, ◌++◌}
use Rattle.hs_core_words.specs.Calls.{begun_line}
use Rattle.hs_core_words.specs.declared.event.Event.{Event}
use Rattle.hs_core_words.specs.Looking.{front_of, status_of}
use Rattle.hs_entry.specs.Entries.{rank_of}
use Rattle.hs_events.specs.Whole.{Whole, counts, floor, reach, step_whole}
use Rattle.hs_fold.specs.Shards.Setting.{Numbered}
use Rattle.hs_members.specs.Members.{is_good_status}
use Rattle.hs_moments.specs.Machine.{Machine}

abbrev pub whole_machine : Machine Whole Event
whole_machine = record {
  step = λ c e at. step_whole e at c;
  counts = counts;
  reach = reach;
  floor = floor;
  good = λ c peer. is_good_status (status_of peer c.core);
  front = λ c shard. front_of shard c.core;
  journal = λ c. c.core.journal;
  begins = begun_line;
}

-- a list begins another one, whatever the peer
abbrev pub IsFrontOf : ℕ → Numbered → Numbered → Type 0
IsFrontOf peer list whole = (rest : Numbered) × (whole ≡ list ++ rest)

-- the number of the last entry of a list
abbrev pub last_of : Numbered → ℕ
last_of list = (rank_of list).number
