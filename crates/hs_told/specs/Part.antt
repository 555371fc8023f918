-- What of a core its answers are made of.
use Rattle.std.specs.Prelude.{ℕ, List, Option}
use Rattle.std.specs.Option.{option_map}
use Rattle.std.specs.BTreeMap.{is_at}
use Rattle.std.specs.Map.{lookup}
use Rattle.std.specs.Ordering.{nat_cmp}
use Rattle.hs_awaiting.specs.declared.waiting.Waiting.{Waiting}
use Rattle.hs_core_words.specs.State.{Core}
use Rattle.hs_journal.specs.declared.entry.JournalEntry.{JournalEntry}
use Rattle.hs_model.specs.declared.op.Op.{Op}
use Rattle.hs_tokens.specs.Seats.{Seats}

pub record Part : Type 0 where
  pub sessions : Seats
  pub operations : List (ℕ × Waiting)
  pub journal : List JournalEntry
  pub entries : List JournalEntry
  pub refused : List JournalEntry
  pub moment : ℕ
  pub event_line : ℕ

abbrev pub part_of : Core → Part
part_of core = record {
  sessions = core.sessions;
  operations = core.operations;
  journal = core.journal;
  entries = core.entries;
  refused = core.refused;
  moment = core.moment;
  event_line = core.progress.event_line;
}

-- the operations without an answer, by line
abbrev pub asking : List (ℕ × Waiting) → ℕ → Option Op
asking operations line = option_map (λ w. w.operation.op) (lookup (is_at (nat_cmp line)) operations)
