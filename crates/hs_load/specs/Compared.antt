-- Answers that were kept, beside the journal.
use Rattle.std.specs.Option.{option_map}
use Rattle.std.specs.Prelude.{◌≡◌, ◌≢◌, ℕ, ◌+◌, ◌&&◌, Bool, List, [], ◌∷◌, ◌++◌, Option, Some, None, if◌then◌else◌, is_some, slice_get, take}
use Rattle.hs_journal.specs.Deeds.{line_answered}
use Rattle.hs_journal.specs.declared.entry.JournalEntry.{JournalEntry}
use Rattle.hs_model.specs.declared.deed.Deed.{Deed}
use Rattle.hs_workers.specs.Asks.{KeptAnswer}

-- whether an entry answers a line, and its deed is one's own
abbrev pub is_own : (Deed → Bool) → JournalEntry → Bool
is_own own entry = is_some (line_answered entry.who) && own entry.deed

-- an entry at a place of the journal, as one who asked keeps it
abbrev pub answer_of : ℕ → JournalEntry → KeptAnswer
answer_of place entry = (place, entry.deed, entry.reply)

-- one's own answers among some entries, of which the first is at a place
abbrev pub own_from : (Deed → Bool) → ℕ → List JournalEntry → List KeptAnswer
own_from own place [] = []
own_from own place (entry ∷ entries) = (if is_own own entry then answer_of place entry ∷ [] else []) ++ own_from own (place + 1) entries

-- one's own answers in a journal
abbrev pub own_answers : (Deed → Bool) → List JournalEntry → List KeptAnswer
own_answers own journal = own_from own 0 journal

-- two lists have the same before a place, and not the same there
pub record PartAt {T : Type 0} (at : ℕ) (one other : List T) : Type 0 where
  pub before : take at one ≡ take at other
  pub there : slice_get one at ≢ slice_get other at

-- the answer of the entry at a place of the journal, if there is one
abbrev pub answer_in : List JournalEntry → Option ℕ → Option KeptAnswer
answer_in journal None = None
answer_in journal (Some place) = option_map (λ entry. answer_of place entry) (slice_get journal place)
