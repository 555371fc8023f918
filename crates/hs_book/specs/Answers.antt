-- Where a journal answers a line.
use Rattle.std.specs.BTreeMap.{is_at}
use Rattle.std.specs.List.{position_from}
use Rattle.std.specs.Map.{lookup}
use Rattle.std.specs.Option.{option_map_or}
use Rattle.std.specs.Ordering.{nat_cmp}
use Rattle.std.specs.Prelude.{◌≡◌, ℕ, ◌==◌, Bool, false, List, Option, Some, None, Result, Ok, Err, is_some, slice_get}
use Rattle.hs_desk.specs.declared.fault.CoreFault.{CoreFault}
use Rattle.hs_desk.specs.declared.token.Token.{Token}
use Rattle.hs_desk.specs.Tokens.{answered}
use Rattle.hs_journal.specs.declared.entry.JournalEntry.{JournalEntry}
use Rattle.hs_journal.specs.Deeds.{line_answered}
use Rattle.hs_model.specs.declared.op.Asked.{Asked}
use Rattle.hs_model.specs.declared.reply.Reply.{Reply}

-- whether an entry answers a line
abbrev pub answers_line : ℕ → JournalEntry → Bool
answers_line line entry = option_map_or (λ n. n == line) (line_answered entry.who) false

-- the place of the first entry that does
abbrev pub answer_place : ℕ → List JournalEntry → Option ℕ
answer_place line journal = position_from (answers_line line) 0 journal

abbrev pub is_line_answered : ℕ → List JournalEntry → Bool
is_line_answered line journal = is_some (answer_place line journal)

-- the reply of the entry that answers a line, and the token that has noted it with its place
pub record IsAnswerOf (line : ℕ) (journal : List JournalEntry) (o : Asked) (old new : Token) (told : Reply) : Type 0 where
  pub place : ℕ
  pub entry : JournalEntry
  pub first : answer_place line journal ≡ Some place
  pub at : slice_get journal place ≡ Some entry
  pub reply : told ≡ entry.reply
  pub noted : new ≡ answered place o told old

-- what a token is told of a line: nothing, where the journal does not answer it; its first answer; or a fault
abbrev pub Hears : ℕ → List JournalEntry → Asked → Token → Token → Result (Option Reply) CoreFault → Type 0
Hears line journal o old new (Ok None) = (answer_place line journal ≡ None) × (new ≡ old)
Hears line journal o old new (Ok (Some told)) = IsAnswerOf line journal o old new told
Hears line journal o old new (Err fault) = new ≡ record old { fault = Some fault }

-- ---- by line

-- the place of a line in an index
abbrev pub place_in : ℕ → List (ℕ × ℕ) → Option ℕ
place_in line places = lookup (is_at (nat_cmp line)) places

-- an index has for each line the place of the first entry that answers it
abbrev pub Indexes : List JournalEntry → List (ℕ × ℕ) → Type 0
Indexes journal places = (line : ℕ) → place_in line places ≡ answer_place line journal
