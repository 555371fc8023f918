-- What the journal tells of a line.
use Rattle.std.specs.List.{AllByRecursion}
use Rattle.std.specs.Prelude.{List, length, true, ℕ, ◌++◌, ◌∷◌, ◌≡◌, ◌≤◌}
use Rattle.hs_asking.specs.Asked.{IsOfNoLine}
use Rattle.hs_journal.specs.declared.entry.JournalEntry.{JournalEntry}
use Rattle.hs_journal.specs.declared.entry.Who.TheVariants as who
use Rattle.hs_model.specs.declared.reply.Reply.{Reply}
use Rattle.hs_asker.specs.Kinds.{kind_may}
use Rattle.hs_asker.specs.declared.kinds.Kind.{Kind}

-- among some entries one is of a line, and tells this; the others are of no line
pub record HasAnswer (entries : List JournalEntry) (line : ℕ) (told : Reply) : Type 0 where
  pub front : List JournalEntry
  pub entry : JournalEntry
  pub back : List JournalEntry
  pub is : entries ≡ front ++ entry ∷ back
  pub before : AllByRecursion IsOfNoLine front
  pub behind : AllByRecursion IsOfNoLine back
  pub of_line : entry.who ≡ who.Line line
  pub tells : entry.reply ≡ told

-- one is so, and an operation of a kind may be told what it tells
pub record IsAnswered (entries : List JournalEntry) (line : ℕ) (kind : Kind) : Type 0 where
  pub told : Reply
  pub answer : HasAnswer entries line told
  pub may : kind_may kind told ≡ true

-- an entry is of no line behind this one
abbrev pub IsUpTo : ℕ → JournalEntry → Type 0
IsUpTo line entry = (n : ℕ) → entry.who ≡ who.Line n → n ≤ line

-- it stands at this place
pub record IsAnswerAt (entries : List JournalEntry) (line place : ℕ) : Type 0 where
  pub front : List JournalEntry
  pub entry : JournalEntry
  pub back : List JournalEntry
  pub is : entries ≡ front ++ entry ∷ back
  pub there : length front ≡ place
  pub before : AllByRecursion IsOfNoLine front
  pub behind : AllByRecursion IsOfNoLine back
  pub of_line : entry.who ≡ who.Line line
