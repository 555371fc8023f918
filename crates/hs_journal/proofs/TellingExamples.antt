-- What is below a moment, and which notes tell that a peer is down.
use Rattle.std.specs.Prelude.{◌≡◌, refl, ℕ, false, true, List, [], ◌∷◌}
use Rattle.hs_journal.specs.declared.entry.JournalEntry.{JournalEntry}
use Rattle.hs_journal.specs.declared.entry.Who.TheVariants as who
use Rattle.hs_journal.specs.Moments.{below}
use Rattle.hs_journal.specs.Notes.{is_first_noted, note_count}
use Rattle.hs_model.specs.declared.deed.Deed.TheVariants as deed
use Rattle.hs_model.specs.declared.reply.Reply.TheVariants as reply

abbrev note : ℕ → ℕ → ℕ → JournalEntry
note moment peer line = record { who = who.Store; moment = moment; deed = deed.Nothing; reply = reply.Down peer line }

abbrev answer : ℕ → JournalEntry
answer moment = record { who = who.Line 1; moment = moment; deed = deed.Nothing; reply = reply.Ok }

abbrev journal : List JournalEntry
journal = note 3 1 0 ∷ answer 5 ∷ note 8 1 2 ∷ note 8 0 2 ∷ []

-- what was answered at a moment is not below it
what_is_below : below 8 journal ≡ note 3 1 0 ∷ answer 5 ∷ []
what_is_below = refl

its_notes : note_count 1 journal ≡ 2
its_notes = refl

-- peer 1 was set aside by opening, and peer 0 failed within a line
first_noted : is_first_noted 1 journal ≡ true
first_noted = refl

noted_later : is_first_noted 0 journal ≡ false
noted_later = refl
