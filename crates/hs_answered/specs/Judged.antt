-- An operation that is answered as the plain store's judge says.
use Rattle.std.specs.Prelude.{◌≡◌, ℕ, List, [], ◌∷◌, ◌++◌}
use Rattle.hs_answered.specs.Standing.{IsFolded, store_with}
use Rattle.hs_core_words.specs.State.{Core}
use Rattle.hs_fold.specs.Runs.Facts.{Catalogue as Folded}
use Rattle.hs_journal.specs.declared.entry.JournalEntry.{JournalEntry}
use Rattle.hs_journal.specs.declared.entry.Who.TheVariants as who
use Rattle.hs_model.specs.declared.op.Op.{Op}
use Rattle.hs_model.specs.declared.deed.Deed.TheVariants as deed
use Rattle.hs_model.specs.declared.reply.Reply.{Reply}
use Rattle.hs_model.specs.declared.reply.Reply.TheVariants as reply
use Rattle.hs_model.specs.Judge.{Judged, asked_of, judge}

-- what the judge says of an operation at the store of a core
abbrev pub judged_at : List Folded → Core → Op → Judged
judged_at cs core o = judge core.limits (store_with cs core.sessions) o

-- the entry that tells of it under its line
abbrev pub entry_of : ℕ → ℕ → Judged → JournalEntry
entry_of line moment judged = record { who = who.Line line; moment = moment; deed = judged.deed; reply = judged.reply }

-- it was answered so: its entry comes behind those of the event so far, the store of the core is the one that the judge leaves, and no catalogue has changed
pub record IsTold (cs : List Folded) (before after : Core) (line : ℕ) (judged : Judged) : Type 0 where
  pub told : after.entries ≡ before.entries ++ entry_of line before.moment judged ∷ []
  pub left : store_with cs after.sessions ≡ judged.store
  pub folded : IsFolded after cs

-- it was answered as the judge says
abbrev pub IsJudged : List Folded → Core → Core → ℕ → Op → Type 0
IsJudged cs before after line o = IsTold cs before after line (judged_at cs before o)

-- what the judge says, but for the data of a block that is read
abbrev pub with_data : List ℕ → Reply → Reply
with_data content (reply.Bytes bytes handles) = reply.Bytes content handles
with_data content other = other

abbrev pub telling : List ℕ → Judged → Judged
telling content judged = record judged { reply = with_data content judged.reply }

-- it was refused as busy with another line: an entry tells so, and neither a session nor a catalogue has changed
pub record IsBusy (before after : Core) (line other : ℕ) (o : Op) : Type 0 where
  pub told : after.entries ≡ before.entries
      ++ record { who = who.Line line; moment = before.moment; deed = deed.Refused (asked_of o); reply = reply.Busy other } ∷ []
  pub sessions : after.sessions ≡ before.sessions
  pub catalogues : after.catalogues ≡ before.catalogues
