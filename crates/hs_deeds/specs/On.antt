-- What a change of a core tells, as deeds.
use Rattle.std.specs.Prelude.{◌≡◌, ◌++◌, ℕ, false, List, Some, map}
use Rattle.hs_answered.specs.Standing.{store_with}
use Rattle.hs_awaiting.specs.declared.waiting.Waiting.{Waiting}
use Rattle.hs_core_words.specs.Looking.{operation_of}
use Rattle.hs_core_words.specs.State.{Core}
use Rattle.hs_deeds.specs.Told.{store_after}
use Rattle.hs_fold.specs.Runs.Facts.{Catalogue as Folded}
use Rattle.hs_journal.specs.declared.entry.JournalEntry.{JournalEntry}
use Rattle.hs_journal.specs.Deeds.{as_deed}
use Rattle.hs_limits.specs.declared.limits.Limits.{Limits}
use Rattle.hs_model.specs.Deeds.{AreDeeds, DeedEntry, is_answered}
use Rattle.hs_model.specs.Hollow.{hollow}

-- it tells some entries more, which are deeds from the store of some folds, without data, to that of others; Known: what is known of the entries before
pub record DeedsOn (Known : List DeedEntry → Type 0) (limits : Limits) (cs behind : List Folded) (a b : Core) : Type 0 where
  pub more : List JournalEntry
  pub journal : b.journal ≡ a.journal
  pub refused : b.refused ≡ a.refused
  pub told : b.entries ≡ a.entries ++ more
  pub deeds : (before : List DeedEntry) → Known before → AreDeeds limits (hollow (store_with cs a.sessions)) before (map as_deed more)
  pub left : store_after (hollow (store_with cs a.sessions)) (map as_deed more) ≡ hollow (store_with behind b.sessions)

-- whatever the entries before are
abbrev pub Whatever : List DeedEntry → Type 0
Whatever before = Unit {0}

-- no operation that waits is answered by them
abbrev pub AreUnanswered : Core → List DeedEntry → Type 0
AreUnanswered core entries = (line : ℕ) (w : Waiting) → operation_of line core ≡ Some w → is_answered entries line ≡ false
