-- Each event leaves a core that stands, for any number of copies.
use Rattle.std.proofs.Common.{◌≡◌, ◌∙◌, ap, subst, ℕ, ◌++◌, List, [], None, append-nil}
use Rattle.hs_standing.proofs.AlongWalkLemmas.{copies_step, copies_steps}
use Rattle.hs_standing.proofs.SaneKnownLemmas.{sane_knows, sane_seated}
use Rattle.hs_standing.specs.Copies.{AllComeOn, IsSeated, KnowsItsCopies}
use Rattle.hs_standing.specs.Walks.{HasRecordRoom}
use Rattle.hs_answered.specs.Standing.{store_with}
use Rattle.hs_answered.specs.Telling.{Judging, Tells}
use Rattle.hs_core_words.specs.declared.event.Event.{Event}
use Rattle.hs_core_words.specs.State.{Core}
use Rattle.hs_core_words.specs.Step.{step}
use Rattle.hs_effects.proofs.SweepLemmas.{ByViews}
use Rattle.hs_events.specs.Course.{steps}
use Rattle.hs_events.specs.Due.{Events}
use Rattle.hs_events.specs.Sane.{IsSane}
use Rattle.hs_events.specs.Whole.{Whole}
use Rattle.hs_fold.specs.Runs.Facts.{Catalogue as Folded}
use Rattle.hs_standing.specs.Held.{GivesAddresses}
use Rattle.hs_journal.specs.declared.entry.JournalEntry.{JournalEntry}
use Rattle.hs_laws.specs.Valid.{IsValid}
use Rattle.hs_standing.proofs.Laws.{Entries, Steps}
use Rattle.hs_standing.proofs.LegalOpenLemmas.{standing_opens}
use Rattle.hs_standing.proofs.StandingLemmas.{walks_standing}
use Rattle.hs_standing.specs.Legal.{IsStanding, MayStand}
use Rattle.hs_model.specs.Store.{Store}
use Rattle.hs_told.specs.InTurn.{told_of}

pub copies_stand : ByViews → Steps → Entries → (by : Judging) → GivesAddresses by.name → (start : Store) → IsValid start → (core : Core) (event : Event) (moment : ℕ) → core.ended ≡ None → IsSeated core → KnowsItsCopies core → HasRecordRoom core
    → core.refused ≡ [] → MayStand by start event core → (cs : List Folded) × IsStanding by start core cs → (cs : List Folded) × IsStanding by start (step event moment core) cs
copies_stand views steps laws by names start valid core event moment going seated known room clean may stands =
    copies_step (walks_standing views steps laws by names start valid) core (λ shard c same low more s. (s.0, standing_opens by shard c start s.0 s.1 low)) event moment going seated known room clean may stands

-- so do some, one after another
pub all_copies_stand : ByViews → Steps → Entries → (by : Judging) → GivesAddresses by.name → (start : Store) → IsValid start → (events : Events) (core : Core) → core.refused ≡ [] → core.entries ≡ [] → AllComeOn (MayStand by start) core events
    → (cs : List Folded) × IsStanding by start core cs → (cs : List Folded) × IsStanding by start (steps core events) cs
all_copies_stand views laws entries by names start valid events core clean told may stands =
    copies_steps (walks_standing views laws entries by names start valid) (λ shape shard c same low more s. (s.0, standing_opens by shard c start s.0 s.1 low)) events core clean told may stands

-- with one copy a shard
pub event_stands : ByViews → Steps → Entries → (by : Judging) → GivesAddresses by.name → (start : Store) → IsValid start → (whole : Whole) (event : Event) (moment : ℕ) → IsSane whole → HasRecordRoom whole.core → whole.core.refused ≡ []
    → MayStand by start event whole.core → (cs : List Folded) × IsStanding by start whole.core cs → (cs : List Folded) × IsStanding by start (step event moment whole.core) cs
event_stands views steps laws by names start valid whole event moment sane room clean may stands =
    copies_stand views steps laws by names start valid whole.core event moment sane.going (sane_seated whole sane) (sane_knows whole sane) room clean may stands

-- a journal that is told whole
pub told_whole : (by : Judging) (start : Store) (core : Core) (cs : List Folded) → IsStanding by start core cs → core.entries ≡ [] → Tells by start (told_of core) (store_with cs core.sessions)
told_whole by start core cs its none =
    subst (λ (entries : List JournalEntry). Tells by start entries (store_with cs core.sessions)) (ap (λ (entries : List JournalEntry). told_of core ++ entries) none ∙ append-nil (told_of core)) its.tells
