-- A run of any number of copies over sound lists: with what it opens, to which cores its events come, and that each of them stands.
use Rattle.std.proofs.Common.{◌≡◌, ◌∙◌, ap, sym, subst, ℕ, ◌++◌, List, [], ◌∷◌, Option, Some, None, refl, arith, length}
use Rattle.std.specs.List.{enumerate_from}
use Rattle.hs_answered.specs.Standing.{store_with}
use Rattle.hs_answered.specs.Telling.{Judging}
use Rattle.hs_core_words.specs.declared.event.Event.{Event}
use Rattle.hs_core_words.specs.declared.event.Event.TheVariants as event
use Rattle.hs_core_words.specs.Opening.{Taken, new_core, open_core}
use Rattle.hs_core_words.specs.Records.{HasRecordRoom}
use Rattle.hs_core_words.specs.State.{Core}
use Rattle.hs_core_words.specs.Step.{step}
use Rattle.hs_desk.specs.declared.fault.CoreFault.{CoreFault}
use Rattle.hs_effects.specs.Logged.{MayBegin, MayBeginAll}
use Rattle.hs_entry.specs.declared.entry.Entry.{Entry}
use Rattle.hs_entry.specs.Entries.{rank_of}
use Rattle.hs_events.specs.Course.{steps}
use Rattle.hs_events.specs.Due.{Events}
use Rattle.hs_events.specs.Found.{Found, first_core, opened_list, opens_with}
use Rattle.hs_events.specs.Sane.{IsFromOne}
use Rattle.hs_fold.specs.Runs.Facts.{Catalogue as Folded}
use Rattle.hs_fold.specs.Shards.Setting.{Numbered}
use Rattle.hs_known_copies.proofs.KnownLemmas.{comes_on, soundly_knows}
use Rattle.hs_known_copies.specs.Known.{AllComeWithRoom}
use Rattle.hs_laws.specs.Valid.{IsValid}
use Rattle.hs_limits.specs.declared.shape.Shape.{Shape}
use Rattle.hs_model.specs.Store.{Store}
use Rattle.hs_moments.proofs.WorkLemmas.{last_is}
use Rattle.hs_quiet.proofs.RunLemmas.{going_before}
use Rattle.hs_settled.proofs.DeletesRunLemmas.{steps_ended}
use Rattle.hs_settled.specs.Opened.{OpensRanked}
use Rattle.hs_standing.proofs.FirstRoomLemmas.{first_room}
use Rattle.hs_standing.proofs.LegalOpenLemmas.{folds_valid}
use Rattle.hs_standing.proofs.LinesStepLemmas.{went}
use Rattle.hs_standing.proofs.TakenLemmas.{FoldsInMemory, may_open}
use Rattle.hs_standing.specs.Copies.{AllComeOn}
use Rattle.hs_standing.specs.Held.{GivesAddresses}
use Rattle.hs_standing.specs.Legal.{IsStanding, MayStand}
use Rattle.hs_standing.specs.Opening.{opened_folds}
use Rattle.hs_standing.specs.Opens.{MayOpen}
use Rattle.hs_standing.specs.Run.{MayRun, RunBegins, RunStands}
use Rattle.hs_standing.specs.Standing.{AllMayKeep, judging_of}
use Rattle.hs_standing.specs.Start.{Start}
use Rattle.hs_told.proofs.OpenedLemmas.{opened_turn}
use Rattle.hs_told.specs.InTurn.{IsInTurn}

-- ---- events that may come

pub come_first : (May : Event → Core → Type 0) (c : Core) (es fs : Events) → AllComeOn May c (es ++ fs) → AllComeOn May c es
come_first May c [] fs may = tt
come_first May c (e ∷ es) fs may = (may.0, come_first May (step e.0 e.1 c) es fs may.1)

may_begin : (by : Judging) (start : Store) (e : Event) (c : Core) → MayStand by start e c → MayBegin by.name e c
may_begin by start (event.Line line o) c may = may.fresh
may_begin by start (event.Report peer d) c may = tt
may_begin by start (event.Turn line peer) c may = tt
may_begin by start (event.Deliver line number) c may = tt
may_begin by start (event.Lose line number) c may = tt
may_begin by start (event.Repeat line number) c may = tt
may_begin by start (event.Nudge line peer) c may = tt
may_begin by start (event.Fail line peer) c may = tt
may_begin by start (event.Start line peer) c may = tt

pub all_begin : (by : Judging) (start : Store) (c : Core) (es : Events) → AllComeOn (MayStand by start) c es → (steps c es).ended ≡ None → MayBeginAll by.name es c
all_begin by start c [] come going = tt
all_begin by start c (e ∷ es) come going = (may_begin by start e.0 c (come.0 (going_before (e ∷ es) c going)).may, all_begin by start (step e.0 e.1 c) es come.1 going)

pub begins_on : (by : Judging) (start : Store) (c : Core) (es : Events) → AllComeOn (MayStand by start) c es → AllComeOn (MayBegin by.name) c es
begins_on by start c [] come = tt
begins_on by start c (e ∷ es) come =
    ((λ on. (let k = come.0 on in record { seated = k.seated; known = k.known; room = k.room; may = may_begin by start e.0 c k.may })), begins_on by start (step e.0 e.1 c) es come.1)

-- they do so with few root records
pub with_room : (start : Start) (core : Core) (es : Events) → (core.ended ≡ None → HasRecordRoom core) → AllMayKeep start (MayRun start) core es → AllComeWithRoom (MayRun start) core es
with_room start core [] few may = tt
with_room start core (e ∷ es) few may = (
  λ going. (few going, (may.0 going).may),
  with_room start (step e.0 e.1 core) es (λ on. (may.0 (went e.0 e.1 core on)).room on) may.1,
)

-- ---- a list that is numbered from 1 on tells no view where it has no number

none_from : (xs : List Entry) → length xs ≡ 0 → xs ≡ []
none_from [] e = refl
none_from (x ∷ xs) e = absurd (omega (arith, e))

blank_view : (rank_of []).view ≡ 0
unfolding rank_of
blank_view = refl

from_one_view : (list : Numbered) → IsFromOne list → (rank_of list).number ≡ 0 → (rank_of list).view ≡ 0
from_one_view list one none =
    let many : length one.entries ≡ 0 = sym (last_is one.entries one.plain) ∙ ap (λ (es : Numbered). (rank_of es).number) (sym one.counted) ∙ none in
    ap (λ (es : Numbered). (rank_of es).view) (one.counted ∙ ap (λ (es : List Entry). enumerate_from 1 es) (none_from one.entries many)) ∙ blank_view

-- ---- a run that begins over sound lists

-- what hs_standing says of a core that opens, and of events
pub record Told : Type 0 where
  pub opens : (by : Judging) (shape : Shape) (taken : Taken) (moment : ℕ) (cs : List Folded) → GivesAddresses by.name → MayOpen by shape taken moment cs
      → (after : List Folded) × IsStanding by (store_with cs []) (open_core shape by.limits taken moment) after
  pub events : (by : Judging) (start : Store) (core : Core) (events : Events) (cs : List Folded) → GivesAddresses by.name → IsValid start → core.refused ≡ [] → core.entries ≡ []
      → AllComeOn (MayStand by start) core events → IsStanding by start core cs → (after : List Folded) × IsStanding by start (steps core events) after

module _ (start : Start) (found : Found) (b : RunBegins start found) where
  pub ranked : OpensRanked start.set found
  ranked = record { shape = b.soundly.shape; blank = λ g low none. from_one_view (opened_list start.set found g) (b.soundly.lists g low) none }

  module _ (memory : FoldsInMemory) where
    pub opens : MayOpen (judging_of start) start.set.shape (opens_with start.set found) found.opened (opened_folds start.set found)
    opens = may_open memory start.set found b.soundly start.commands

    pub valid : IsValid start.entry
    valid = subst (λ (s : Store). IsValid s) (sym b.entry) (folds_valid start.set.name (new_core start.set.shape start.set.limits (opens_with start.set found) found.opened) (opened_folds start.set found) opens.lawful)

    module _ (events : Events) (may : AllMayKeep start (MayRun start) (first_core start.set found) events) where
      pub come : AllComeOn (MayRun start) (first_core start.set found) events
      come =
          comes_on (MayRun start) (first_core start.set found) events (soundly_knows start.set found b.soundly events)
          (with_room start (first_core start.set found) events (λ on. first_room start.set found memory b.soundly.sound) may)

      pub come_there : AllComeOn (MayStand (judging_of start) (store_with (opened_folds start.set found) [])) (first_core start.set found) events
      come_there = subst (λ (s : Store). AllComeOn (MayStand (judging_of start) s) (first_core start.set found) events) b.entry come

      -- behind each front of them it stands
      pub stands : Told → (before after : Events) → events ≡ before ++ after → (cs : List Folded) × RunStands start (steps (first_core start.set found) before) cs
      stands laws before after is = go (first_core start.set found).ended refl
        where
          turn : IsInTurn (λ n. None) (first_core start.set found)
          turn = opened_turn (λ n. None) start.set.shape start.set.limits (opens_with start.set found) found.opened refl

          stands_first : (cs : List Folded) × RunStands start (first_core start.set found) cs
          stands_first =
              let its = laws.opens (judging_of start) start.set.shape (opens_with start.set found) found.opened (opened_folds start.set found) b.soundly.names opens in
              (its.0, subst (λ (s : Store). IsStanding (judging_of start) s (first_core start.set found) its.0) (sym b.entry) its.1)

          go : (o : Option CoreFault) → (first_core start.set found).ended ≡ o → (cs : List Folded) × RunStands start (steps (first_core start.set found) before) cs
          go (Some fault) over = subst (λ (c : Core). (cs : List Folded) × RunStands start c cs) (sym (steps_ended (first_core start.set found) before fault over)) stands_first
          go None going =
              laws.events (judging_of start) start.entry (first_core start.set found) before stands_first.0 b.soundly.names valid (turn.going going) turn.told
              (come_first (MayRun start) (first_core start.set found) before after (subst (λ xs. AllComeOn (MayRun start) (first_core start.set found) xs) is come)) stands_first.1

      -- and its lines are new
      pub begin_all : (before after : Events) → events ≡ before ++ after → (steps (first_core start.set found) before).ended ≡ None → MayBeginAll start.set.name before (first_core start.set found)
      begin_all before after is going =
          all_begin (judging_of start) start.entry (first_core start.set found) before
          (come_first (MayRun start) (first_core start.set found) before after (subst (λ xs. AllComeOn (MayRun start) (first_core start.set found) xs) is come)) going
