-- A run whose core has ended with its opening: it has no event, it has told of peers alone, and at each moment before a shard is lost its images are those of the disks at entry.
use Rattle.std.proofs.Common.{◌≡◌, ◌∙◌, inl, inr, ap, sym, subst, ℕ, ◌<◌, ◌||◌, ◌++◌, not, Bool, true, false, List, [], ◌∷◌, Option, Some, None, refl, is_none, is_some, append-nil, true≢false, if◌then◌else◌}
use Rattle.std.specs.List.{AllByRecursion}
use Rattle.std.specs.Option.{option_and_then, option_map_or}
use Rattle.std.specs.Prelude.{IsSome, flat_map, slice_index_or, unwrap_or}
use Rattle.hs_clauses.proofs.ComingLemmas.{ComingLaws}
use Rattle.hs_clauses.proofs.CountedLemmas.{counted_cases, entry_begins, entry_rested}
use Rattle.hs_clauses.proofs.FoundLemmas.{many, opens_bad, opens_took}
use Rattle.hs_clauses.proofs.ListLemmas.{log_counts, log_is, some_there}
use Rattle.hs_clauses.proofs.NoteLemmas.{IsNote, notes_answered, notes_legal, opens_noted}
use Rattle.hs_clauses.proofs.RestLemmas.{IsRested, rest_logs, rest_reopens}
use Rattle.hs_clauses.proofs.TakenLemmas.{has_log, list_is}
use Rattle.hs_clauses.specs.Shown.{IsShown, KeepsList, OnDisks}
use Rattle.hs_answered.specs.Telling.{Judging}
use Rattle.hs_core_words.specs.State.{Core}
use Rattle.hs_core_words.specs.Step.{step}
use Rattle.hs_desk.specs.declared.fault.CoreFault.{CoreFault}
use Rattle.hs_entry.specs.Entries.{rank_of}
use Rattle.hs_events.specs.Beginning.{first_items}
use Rattle.hs_events.specs.Course.{items_of, steps}
use Rattle.hs_events.specs.declared.due.Due.{Due}
use Rattle.hs_events.specs.Due.{Events, first_place, is_it, is_walk, next_turn, place_after, raises_known, walk}
use Rattle.hs_events.specs.Found.{first_core, opens_with}
use Rattle.hs_fold.specs.Good.{IsBegun, good_from, taken_from}
use Rattle.hs_fold.specs.Shards.Setting.{Numbered}
use Rattle.hs_standing.proofs.AllLemmas.{all_append}
use Rattle.hs_journal.specs.declared.entry.JournalEntry.{JournalEntry}
use Rattle.hs_journal.specs.Events.{client_op}
use Rattle.hs_journal.specs.Order.{IsOrdered}
use Rattle.hs_model.specs.declared.course.CourseItem.{CourseItem}
use Rattle.hs_model.specs.Store.{Store}
use Rattle.hs_ports.specs.Objects.{IsDuring}
use Rattle.hs_fold.specs.Images.{image_at}
use Rattle.hs_promise.specs.Answers.{Answers}
use Rattle.hs_promise.specs.Causes.{FullCause}
use Rattle.hs_promise.specs.declared.status.Status.{Status}
use Rattle.hs_promise.specs.Ending.{ending_of}
use Rattle.hs_promise.specs.Entry.{MayStop, counted_course, entry_store}
use Rattle.hs_promise.specs.Lines.{AreLines}
use Rattle.hs_promise.specs.Machine.{Went, opening_is_whole}
use Rattle.hs_promise.specs.Headers.{KeepsHeaders}
use Rattle.hs_promise.specs.Run.{Ran, Script}
use Rattle.hs_promise.specs.Stops.{Stops}
use Rattle.hs_promise.specs.Story.{Story, all_events, last_core}
use Rattle.hs_told.specs.InTurn.{IsInTurn}

-- ---- behind a core that has ended there is no event

opening_none : (whole : Bool) (core : Core) (es : Events) (fault : CoreFault) → core.ended ≡ Some fault → is_walk next_turn whole 0 core es ≡ true → es ≡ []
opening_none whole core [] fault ended h = refl
opening_none whole core (e ∷ es) fault ended h =
    let over : is_some core.ended ≡ true = ap is_some ended in
    let none : next_turn first_place core ≡ None = rw over refl in
    let stuck : walk next_turn 0 (record { place = first_place; core = core }) (e ∷ es) ≡ None =
    ap (λ (o : Option Due). option_and_then (λ next. walk next_turn 0 next es)
    (option_and_then (λ d. if is_it 0 core d e.0 then Some (record { place = place_after d (raises_known core (step e.0 e.1 core)) first_place; core = step e.0 e.1 core }) else None) o)) none in
    absurd (true≢false (sym h ∙ ap (λ o. option_map_or (λ at. not whole || is_none (next_turn at.place at.core)) o false) stuck))

none_some : (fault : CoreFault) → None ≡ Some fault → ⊥
none_some fault e = cc e

lines_none : (S : Script) (r : Ran) (line : ℕ) (core : Core) (lines : List Events) (fault : CoreFault) → core.ended ≡ Some fault → AreLines S r line core lines → lines ≡ []
lines_none S r line core [] fault ended h = refl
lines_none S r line core (es ∷ []) fault ended h = absurd (none_some fault (sym h.going ∙ ended))
lines_none S r line core (es ∷ next ∷ rest) fault ended h = absurd (none_some fault (sym h.0.going ∙ ended))

module _ (S : Script) (r : Ran) (story : Story) (went : Went S r story) (fault : CoreFault) (ended : (first_core S.set story.found).ended ≡ Some fault) where
  abbrev by : Judging
  by = record { commands = S.commands; name = S.set.name; limits = S.set.limits }

  opening_is : story.opening ≡ []
  opening_is = opening_none (opening_is_whole r story.lines) (first_core S.set story.found) story.opening fault ended went.opening

  pub lines_are : story.lines ≡ []
  lines_are = lines_none S r 1 (steps (first_core S.set story.found) story.opening) story.lines fault (ap (λ (es : Events). (steps (first_core S.set story.found) es).ended) opening_is ∙ ended) went.lines

  no_event : all_events story ≡ []
  no_event = λ i. opening_is i ++ flat_map (λ (line : Events). line) (lines_are i)

  pub last_is : last_core S story ≡ first_core S.set story.found
  last_is = ap (λ (es : Events). steps (first_core S.set story.found) es) no_event

  pub course_is : r.course ≡ first_items S.set.shape story.found r.old.moment
  course_is =
      went.course ∙ ap (λ (es : Events). first_items S.set.shape story.found r.old.moment ++ items_of (first_core S.set story.found) es) no_event
      ∙ append-nil (first_items S.set.shape story.found r.old.moment)

  -- ---- what was told

  pub journal_is : r.journal ≡ (first_core S.set story.found).journal
  journal_is = went.journal ∙ ap (λ (c : Core). c.journal) last_is

  pub journal_notes : AllByRecursion IsNote r.journal
  journal_notes = subst (λ (es : List JournalEntry). AllByRecursion IsNote es) (sym journal_is) (opens_noted S.set.shape S.set.limits (opens_with S.set story.found) story.found.opened).journal

  module _ (nobody : client_op (S.commands 0) ≡ None) (laws : ComingLaws) where
    turn : IsInTurn S.commands (first_core S.set story.found)
    turn = laws.opens S.commands S.set.shape S.set.limits (opens_with S.set story.found) story.found.opened nobody

    pub ended_answers : (entry : Store) → Answers S entry r.journal
    ended_answers entry = record {
      legal = notes_legal by entry r.journal journal_notes;
      replied = notes_answered by entry r.journal journal_notes;
      ordered = subst (λ (es : List JournalEntry). IsOrdered S.commands es) (sym journal_is) turn.journal;
    }

    pub ended_full : (entry : Store) → FullCause S entry r
    ended_full entry full =
        let refused_is : r.refused ≡ (first_core S.set story.found).refused =
        went.refused ∙ ap (λ (ending : Status). if (ending_of ending).full then (last_core S story).refused else []) full ∙ ap (λ (c : Core). c.refused) last_is in
        let told_is : r.journal ++ r.refused ≡ (first_core S.set story.found).journal ++ (first_core S.set story.found).refused = λ i. journal_is i ++ refused_is i in
        let notes : AllByRecursion IsNote (r.journal ++ r.refused) =
        all_append IsNote r.journal r.refused journal_notes
        (subst (λ (es : List JournalEntry). AllByRecursion IsNote es) (sym refused_is) (opens_noted S.set.shape S.set.limits (opens_with S.set story.found) story.found.opened).refused) in
        record {
          legal = notes_legal by entry (r.journal ++ r.refused) notes;
          replied = notes_answered by entry (r.journal ++ r.refused) notes;
          ordered = subst (λ (es : List JournalEntry). IsOrdered S.commands es) (sym told_is) (laws.full S.commands (first_core S.set story.found) turn);
        }

  -- ---- a stop

  module _ (on : OnDisks S r) (shown : IsShown S r story) (may : MayStop S r) where
    kept : (p : ℕ) → p < S.set.shape.shards → KeepsList r p
    kept p low = shown.ended (subst (λ (o : Option CoreFault). IsSome o) (sym ended) refl) may.none.called p low

    -- who is good by the course of the run has its log of entry
    own_rested : (m p : ℕ) → IsDuring r.old r.new m → p < S.set.shape.shards → counted_course S r ≡ r.course → good_from false (counted_course S r) m p ≡ true → IsRested S r m p
    own_rested m p during low counted good = go (has_log story.found.logs p) refl
      where
        bad : has_log story.found.logs p ≡ false → good_from false (counted_course S r) m p ≡ false
        bad lacks = ap (λ (items : List CourseItem). good_from false items m p) (counted ∙ course_is) ∙ opens_bad S r story went.found on.one m p low lacks

        rests : has_log story.found.logs p ≡ true → (list : Numbered) → slice_index_or story.found.logs p None ≡ Some list → IsRested S r m p
        rests is list at = record {
          list = list;
          read = log_is S r story went on.one shown.read p low list at;
          counts = log_counts S r story went on.one p low is;
          took =
              ap (λ (items : List CourseItem). taken_from 0 items m p) (counted ∙ course_is)
              ∙ opens_took S r story went.found on.one m p during.above low is
              ∙ ap (λ (l : Numbered). (rank_of l).number) (list_is S.set.shape story.found.logs on.one (many S r story went.found on.one) p low ∙ ap (λ (o : Option Numbered). unwrap_or o []) at);
          kept = kept p low;
        }

        go : (b : Bool) → has_log story.found.logs p ≡ b → IsRested S r m p
        go true is = let there = some_there (slice_index_or story.found.logs p None) is in rests is there.0 there.1
        go false lacks = absurd (true≢false (sym good ∙ bad lacks))

    rested : (m : ℕ) → IsDuring r.old r.new m → (p : ℕ) → p < S.set.shape.shards → good_from false (counted_course S r) m p ≡ true → IsRested S r m p
    rested m during p low good = elim (counted_cases S r) [
      | inl memory ↦ entry_rested S r on m p during low memory.0 (kept p low) good
      | inr own ↦ own_rested m p during low own good
    ]

    begun : (m line : ℕ) → IsBegun (counted_course S r) line m → IsBegun r.course line m
    begun m line h = elim (counted_cases S r) [
      | inl memory ↦ absurd (entry_begins S r on line m (subst (λ (course : List CourseItem). IsBegun course line m) memory.0 h))
      | inr own ↦ subst (λ (course : List CourseItem). IsBegun course line m) own h
    ]

    pub ended_stops : KeepsHeaders S r → Stops S (entry_store S r) r
    ended_stops keeps = record {
      logs = λ m peer during images low good. rest_logs S r on may journal_notes m during (rested m during) images peer low good;
      headed = λ m peer during own images good. keeps.each m peer during own (image_at images peer) good.left;
      reopens = λ m during images good. rest_reopens S r on may journal_notes m during (rested m during) (begun m) images good;
    }
