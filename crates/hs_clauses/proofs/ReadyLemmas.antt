-- Along a story the core is ready, behind opening and behind its lines.
use Rattle.std.proofs.Common.{◌≡◌, ◌∙◌, ap, sym, subst, ℕ, Bool, true, false, List, [], None, arith}
use Rattle.std.specs.Prelude.{flat_map}
use Rattle.hs_answered.specs.Standing.{store_with}
use Rattle.hs_answered.specs.Telling.{Judging}
use Rattle.hs_standing.specs.Answered.{AreAnswers, IsAskedAlong, IsReady, judging_by}
use Rattle.hs_clauses.proofs.AlongLemmas.{along_front, along_rest, known_front, known_rest, rises_front, rises_rest}
use Rattle.hs_clauses.proofs.FirstLemmas.{opens_first}
use Rattle.hs_clauses.proofs.LineLemmas.{flat_same, joined, opening_due}
use Rattle.hs_clauses.proofs.RoomLemmas.{keeps_room}
use Rattle.hs_clauses.specs.Asked.{lined}
use Rattle.hs_clauses.specs.Shown.{RunsSoundly}
use Rattle.hs_core_words.specs.Records.{HasRecordRoom}
use Rattle.hs_core_words.specs.State.{Core}
use Rattle.hs_events.proofs.RunLemmas.{steps_append}
use Rattle.hs_events.specs.Course.{steps}
use Rattle.hs_events.specs.Due.{Events, MomentsRise, is_walk, next_due}
use Rattle.hs_events.specs.Found.{Found, first_core, opens_with}
use Rattle.hs_fold.specs.Runs.Facts.{Catalogue as Folded}
use Rattle.hs_fold.specs.Shards.Setting.{Setting}
use Rattle.hs_standing.specs.Copies.{AllKnowTheirCopies}
use Rattle.hs_standing.specs.Held.{GivesAddresses}
use Rattle.hs_journal.specs.Events.{client_op}
use Rattle.hs_known_copies.proofs.KnownLemmas.{soundly_knows}
use Rattle.hs_laws.specs.Valid.{IsValid}
use Rattle.hs_standing.specs.Opens.{MayOpen}
use Rattle.hs_limits.specs.declared.limits.Limits.{Limits}
use Rattle.hs_standing.specs.Script.{AreLines, IsNext, Script as Lined, all_events as lines_events}
use Rattle.hs_model.specs.Store.{Store}
use Rattle.hs_promise.specs.Entry.{entry_store}
use Rattle.hs_promise.specs.Machine.{opening_is_whole}
use Rattle.hs_promise.specs.Run.{Ran, Script}
use Rattle.hs_promise.specs.Story.{Story, all_events, last_core}
use Rattle.hs_standing.proofs.FirstRoomLemmas.{first_room}
use Rattle.hs_standing.proofs.TakenLemmas.{FoldsInMemory, may_open}
use Rattle.hs_standing.specs.Opening.{opened_folds}
use Rattle.hs_told.specs.InTurn.{IsInTurn, told_of}

-- the laws below, in one place
pub record LawsHere : Type 0 where
  pub opens : (s : Lined) (set : Setting) (found : Found) (cs : List Folded) → client_op (s.commands 0) ≡ None → GivesAddresses s.name → MayOpen (judging_by s set.limits) set.shape (opens_with set found) found.opened cs
      → IsReady (judging_by s set.limits) (store_with cs []) (first_core set found)
  pub opening : (s : Lined) (limits : Limits) (start : Store) (core : Core) (done : Bool) (es : Events) (to : ℕ) → GivesAddresses s.name → IsValid start → IsReady (judging_by s limits) start core
      → client_op (s.commands 0) ≡ None → core.progress.event_line ≡ 0 → MomentsRise core.moment es to → is_walk next_due done 0 core es ≡ true → AllKnowTheirCopies core es → IsAskedAlong (judging_by s limits) start core es
      → IsReady (judging_by s limits) start (steps core es) × IsNext s.commands (steps core es) 1
  pub lines : (s : Lined) (limits : Limits) (start : Store) (core : Core) (line : ℕ) (lines : List Events) (to : ℕ) → GivesAddresses s.name → IsValid start → IsReady (judging_by s limits) start core
      → IsNext s.commands core line → MomentsRise core.moment (lines_events lines) to → AreLines s line core lines → AllKnowTheirCopies core (lines_events lines) → IsAskedAlong (judging_by s limits) start core (lines_events lines)
      → IsReady (judging_by s limits) start (steps core (lines_events lines))
  pub answers : (s : Lined) (limits : Limits) (start : Store) (core : Core) (line : ℕ) (lines : List Events) (to : ℕ) → GivesAddresses s.name → IsValid start → IsReady (judging_by s limits) start core
      → IsNext s.commands core line → MomentsRise core.moment (lines_events lines) to → AreLines s line core lines → AllKnowTheirCopies core (lines_events lines) → IsAskedAlong (judging_by s limits) start core (lines_events lines)
      → AreAnswers (judging_by s limits) start (told_of (steps core (lines_events lines)))
  pub memory : FoldsInMemory

module _ (laws : LawsHere) (S : Script) (r : Ran) (story : Story) (run : RunsSoundly S r story) where
  abbrev by : Judging
  by = judging_by (lined S r) S.set.limits

  abbrev first : Core
  first = first_core S.set story.found

  abbrev line_events : Events
  line_events = flat_map (λ (line : Events). line) story.lines

  -- the core behind opening
  abbrev mid : Core
  mid = steps (first_core S.set story.found) story.opening

  entry_is : store_with (opened_folds S.set story.found) [] ≡ entry_store S r
  entry_is = sym run.begins.entry

  valid : IsValid (entry_store S r)
  valid = subst (λ (s : Store). IsValid s) entry_is run.begins.soundly.sound.sound.valid

  ready_first : IsReady by (entry_store S r) (first_core S.set story.found)
  ready_first =
      subst (λ (s : Store). IsReady by s (first_core S.set story.found)) entry_is
      (laws.opens (lined S r) S.set story.found (opened_folds S.set story.found) run.begins.nobody run.begins.soundly.names (may_open laws.memory S.set story.found run.begins.soundly S.commands))

  -- ---- what is asked along its events

  few : (first_core S.set story.found).ended ≡ None → HasRecordRoom (first_core S.set story.found)
  few going = first_room S.set story.found laws.memory run.begins.soundly.sound

  known : AllKnowTheirCopies (first_core S.set story.found) (all_events story)
  known = soundly_knows S.set story.found run.begins.soundly (all_events story)

  along : IsAskedAlong (judging_by (lined S r) S.set.limits) (entry_store S r) (first_core S.set story.found) (all_events story)
  along = record { room = keeps_room first (all_events story) few run.rooms; blocks = run.blocks }

  -- ---- as it opens

  moment_is : first.moment ≡ story.found.opened
  moment_is = (opens_first S.set.shape S.set.limits (opens_with S.set story.found) story.found.opened).moment

  no_line : first.progress.event_line ≡ 0
  no_line = (opens_first S.set.shape S.set.limits (opens_with S.set story.found) story.found.opened).event_line

  -- ---- opening

  opening_rises : MomentsRise first.moment story.opening r.new.moment
  opening_rises = subst (λ (m : ℕ). MomentsRise m story.opening r.new.moment) (sym moment_is) (rises_front story.found.opened r.new.moment story.opening line_events run.went.rises)

  opening_walks : is_walk next_due false 0 first story.opening ≡ true
  opening_walks = opening_due (opening_is_whole r story.lines) first story.opening run.went.opening

  ready_mid : IsReady by (entry_store S r) mid × IsNext S.commands mid 1
  ready_mid = laws.opening (lined S r) S.set.limits (entry_store S r) first false story.opening r.new.moment run.begins.soundly.names valid ready_first run.begins.nobody no_line opening_rises opening_walks (known_front first story.opening line_events known)
      (along_front by (entry_store S r) first story.opening line_events along)

  -- ---- lines

  mid_lines : AreLines (lined S r) 1 mid story.lines
  mid_lines = joined S r 1 mid story.lines run.went.lines

  mid_rises : MomentsRise (steps (first_core S.set story.found) story.opening).moment (lines_events story.lines) r.new.moment
  mid_rises =
      subst (λ (es : Events). MomentsRise mid.moment es r.new.moment) (flat_same story.lines)
      (rises_rest first story.found.opened r.new.moment story.opening line_events (let is = moment_is in omega (arith, is)) run.went.rises)

  mid_along : IsAskedAlong by (entry_store S r) mid (lines_events story.lines)
  mid_along = subst (λ (es : Events). IsAskedAlong by (entry_store S r) mid es) (flat_same story.lines) (along_rest by (entry_store S r) first story.opening line_events along)

  mid_known : AllKnowTheirCopies mid (lines_events story.lines)
  mid_known = subst (λ (es : Events). AllKnowTheirCopies mid es) (flat_same story.lines) (known_rest first story.opening line_events known)

  -- ---- behind them

  last_is : steps mid (lines_events story.lines) ≡ last_core S story
  last_is = ap (λ (es : Events). steps mid es) (sym (flat_same story.lines)) ∙ sym (steps_append first story.opening line_events)

  pub last_answers : AreAnswers by (entry_store S r) (told_of (last_core S story))
  last_answers =
      subst (λ (c : Core). AreAnswers by (entry_store S r) (told_of c)) last_is
      (laws.answers (lined S r) S.set.limits (entry_store S r) mid 1 story.lines r.new.moment run.begins.soundly.names valid ready_mid.0 ready_mid.1 mid_rises mid_lines mid_known mid_along)

  pub last_turn : IsInTurn S.commands (last_core S story)
  last_turn =
      subst (λ (c : Core). IsInTurn S.commands c) last_is
      (laws.lines (lined S r) S.set.limits (entry_store S r) mid 1 story.lines r.new.moment run.begins.soundly.names valid ready_mid.0 ready_mid.1 mid_rises mid_lines mid_known mid_along).turn
