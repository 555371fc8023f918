-- Lines that were gone past, with nothing read and nothing put.
use Rattle.std.proofs.Common.{◌≡◌, ◌∙◌, ap, sym, subst, ℕ, ◌+◌, ◌≤◌, Bool, true, List, [], ◌∷◌, ◌++◌, Option, None, Result, Ok, refl, arith, length, length-append}
use Rattle.std.proofs.lemmas.List.{append_assoc}
use Rattle.std.proofs.lemmas.List.Elements.{All-nil}
use Rattle.std.specs.Prelude.{is_ok, ⊤}
use Rattle.hs_cluster.proofs.WalkLemmas.{rise_then}
use Rattle.hs_cluster.specs.declared.fault.ClusterFault.{ClusterFault}
use Rattle.hs_cluster.specs.Running.{Running}
use Rattle.hs_core_words.specs.State.{Core}
use Rattle.hs_events.proofs.RunLemmas.{items_append, steps_append}
use Rattle.hs_events.specs.Beginning.{first_items}
use Rattle.hs_events.specs.Commands.{AreOfLine, LineAt}
use Rattle.hs_events.specs.Course.{items_of, steps}
use Rattle.hs_events.specs.Due.{Events, MomentsRise}
use Rattle.hs_events.specs.Found.{Found, first_core}
use Rattle.hs_model.specs.declared.command.Command.{Command}
use Rattle.hs_model.specs.declared.course.CourseItem.{CourseItem}
use Rattle.hs_ports.specs.Putting.{got_by}
use Rattle.hs_ports.specs.Sink.{bytes_of, followed}
use Rattle.hs_ports.specs.Watch.{next_moment}
use Rattle.hs_promise.specs.Lines.{IsBegunLine, IsOnTime}
use Rattle.hs_promise.specs.Run.{Ran, Script}
use Rattle.hs_promise.specs.Story.{all_events}
use Rattle.hs_script.specs.Text.{text}
use Rattle.hs_run.specs.Between.{Point}
use Rattle.hs_run.specs.Going.{AreGone, Begun, HasAnswered, core_behind, ran_by, script_by, story_of}
use Rattle.hs_run.specs.Puts.{IsStamped, Puts, PutsLate}
use Rattle.hs_run.proofs.AnsweredLemmas.{answered_steps}
use Rattle.hs_run.proofs.FoundLemmas.{ok_there}
use Rattle.hs_run.proofs.GoneLemmas.{events_of, gone_later, gone_more}
use Rattle.hs_run.proofs.PassedLemmas.{all_more, core_more, going_of, line_is}
use Rattle.hs_run.proofs.RiseLemmas.{first_by, rise_le}
use Rattle.hs_asker.specs.Going.{AtEntry, HasDone, RunsAlone, begun_by}
use Rattle.hs_asker.specs.Lines.{AreAsked}
use Rattle.hs_asker.proofs.LinesLemmas.{asked_last, asked_less}

-- ---- nothing is put

pub quiet_late : (before now : ℕ) (bytes : List ℕ) → before ≤ now → PutsLate before now bytes None None
quiet_late before now bytes later = record { later = later; same = λ m low early. refl; front = λ m early. record { count = 0; put = refl } }

pub quiet_stamped : (before now : ℕ) → IsStamped before now None None
quiet_stamped before now = record { more = []; put = refl; stamped = All-nil (λ (byte : ℕ × ℕ). (next_moment before ≤ byte.1) × (byte.1 ≤ now)) }

pub quiet : (before now : ℕ) (bytes : List ℕ) → before ≤ now → Puts before now bytes None None (Ok tt)
quiet before now bytes later = record {
  late = quiet_late before now bytes later;
  stamped = quiet_stamped before now;
  front = record { count = 0; put = refl };
  whole = refl;
  all = λ m low early. refl;
}

-- ---- a line that was begun, in a run that neither puts nor had got anything

module _ (S : Script) (r : Ran) (none : r.old.got ≡ None) (put : r.new.got ≡ None) where
  on_time : (at : LineAt) (es : Events) → IsOnTime r at es
  on_time at [] = tt
  on_time at (e ∷ es) = λ behind early.
      ap (λ (g : Option (List (ℕ × ℕ))). bytes_of (got_by e.1 g)) put ∙ ap (λ (g : Option (List (ℕ × ℕ))). followed (bytes_of g) (text at.core.journal)) (sym none)

  pub line_begun : (at : LineAt) → at.core.ended ≡ None → AreOfLine S.set.name at (S.commands at.line) → IsBegunLine S r at
  line_begun at going are = record {
    going = going;
    printed = record {
      on_time = on_time at at.events;
      rest = [];
      put = ap bytes_of put ∙ ap (λ (g : Option (List (ℕ × ℕ))). followed (bytes_of g) (text at.core.journal ++ [])) (sym none);
    };
    events = are;
  }

-- ---- one line more

module _ (tells : Type 0) (e : AtEntry) (found : Found) (first : Running) (opening : Events) where
  abbrev b : Begun
  b = begun_by e found first opening

  -- where the lines begin
  abbrev behind_opening : Core
  behind_opening = steps (first_core e.set found) opening

  module _ (said : List Command) (lines : List Events) (at new : Point) (asked : Command) (did : Result ⊤ ClusterFault) (done : HasDone b said lines at) (runs : RunsAlone tells e.set.name asked at new did) where
    abbrev es : Events
    es = runs.runs.events

    pub up : at.now ≤ new.now
    up = rise_le at.now new.now es runs.runs.rises

    pub line_core : at.cluster.core ≡ steps behind_opening (events_of lines)
    line_core = done.behind.core ∙ steps_append (first_core e.set found) opening (events_of lines)

    pub by_core : steps at.cluster.core es ≡ core_behind b (lines ++ es ∷ [])
    by_core = ap (λ (c : Core). steps c es) done.behind.core ∙ sym (core_more b lines es)

    pub rises_more : MomentsRise found.opened (all_events (story_of b (lines ++ es ∷ []))) new.now
    rises_more = subst (λ (all : Events). MomentsRise found.opened all new.now) (sym (all_more b lines es))
        (rise_then found.opened at.now new.now (all_events (story_of b lines)) es done.behind.rises runs.runs.rises)

    pub course_more : new.cluster.course ≡ first_items e.set.shape found e.moment ++ items_of (first_core e.set found) (all_events (story_of b (lines ++ es ∷ [])))
    course_more =
        runs.runs.does.course ∙ ap (λ (c : List CourseItem). c ++ items_of at.cluster.core es) done.behind.course
        ∙ append_assoc (first_items e.set.shape found e.moment) (items_of (first_core e.set found) (all_events (story_of b lines))) (items_of at.cluster.core es)
        ∙ ap (λ (c : List CourseItem). first_items e.set.shape found e.moment ++ c)
        (ap (λ (c : Core). items_of (first_core e.set found) (all_events (story_of b lines)) ++ items_of c es) done.behind.core
        ∙ sym (items_append (first_core e.set found) (all_events (story_of b lines)) es)
        ∙ ap (λ (more : Events). items_of (first_core e.set found) more) (sym (all_more b lines es)))

    pub answered_more : HasAnswered e.set.limits.ops (steps at.cluster.core es) new.now
    answered_more = answered_steps e.set.limits.ops at.cluster.core es at.now new.now done.behind.answered runs.runs.rises

    -- the lines before it
    pub gone_before : (commands : ℕ → Option Command) → AreAsked commands said
        → AreGone (record { script = script_by b commands; old = b.old; now = new.now; got = None }) 1 behind_opening lines
    gone_before commands asks =
        gone_later (record { script = script_by b commands; old = b.old; now = at.now; got = None }) new.now new.now [] None up (quiet_late new.now new.now [] (omega arith)) (record { count = 0; put = refl })
        1 behind_opening lines (done.gone commands asks)

    pub length_more : length (lines ++ es ∷ []) ≡ length lines + 1
    length_more = length-append lines (es ∷ [])

    -- it is that of its command
    pub are_of_line : (whole : Bool) (commands : ℕ → Option Command) → whole ≡ is_ok did → AreAsked commands (said ++ asked ∷ [])
        → AreOfLine e.set.name (record { line = length lines + 1; core = at.cluster.core; events = es; whole = whole }) (commands (length lines + 1))
    are_of_line whole commands ends asks =
        line_is e.set.name e.set.name (at.line + 1) (length lines + 1) at.cluster.core es (is_ok did) whole asked (commands (length lines + 1)) refl (ap (λ (n : ℕ). n + 1) (sym done.line)) ends
        (ap (λ (n : ℕ). commands (n + 1)) (sym done.each) ∙ asked_last commands said asked asks) runs.runs.due

    -- it was gone past
    pub done_more : is_ok did ≡ true → HasDone b (said ++ asked ∷ []) (lines ++ es ∷ []) new
    done_more fine =
        let core : new.cluster.core ≡ steps at.cluster.core es = runs.runs.does.core (ok_there did fine) in
        record {
          behind = record {
            later = done.behind.later;
            opening = done.behind.opening;
            core = core ∙ by_core;
            course = course_more;
            rises = rises_more;
            answered = subst (λ (c : Core). HasAnswered e.set.limits.ops c new.now) (sym core) answered_more;
          };
          going = going_of did new.cluster.core.ended fine (runs.runs.does.outcome (ok_there did fine));
          line = runs.line ∙ ap (λ (n : ℕ). n + 1) done.line ∙ sym length_more;
          each = length-append said (asked ∷ []) ∙ ap (λ (n : ℕ). n + 1) done.each ∙ sym length_more;
          gone = λ commands asks. gone_more (record { script = script_by b commands; old = b.old; now = new.now; got = None }) 1 behind_opening lines es (length lines + 1) at.cluster.core (omega arith) line_core
              (gone_before commands (asked_less commands said asked asks))
              (record {
                begun = line_begun (script_by b commands) (ran_by b.old None) refl refl (record { line = length lines + 1; core = at.cluster.core; events = es; whole = true }) done.going (are_of_line true commands (sym fine) asks);
                first = first_by at.now new.now es runs.runs.rises;
              });
        }
