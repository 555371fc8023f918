-- A run behind one line more.
use Rattle.std.proofs.Common.{◌≡◌, ◌∙◌, ap, sym, subst, ℕ, ◌+◌, ◌≤◌, Bool, true, false, List, [], ◌∷◌, ◌++◌, Option, Some, None, Result, Ok, Err, refl, arith, length, length-append, drop, take}
use Rattle.std.proofs.lemmas.Bool.{true≢false}
use Rattle.std.proofs.lemmas.Grind.{flat_map-append}
use Rattle.std.proofs.lemmas.List.{append-nil, append_assoc, drop_all, drop_at}
use Rattle.std.specs.Prelude.{is_ok, ⊤}
use Rattle.hs_cluster.proofs.WalkLemmas.{rise_then}
use Rattle.hs_cluster.specs.Calls.{outcome_by, ran_out}
use Rattle.hs_cluster.specs.declared.fault.ClusterFault.{ClusterFault}
use Rattle.hs_core_words.specs.State.{Core}
use Rattle.hs_desk.specs.declared.fault.CoreFault.{CoreFault}
use Rattle.hs_events.proofs.RunLemmas.{items_append, steps_append}
use Rattle.hs_events.specs.Beginning.{first_items}
use Rattle.hs_events.specs.Commands.{AreOfCommand, AreOfLine, LineAt}
use Rattle.hs_events.specs.Course.{items_of, steps}
use Rattle.hs_events.specs.Due.{Events, MomentsRise}
use Rattle.hs_events.specs.Found.{first_core}
use Rattle.hs_journal.specs.declared.entry.JournalEntry.{JournalEntry}
use Rattle.hs_limits.specs.declared.address.Address.{Address}
use Rattle.hs_model.specs.declared.command.Command.{Command}
use Rattle.hs_model.specs.declared.course.CourseItem.{CourseItem}
use Rattle.hs_ports.specs.Putting.{got_by}
use Rattle.hs_ports.specs.Sink.{bytes_of, followed}
use Rattle.hs_promise.specs.Lines.{IsBegunLine, IsOnTime}
use Rattle.hs_promise.specs.Story.{all_events}
use Rattle.hs_script.specs.Reading.{blank, command_in, commands, reading, says}
use Rattle.hs_script.specs.Text.{text}
use Rattle.hs_run.specs.declared.stop.Stop.{Stop}
use Rattle.hs_run.specs.Between.{Point}
use Rattle.hs_run.specs.Going.{AreGone, AreRead, Begun, HasAnswered, HasGone, IsPrinted, IsPutSoFar, core_behind, ran_by, script_by, story_of}
use Rattle.hs_run.specs.OneLine.{RunsCommand}
use Rattle.hs_run.specs.Puts.{Puts}
use Rattle.hs_run.specs.Stopping.{end_of}
use Rattle.hs_run.proofs.AnsweredLemmas.{answered_on, answered_steps, has_added}
use Rattle.hs_run.proofs.GoneLemmas.{events_of, gone_later, gone_more}
use Rattle.hs_run.proofs.LateLemmas.{front_none}
use Rattle.hs_run.proofs.PrintedLemmas.{followed_nothing, printed_more, put_more_so_far, stamped_none}
use Rattle.hs_run.proofs.ReadLemmas.{read_last, read_less}
use Rattle.hs_run.proofs.RiseLemmas.{first_by, first_on, rise_le, rise_on}
use Rattle.hs_run.proofs.TellingLemmas.{followed_twice}

-- ---- events of lines

pub events_more : (lines : List Events) (es : Events) → events_of (lines ++ es ∷ []) ≡ events_of lines ++ es
events_more lines es = flat_map-append (λ (line : Events). line) lines (es ∷ []) ∙ ap (λ (last : Events). events_of lines ++ last) (append-nil es)

pub all_more : (b : Begun) (lines : List Events) (es : Events) → all_events (story_of b (lines ++ es ∷ [])) ≡ all_events (story_of b lines) ++ es
all_more b lines es = ap (λ (more : Events). b.opening ++ more) (events_more lines es) ∙ sym (append_assoc b.opening (events_of lines) es)

pub core_more : (b : Begun) (lines : List Events) (es : Events) → core_behind b (lines ++ es ∷ []) ≡ steps (core_behind b lines) es
core_more b lines es = ap (λ (all : Events). steps (first_core b.set b.found) all) (all_more b lines es) ∙ steps_append (first_core b.set b.found) (all_events (story_of b lines)) es

length-more : (lines : List Events) (es : Events) → length (lines ++ es ∷ []) ≡ length lines + 1
length-more lines es = length-append lines (es ∷ [])

-- ---- one line behind those that were gone past, with its events up to a moment and what was put of it

module _ (b : Begun) (read : List (List ℕ)) (lines : List Events) (at : Point) (es : Events) (mid : ℕ) (new : Point)
    (gone : HasGone b read lines at) (rises : MomentsRise at.now es mid) (journal : new.cluster.core.journal ≡ (steps at.cluster.core es).journal) where
  up : at.now ≤ mid
  up = rise_le at.now mid es rises

  since : b.old.moment ≤ at.now
  since = let one = gone.behind.later in let two = rise_le b.found.opened at.now (all_events (story_of b lines)) gone.behind.rises in omega (arith, one, two)

  -- what is put is the text of what the events added
  new_journal : new.cluster.core.journal ≡ at.cluster.core.journal ++ (has_added at.cluster.core es at.now mid gone.behind.answered.between rises).more
  new_journal = journal ∙ (has_added at.cluster.core es at.now mid gone.behind.answered.between rises).is

  new_text : text (drop (length at.cluster.core.journal) new.cluster.core.journal) ≡ text (has_added at.cluster.core es at.now mid gone.behind.answered.between rises).more
  new_text = ap (λ (j : List JournalEntry). text (drop (length at.cluster.core.journal) j)) new_journal
      ∙ ap text (drop_at at.cluster.core.journal (has_added at.cluster.core es at.now mid gone.behind.answered.between rises).more (length at.cluster.core.journal) refl)

  module _ (put : Result ⊤ Stop) (puts : Puts mid new.now (text (drop (length at.cluster.core.journal) new.cluster.core.journal)) at.got new.got put) where
    puts_added : Puts mid new.now (text (has_added at.cluster.core es at.now mid gone.behind.answered.between rises).more) at.got new.got put
    puts_added = subst (λ (bytes : List ℕ). Puts mid new.now bytes at.got new.got put) new_text puts

    pub put_so_far : IsPutSoFar b.old new.now new.got new.cluster.core.journal
    put_so_far = subst (λ (j : List JournalEntry). IsPutSoFar b.old new.now new.got j) (sym new_journal)
        (put_more_so_far b.old at.now mid new.now at.got new.got at.cluster.core.journal (has_added at.cluster.core es at.now mid gone.behind.answered.between rises).more since up
        gone.behind.answered.dated (has_added at.cluster.core es at.now mid gone.behind.answered.between rises).dated gone.printed put puts_added)

    -- where all of it was put
    pub put_whole : put ≡ Ok tt → IsPrinted b.old new.now new.got new.cluster.core.journal
    put_whole is = subst (λ (j : List JournalEntry). IsPrinted b.old new.now new.got j) (sym new_journal)
        (printed_more b.old at.now mid new.now at.got new.got at.cluster.core.journal (has_added at.cluster.core es at.now mid gone.behind.answered.between rises).more since up
        gone.behind.answered.dated (has_added at.cluster.core es at.now mid gone.behind.answered.between rises).dated gone.printed
        (subst (λ (r : Result ⊤ Stop). Puts mid new.now (text (has_added at.cluster.core es at.now mid gone.behind.answered.between rises).more) at.got new.got r) is puts_added))

    -- the lines before it
    pub gone_before : (commands : ℕ → Option Command) → AreRead commands read
        → AreGone (record { script = script_by b commands; old = b.old; now = new.now; got = new.got }) 1 (steps (first_core b.set b.found) b.opening) lines
    gone_before commands said =
        gone_later (record { script = script_by b commands; old = b.old; now = at.now; got = at.got }) mid new.now (text (drop (length at.cluster.core.journal) new.cluster.core.journal)) new.got up puts.late puts.front
        1 (steps (first_core b.set b.found) b.opening) lines (gone.gone commands said)

    -- it was begun behind all text before it
    on_time : (line : LineAt) (fs : Events) → line.core ≡ at.cluster.core → MomentsRise at.now fs mid → IsOnTime (ran_by b.old new.got) line fs
    on_time line [] same rise = tt
    on_time line (f ∷ fs) same rise = λ behind early.
        let low = rise.0 in
        let high = rise_le f.1 mid fs rise.1 in
        ap bytes_of (puts.late.same f.1 (omega (arith, high)) early) ∙ gone.printed.whole f.1 behind (omega (arith, low)) early
        ∙ ap (λ (c : Core). followed (bytes_of b.old.got) (text c.journal)) (sym same)

    pub line_begun : (commands : ℕ → Option Command) (n : ℕ) (whole : Bool) → AreOfLine b.set.name (record { line = n; core = at.cluster.core; events = es; whole = whole }) (commands n)
        → IsBegunLine (script_by b commands) (ran_by b.old new.got) (record { line = n; core = at.cluster.core; events = es; whole = whole })
    line_begun commands n whole are = record {
      going = gone.going;
      printed = record {
        on_time = on_time (record { line = n; core = at.cluster.core; events = es; whole = whole }) es refl rises;
        rest = take puts.front.count (text (drop (length at.cluster.core.journal) new.cluster.core.journal));
        put = puts.front.put ∙ ap (λ (g : Option (List ℕ)). followed g (take puts.front.count (text (drop (length at.cluster.core.journal) new.cluster.core.journal)))) gone.printed.put
            ∙ followed_twice (bytes_of b.old.got) (text at.cluster.core.journal) (take puts.front.count (text (drop (length at.cluster.core.journal) new.cluster.core.journal)));
      };
      events = are;
    }

    -- where it begins
    pub line_core : at.cluster.core ≡ steps (steps (first_core b.set b.found) b.opening) (events_of lines)
    line_core = gone.behind.core ∙ steps_append (first_core b.set b.found) b.opening (events_of lines)

    pub rises_more : MomentsRise b.found.opened (all_events (story_of b (lines ++ es ∷ []))) new.now
    rises_more = subst (λ (all : Events). MomentsRise b.found.opened all new.now) (sym (all_more b lines es))
        (rise_then b.found.opened at.now new.now (all_events (story_of b lines)) es gone.behind.rises (rise_on at.now mid new.now es puts.late.later rises))

    pub course_more : new.cluster.course ≡ at.cluster.course ++ items_of at.cluster.core es
        → new.cluster.course ≡ first_items b.set.shape b.found b.old.moment ++ items_of (first_core b.set b.found) (all_events (story_of b (lines ++ es ∷ [])))
    course_more course =
        course ∙ ap (λ (c : List CourseItem). c ++ items_of at.cluster.core es) gone.behind.course
        ∙ append_assoc (first_items b.set.shape b.found b.old.moment) (items_of (first_core b.set b.found) (all_events (story_of b lines))) (items_of at.cluster.core es)
        ∙ ap (λ (c : List CourseItem). first_items b.set.shape b.found b.old.moment ++ c)
        (ap (λ (c : Core). items_of (first_core b.set b.found) (all_events (story_of b lines)) ++ items_of c es) gone.behind.core
        ∙ sym (items_append (first_core b.set b.found) (all_events (story_of b lines)) es)
        ∙ ap (λ (more : Events). items_of (first_core b.set b.found) more) (sym (all_more b lines es)))

    pub answered_more : HasAnswered b.set.limits.ops (steps at.cluster.core es) new.now
    answered_more = answered_on b.set.limits.ops (steps at.cluster.core es) mid new.now puts.late.later (answered_steps b.set.limits.ops at.cluster.core es at.now mid gone.behind.answered rises)

-- ---- it was gone past

pub gone_line : (b : Begun) (read : List (List ℕ)) (lines : List Events) (at : Point) (line : List ℕ) (es : Events) (mid : ℕ) (new : Point) (gone : HasGone b read lines at) → MomentsRise at.now es mid
    → new.cluster.core ≡ steps at.cluster.core es → new.cluster.core.ended ≡ None → new.cluster.course ≡ at.cluster.course ++ items_of at.cluster.core es → new.line ≡ at.line + 1
    → ((commands : ℕ → Option Command) → commands (length read + 1) ≡ command_in (reading line) → AreOfLine b.set.name (record { line = length lines + 1; core = at.cluster.core; events = es; whole = true }) (commands (length lines + 1)))
    → Puts mid new.now (text (drop (length at.cluster.core.journal) new.cluster.core.journal)) at.got new.got (Ok tt) → HasGone b (read ++ line ∷ []) (lines ++ es ∷ []) new
gone_line b read lines at line es mid new gone rises core going course number are puts = record {
  behind = record {
    later = gone.behind.later;
    opening = gone.behind.opening;
    core = core ∙ ap (λ (c : Core). steps c es) gone.behind.core ∙ sym (core_more b lines es);
    course = course_more b read lines at es mid new gone rises journal (Ok tt) puts course;
    rises = rises_more b read lines at es mid new gone rises journal (Ok tt) puts;
    answered = subst (λ (c : Core). HasAnswered b.set.limits.ops c new.now) (sym core) (answered_more b read lines at es mid new gone rises journal (Ok tt) puts);
  };
  going = going;
  line = number ∙ ap (λ (n : ℕ). n + 1) gone.line ∙ sym (length-more lines es);
  each = length-append read (line ∷ []) ∙ ap (λ (n : ℕ). n + 1) gone.each ∙ sym (length-more lines es);
  gone = λ commands said. gone_more (record { script = script_by b commands; old = b.old; now = new.now; got = new.got }) 1 (steps (first_core b.set b.found) b.opening) lines es (length lines + 1) at.cluster.core
      (omega arith) (line_core b read lines at es mid new gone rises journal (Ok tt) puts)
      (gone_before b read lines at es mid new gone rises journal (Ok tt) puts commands (read_less commands read line said))
      (record {
        begun = line_begun b read lines at es mid new gone rises journal (Ok tt) puts commands (length lines + 1) true (are commands (read_last commands read line said));
        first = first_on mid new.now es puts.late.later (first_by at.now mid es rises);
      });
  printed = put_whole b read lines at es mid new gone rises journal (Ok tt) puts refl;
}
  where
    journal : new.cluster.core.journal ≡ (steps at.cluster.core es).journal
    journal = ap (λ (c : Core). c.journal) core

-- ---- by what the line says

-- a line of this command, by other names of its number and of its end
pub line_is : (name name' : List ℕ → Address) (line n : ℕ) (core : Core) (es : Events) (whole w : Bool) (asked : Command) (o : Option Command) → name' ≡ name → n ≡ line → w ≡ whole → o ≡ Some asked
    → AreOfCommand name (record { line = line; core = core; events = es; whole = whole }) asked → AreOfLine name' (record { line = n; core = core; events = es; whole = w }) o
line_is name name' line n core es whole w asked o named number same there h =
    subst (λ (c : Option Command). AreOfLine name' (record { line = n; core = core; events = es; whole = w }) c) (sym there)
    (subst (λ (f : List ℕ → Address). AreOfCommand f (record { line = n; core = core; events = es; whole = w }) asked) (sym named)
    (subst (λ (k : ℕ). AreOfCommand name (record { line = k; core = core; events = es; whole = w }) asked) (sym number)
    (subst (λ (v : Bool). AreOfCommand name (record { line = line; core = core; events = es; whole = v }) asked) (sym same) h)))

-- what is asked there
pub asked_there : (commands : ℕ → Option Command) (read : List (List ℕ)) (lines : List Events) (line : List ℕ) (asked : Command) → length read ≡ length lines → reading line ≡ says asked
    → commands (length read + 1) ≡ command_in (reading line) → commands (length lines + 1) ≡ Some asked
asked_there commands read lines line asked each said is = ap (λ (n : ℕ). commands (n + 1)) (sym each) ∙ is ∙ ap command_in said

-- a command that came to its end
pub record EndedWell (did : Result ⊤ ClusterFault) (put : Result ⊤ Stop) : Type 0 where
  pub whole : is_ok did ≡ true
  pub there : ran_out did ≡ false
  pub printed : put ≡ Ok tt

pub end_ok : (did : Result ⊤ ClusterFault) (put : Result ⊤ Stop) → is_ok (end_of did put) ≡ true → EndedWell did put
end_ok (Ok x) (Ok y) h = record { whole = refl; there = refl; printed = refl }
end_ok (Err fault) (Ok y) h = absurd (true≢false (sym h))
end_ok (Ok x) (Err halt) h = absurd (true≢false (sym h))
end_ok (Err fault) (Err halt) h = absurd (true≢false (sym h))

pub going_of : (did : Result ⊤ ClusterFault) (ended : Option CoreFault) → is_ok did ≡ true → did ≡ outcome_by ended → ended ≡ None
going_of did None h is = refl
going_of did (Some fault) h is = absurd (true≢false (sym h ∙ ap (λ (r : Result ⊤ ClusterFault). is_ok r) is))

pub command_gone : (tells : Type 0) (name : List ℕ → Address) (b : Begun) (read : List (List ℕ)) (lines : List Events) (at new : Point) (line : List ℕ) (asked : Command) (result : Result ⊤ Stop) → b.set.name ≡ name → HasGone b read lines at
    → reading line ≡ says asked → is_ok result ≡ true → (runs : RunsCommand tells name asked (record { old = at; new = new; result = result })) → HasGone b (read ++ line ∷ []) (lines ++ runs.runs.events ∷ []) new
command_gone tells name b read lines at new line asked result named gone said fine runs =
    let well : EndedWell runs.did runs.put = end_ok runs.did runs.put (ap (λ (r : Result ⊤ Stop). is_ok r) (sym runs.ended) ∙ fine) in
    gone_line b read lines at line runs.runs.events runs.mid new gone runs.runs.rises (runs.runs.does.core well.there) (going_of runs.did new.cluster.core.ended well.whole (runs.runs.does.outcome well.there)) runs.runs.does.course runs.line
    (λ commands is. line_is name b.set.name (at.line + 1) (length lines + 1) at.cluster.core runs.runs.events (is_ok runs.did) true asked (commands (length lines + 1)) named (ap (λ (n : ℕ). n + 1) (sym gone.line)) (sym well.whole)
    (asked_there commands read lines line asked gone.each said is) runs.runs.due)
    (subst (λ (r : Result ⊤ Stop). Puts runs.mid new.now (text (drop (length at.cluster.core.journal) new.cluster.core.journal)) at.got new.got r) well.printed runs.puts)

-- a line that says nothing

puts_nothing : (now : ℕ) (bytes : List ℕ) (got : Option (List (ℕ × ℕ))) → bytes ≡ [] → Puts now now bytes got got (Ok tt)
puts_nothing now bytes got none = subst (λ (b : List ℕ). Puts now now b got got (Ok tt)) (sym none) (record {
  late = record {
    later = omega arith;
    same = λ m le early. refl;
    front = λ m early. front_none (bytes_of (got_by m got)) (bytes_of (got_by m got)) [] refl;
  };
  stamped = stamped_none now got;
  front = front_none (bytes_of got) (bytes_of got) [] refl;
  whole = sym (followed_nothing (bytes_of got));
  all = λ m le early. sym (followed_nothing (bytes_of (got_by m got)));
})

pub blank_gone : (b : Begun) (read : List (List ℕ)) (lines : List Events) (at : Point) (line : List ℕ) → HasGone b read lines at → reading line ≡ blank → HasGone b (read ++ line ∷ []) (lines ++ [] ∷ []) (record at { line = at.line + 1 })
blank_gone b read lines at line gone said =
    gone_line b read lines at line [] at.now (record at { line = at.line + 1 }) gone (omega arith) refl gone.going (sym (append-nil at.cluster.course)) refl
    (λ commands is. subst (λ (c : Option Command). AreOfLine b.set.name (record { line = length lines + 1; core = at.cluster.core; events = []; whole = true }) c)
    (sym (ap (λ (n : ℕ). commands (n + 1)) (sym gone.each) ∙ is ∙ ap command_in said)) refl)
    (puts_nothing at.now (text (drop (length at.cluster.core.journal) at.cluster.core.journal)) at.got (ap text (drop_all (length at.cluster.core.journal) at.cluster.core.journal (omega arith))))
