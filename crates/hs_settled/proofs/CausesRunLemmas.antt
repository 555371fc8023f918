-- A run as its story says: the core behind its lines, and what stands there.
use Rattle.std.proofs.Common.{◌≡◌, ◌∙◌, ap, sym, subst, ℕ, zero, suc, ◌+◌, ◌<◌, ◌≤◌, ◌++◌, Bool, true, false, List, [], ◌∷◌, Option, Some, None, refl, arith, length}
use Rattle.std.specs.List.{AllByRecursion}
use Rattle.std.specs.Prelude.{flat_map, if◌then◌else◌}
use Rattle.hs_settled.proofs.AskLemmas.{AllAsk, AllIts, Lasts, Stays, ask_append, its_ask, its_stay, lines_ask, lines_last, opening_due, opening_its}
use Rattle.hs_settled.proofs.CausesFirstLemmas.{line_first, moment_first}
use Rattle.hs_settled.proofs.KeptLemmas.{Kept, all_kept, ask_first, ask_rest, come_first, come_rest, first_kept}
use Rattle.hs_core_words.specs.Looking.{shape_of}
use Rattle.hs_core_words.specs.State.{Core}
use Rattle.hs_core_words.specs.Step.{step}
use Rattle.hs_events.proofs.RunLemmas.{steps_append}
use Rattle.hs_events.specs.Commands.{AreOfLine, LineAt}
use Rattle.hs_events.specs.Course.{steps}
use Rattle.hs_events.specs.Due.{Events, MomentsRise, is_walk, next_due}
use Rattle.hs_events.specs.Found.{first_core, opens_with}
use Rattle.hs_journal.specs.declared.entry.JournalEntry.{JournalEntry}
use Rattle.hs_journal.specs.declared.entry.Who.{Who}
use Rattle.hs_journal.specs.declared.entry.Who.TheVariants as who
use Rattle.hs_journal.specs.Telling.{MayTell}
use Rattle.hs_limits.specs.declared.limits.Limits.{Limits}
use Rattle.hs_limits.specs.declared.shape.Shape.{Shape}
use Rattle.hs_standing.proofs.LinesLineLemmas.{AllBegin, all_come, first_next, lines_begin, opening_goes}
use Rattle.hs_standing.specs.Script.{AreLines, IsNext, Script as Lined, all_events}
use Rattle.hs_model.specs.declared.command.Command.{Command}
use Rattle.hs_settled.proofs.NotingLemmas.{all_later, all_weaker}
use Rattle.hs_settled.specs.Noted.{StandsFor}
use Rattle.hs_promise.specs.Answers.{IsEntry}
use Rattle.hs_promise.specs.Ending.{ending_of}
use Rattle.hs_promise.specs.Lines.{AreLines as AreBegunLines}
use Rattle.hs_promise.specs.Machine.{Went, opening_is_whole}
use Rattle.hs_promise.specs.Run.{Ran, Script}
use Rattle.hs_promise.specs.Story.{Story, last_core}
use Rattle.hs_told.specs.InTurn.{AllMayCome}

-- ---- commands, but for line 0, which no script has

abbrev pub mute : (ℕ → Option Command) → ℕ → Option Command
mute commands zero = None
mute commands (suc n) = commands (suc n)

pub mute_is : (commands : ℕ → Option Command) (n : ℕ) → 1 ≤ n → mute commands n ≡ commands n
mute_is commands zero h = absurd (omega (arith, h))
mute_is commands (suc n) h = refl

pub mute_some : (commands : ℕ → Option Command) (n : ℕ) (c : Command) → mute commands n ≡ Some c → commands n ≡ Some c
mute_some commands zero c e = absurd (cc e)
mute_some commands (suc n) c e = e

mute_tells : (shape : Shape) (limits : Limits) (commands : ℕ → Option Command) (n : ℕ) (entry : JournalEntry) → MayTell shape limits (mute commands n) entry → MayTell shape limits (commands n) entry
mute_tells shape limits commands zero entry h = absurd h
mute_tells shape limits commands (suc n) entry h = h

-- ---- lines

abbrev pub lined : Script → Ran → Lined
lined S r = record { name = S.set.name; commands = mute S.commands; past = (ending_of r.ending).past }

pub lines_are : (S : Script) (r : Ran) (line : ℕ) (core : Core) (lines : List Events) → 1 ≤ line → AreBegunLines S r line core lines → AreLines (lined S r) line core lines
lines_are S r line core [] one are = tt
lines_are S r line core (es ∷ []) one are =
    let at : LineAt = record { line = line; core = core; events = es; whole = (ending_of r.ending).past } in
    record { going = are.going; events = subst (λ c. AreOfLine S.set.name at c) (sym (mute_is S.commands line one)) are.events }
lines_are S r line core (es ∷ next ∷ rest) one are =
    let at : LineAt = record { line = line; core = core; events = es; whole = true } in
    (record { going = are.0.going; events = subst (λ c. AreOfLine S.set.name at c) (sym (mute_is S.commands line one)) are.0.events }, lines_are S r (line + 1) (steps core es) (next ∷ rest) (omega arith) are.1)

pub flat_is : (lines : List Events) → flat_map (λ line. line) lines ≡ all_events lines
flat_is [] = refl
flat_is (es ∷ rest) = ap (λ xs. es ++ xs) (flat_is rest)

begin_append : (commands : ℕ → Option Command) (core : Core) (es fs : Events) → AllBegin commands core es → AllBegin commands (steps core es) fs → AllBegin commands core (es ++ fs)
begin_append commands core [] fs a b = b
begin_append commands core (e ∷ es) fs a b = (a.0, begin_append commands (step e.0 e.1 core) es fs a.1 b)

-- ---- entries

entry_is : (S : Script) (last : ℕ) (entry : JournalEntry) → StandsFor (mute S.commands) S.set.shape S.set.limits last entry → IsEntry S last entry
entry_is S last entry s = go entry.who s
  where
    go : (w : Who) → StandsFor (mute S.commands) S.set.shape S.set.limits last (record entry { who = w }) → IsEntry S last (record entry { who = w })
    go (who.Line n) h = (h.0, mute_tells S.set.shape S.set.limits S.commands n (record entry { who = who.Line n }) h.1)
    go (who.Shard g) h = h
    go who.Store h = h

module _ (S : Script) (r : Ran) (story : Story) (went : Went S r story) where
  abbrev pub commands : ℕ → Option Command
  commands = mute S.commands

  abbrev pub opened : Core
  opened = first_core S.set story.found

  -- the core behind opening
  abbrev pub begun : Core
  begun = steps (first_core S.set story.found) story.opening

  pub are_lines : AreLines (lined S r) 1 (steps (first_core S.set story.found) story.opening) story.lines
  are_lines = lines_are S r 1 begun story.lines (omega arith) went.lines

  pub opened_kept : Kept (mute S.commands) S.set.shape S.set.limits (first_core S.set story.found)
  opened_kept = first_kept commands S.set.shape S.set.limits (opens_with S.set story.found) story.found.opened refl went.found.goods

  zero_line : opened.progress.event_line ≡ 0
  zero_line = line_first S.set.shape S.set.limits (opens_with S.set story.found) story.found.opened went.found.goods

  walks : is_walk next_due false 0 opened story.opening ≡ true
  walks = opening_due (opening_is_whole r story.lines) opened story.opening went.opening

  next : IsNext commands begun 1
  next = first_next commands false opened story.opening refl zero_line walks

  pub all_come_so : AllMayCome (mute S.commands) (first_core S.set story.found) (story.opening ++ all_events story.lines)
  all_come_so =
      all_come commands opened (story.opening ++ all_events story.lines) story.found.opened r.new.moment
      (λ going. let e : opened.moment ≡ story.found.opened = moment_first S.set.shape S.set.limits (opens_with S.set story.found) story.found.opened went.found.goods in omega (arith, e))
      (subst (λ es. MomentsRise story.found.opened (story.opening ++ es) r.new.moment) (flat_is story.lines) went.rises)
      (begin_append commands opened story.opening (all_events story.lines) (opening_goes commands false opened story.opening refl zero_line walks).begin (lines_begin (lined S r) 1 begun story.lines next are_lines))

  opening_are : AllIts commands 0 opened story.opening
  opening_are = opening_its commands (opening_is_whole r story.lines) opened story.opening went.opening

  pub all_ask_so : AllAsk (mute S.commands) (first_core S.set story.found) (story.opening ++ all_events story.lines)
  all_ask_so = ask_append commands opened story.opening (all_events story.lines) (its_ask commands 0 opened story.opening opening_are) (lines_ask (lined S r) 1 begun story.lines are_lines)

  pub begun_kept : Kept (mute S.commands) S.set.shape S.set.limits (steps (first_core S.set story.found) story.opening)
  begun_kept = all_kept commands S.set.shape S.set.limits opened story.opening opened_kept (come_first commands opened story.opening (all_events story.lines) all_come_so) (ask_first commands opened story.opening (all_events story.lines) all_ask_so)

  pub lines_come : AllMayCome (mute S.commands) (steps (first_core S.set story.found) story.opening) (all_events story.lines)
  lines_come = come_rest commands opened story.opening (all_events story.lines) all_come_so

  pub lines_asked : AllAsk (mute S.commands) (steps (first_core S.set story.found) story.opening) (all_events story.lines)
  lines_asked = ask_rest commands opened story.opening (all_events story.lines) all_ask_so

  -- the core behind all lines
  pub last_is : last_core S story ≡ steps (first_core S.set story.found) (story.opening ++ all_events story.lines)
  last_is = ap (λ es. steps opened (story.opening ++ es)) (flat_is story.lines)

  pub last_behind : last_core S story ≡ steps (steps (first_core S.set story.found) story.opening) (all_events story.lines)
  last_behind = last_is ∙ steps_append opened story.opening (all_events story.lines)

  pub last_kept : Kept (mute S.commands) S.set.shape S.set.limits (last_core S story)
  last_kept = subst (λ (c : Core). Kept commands S.set.shape S.set.limits c) (sym last_is)
      (all_kept commands S.set.shape S.set.limits opened (story.opening ++ all_events story.lines) opened_kept all_come_so all_ask_so)

  -- no line of an event is above the last one that was begun
  pub begun_line : (steps (first_core S.set story.found) story.opening).progress.event_line < 1
  begun_line =
      let stay : Stays commands 0 opened begun = its_stay commands 0 opened story.opening opening_are (omega (arith, zero_line)) in
      let low : begun.progress.event_line ≤ 0 = stay.within in
      omega (arith, low)

  pub last_line : (last_core S story).progress.event_line ≤ r.line
  last_line =
      let lasts : Lasts 1 story.lines begun (steps begun (all_events story.lines)) = lines_last (lined S r) 1 begun story.lines are_lines begun_line in
      let low : (steps begun (all_events story.lines)).progress.event_line < 1 + length story.lines = lasts.within in
      let same : (last_core S story).progress.event_line ≡ (steps begun (all_events story.lines)).progress.event_line = ap (λ (c : Core). c.progress.event_line) last_behind in
      let count : r.line ≡ length story.lines = went.line in
      omega (arith, low, same, count)

  -- ---- what its entries stand for

  stand : (entries : List JournalEntry) → AllByRecursion (StandsFor commands (shape_of (last_core S story)) (last_core S story).limits (last_core S story).progress.event_line) entries → AllByRecursion (IsEntry S r.line) entries
  stand entries h =
      all_weaker (StandsFor commands S.set.shape S.set.limits r.line) (IsEntry S r.line) (entry_is S r.line) entries
      (all_later commands S.set.shape S.set.limits (last_core S story).progress.event_line r.line last_line entries
      (subst (λ (z : Shape). AllByRecursion (StandsFor commands z S.set.limits (last_core S story).progress.event_line) entries) last_kept.shaped
      (subst (λ (l : Limits). AllByRecursion (StandsFor commands (shape_of (last_core S story)) l (last_core S story).progress.event_line) entries) last_kept.limited h)))

  pub journal_stands : AllByRecursion (IsEntry S r.line) r.journal
  journal_stands = subst (λ es. AllByRecursion (IsEntry S r.line) es) (sym went.journal) (stand (last_core S story).journal last_kept.noted.journal)

  pub refused_stands : AllByRecursion (IsEntry S r.line) r.refused
  refused_stands = subst (λ es. AllByRecursion (IsEntry S r.line) es) (sym went.refused) (go (ending_of r.ending).full)
    where
      go : (b : Bool) → AllByRecursion (IsEntry S r.line) (if b then (last_core S story).refused else [])
      go true = stand (last_core S story).refused last_kept.noted.refused
      go false = tt

  pub journal_fits : length r.journal ≤ S.set.limits.ops
  journal_fits =
      subst (λ (es : List JournalEntry). length es ≤ S.set.limits.ops) (sym went.journal)
      (subst (λ (l : Limits). length (last_core S story).journal ≤ l.ops) last_kept.limited last_kept.ends.fits)
