-- The events of a story may come, one after another: in order, clients' lines new, and a write with the address of its block.
use Rattle.std.proofs.Common.{◌≡◌, sym, subst, ℕ, ◌++◌, Bool, false, true, List, [], ◌∷◌, Option, None, refl, arith}
use Rattle.std.specs.Prelude.{flat_map}
use Rattle.hs_answered.specs.Telling.{Judging}
use Rattle.hs_standing.proofs.AddressedLemmas.{AllAddressed, LinesAsk, lines_addressed, settle_addressed}
use Rattle.hs_standing.specs.Answered.{judging_by}
use Rattle.hs_clauses.proofs.AlongLemmas.{rises_front, rises_rest}
use Rattle.hs_clauses.proofs.FirstLemmas.{opens_first}
use Rattle.hs_clauses.proofs.LineLemmas.{flat_same, joined, opening_due}
use Rattle.hs_clauses.specs.Asked.{lined}
use Rattle.hs_core_words.specs.Opening.{Taken, open_core}
use Rattle.hs_core_words.specs.State.{Core}
use Rattle.hs_core_words.specs.Step.{step}
use Rattle.hs_effects.specs.Logged.{MayBeginAll}
use Rattle.hs_events.specs.Course.{steps}
use Rattle.hs_events.specs.Due.{Events, MomentsRise, is_walk, next_due}
use Rattle.hs_events.specs.Found.{first_core, opens_with}
use Rattle.hs_journal.specs.Events.{client_op}
use Rattle.hs_journal.specs.Order.{IsOrdered}
use Rattle.hs_limits.specs.declared.address.Address.{Address}
use Rattle.hs_limits.specs.declared.limits.Limits.{Limits}
use Rattle.hs_limits.specs.declared.shape.Shape.{Shape}
use Rattle.hs_standing.specs.Script.{AreLines, IsNext, Script as Lined, all_events as lines_events}
use Rattle.hs_model.specs.declared.command.Command.{Command}
use Rattle.hs_promise.specs.Machine.{Went, opening_is_whole}
use Rattle.hs_promise.specs.Run.{Ran, Script}
use Rattle.hs_promise.specs.Story.{Story, all_events}
use Rattle.hs_told.specs.InTurn.{AllMayCome, IsInTurn, after_all}

-- what hs_told and hs_standing say of events, in one place
pub record ComingLaws : Type 0 where
  pub opens : (commands : ℕ → Option Command) (shape : Shape) (limits : Limits) (taken : Taken) (moment : ℕ) → client_op (commands 0) ≡ None → IsInTurn commands (open_core shape limits taken moment)
  pub turns : (commands : ℕ → Option Command) (core : Core) (es : Events) → IsInTurn commands core → AllMayCome commands core es → IsInTurn commands (after_all core es)
  pub full : (commands : ℕ → Option Command) (core : Core) → IsInTurn commands core → IsOrdered commands (core.journal ++ core.refused)
  pub come_opening : (commands : ℕ → Option Command) (whole : Bool) (core : Core) (es : Events) (to : ℕ) → client_op (commands 0) ≡ None → core.progress.event_line ≡ 0 → MomentsRise core.moment es to → is_walk next_due whole 0 core es ≡ true → AllMayCome commands core es
  pub next_first : (commands : ℕ → Option Command) (whole : Bool) (core : Core) (es : Events) → client_op (commands 0) ≡ None → core.progress.event_line ≡ 0 → is_walk next_due whole 0 core es ≡ true → IsNext commands (steps core es) 1
  pub come_lines : (s : Lined) (line : ℕ) (core : Core) (lines : List Events) (to : ℕ) → IsNext s.commands core line → MomentsRise core.moment (lines_events lines) to → AreLines s line core lines → AllMayCome s.commands core (lines_events lines)
  pub new_opening : (name : List ℕ → Address) (whole : Bool) (core : Core) (es : Events) → is_walk next_due whole 0 core es ≡ true → MayBeginAll name es core
  pub new_lines : (s : Lined) (line : ℕ) (core : Core) (lines : List Events) (to : ℕ) → IsInTurn s.commands core → IsNext s.commands core line → MomentsRise core.moment (lines_events lines) to → AreLines s line core lines → MayBeginAll s.name (lines_events lines) core
  pub asks : (by : Judging) → LinesAsk by

-- ---- some events behind others

after_steps : (core : Core) (es : Events) → after_all core es ≡ steps core es
after_steps core [] = refl
after_steps core (e ∷ es) = after_steps (step e.0 e.1 core) es

come_both : (commands : ℕ → Option Command) (core : Core) (es fs : Events) → AllMayCome commands core es → AllMayCome commands (steps core es) fs → AllMayCome commands core (es ++ fs)
come_both commands core [] fs a b = b
come_both commands core (e ∷ es) fs a b = (a.0, come_both commands (step e.0 e.1 core) es fs a.1 b)

begin_both : (name : List ℕ → Address) (core : Core) (es fs : Events) → MayBeginAll name es core → MayBeginAll name fs (steps core es) → MayBeginAll name (es ++ fs) core
begin_both name core [] fs a b = b
begin_both name core (e ∷ es) fs a b = (a.0, begin_both name (step e.0 e.1 core) es fs a.1 b)

addressed_both : (by : Judging) (core : Core) (es fs : Events) → AllAddressed by es core → AllAddressed by fs (steps core es) → AllAddressed by (es ++ fs) core
addressed_both by core [] fs a b = b
addressed_both by core (e ∷ es) fs a b = (a.0, addressed_both by (step e.0 e.1 core) es fs a.1 b)

-- ---- of a story

module _ (laws : ComingLaws) (S : Script) (r : Ran) (story : Story) (went : Went S r story) (nobody : client_op (S.commands 0) ≡ None) where
  abbrev first : Core
  first = first_core S.set story.found

  abbrev mid : Core
  mid = steps (first_core S.set story.found) story.opening

  abbrev line_events : Events
  line_events = flat_map (λ (line : Events). line) story.lines

  abbrev by : Judging
  by = judging_by (lined S r) S.set.limits

  moment_is : (first_core S.set story.found).moment ≡ story.found.opened
  moment_is = (opens_first S.set.shape S.set.limits (opens_with S.set story.found) story.found.opened).moment

  no_line : (first_core S.set story.found).progress.event_line ≡ 0
  no_line = (opens_first S.set.shape S.set.limits (opens_with S.set story.found) story.found.opened).event_line

  turn_first : IsInTurn S.commands (first_core S.set story.found)
  turn_first = laws.opens S.commands S.set.shape S.set.limits (opens_with S.set story.found) story.found.opened nobody

  -- ---- opening

  rises : MomentsRise (first_core S.set story.found).moment story.opening r.new.moment
  rises = subst (λ (m : ℕ). MomentsRise m story.opening r.new.moment) (sym moment_is) (rises_front story.found.opened r.new.moment story.opening line_events went.rises)

  walks : is_walk next_due false 0 (first_core S.set story.found) story.opening ≡ true
  walks = opening_due (opening_is_whole r story.lines) (first_core S.set story.found) story.opening went.opening

  come_opening : AllMayCome S.commands (first_core S.set story.found) story.opening
  come_opening = laws.come_opening S.commands false first story.opening r.new.moment nobody no_line rises walks

  -- ---- lines

  turn_mid : IsInTurn S.commands (steps (first_core S.set story.found) story.opening)
  turn_mid = subst (λ (c : Core). IsInTurn S.commands c) (after_steps first story.opening) (laws.turns S.commands first story.opening turn_first come_opening)

  next_mid : IsNext S.commands (steps (first_core S.set story.found) story.opening) 1
  next_mid = laws.next_first S.commands false first story.opening nobody no_line walks

  lines_mid : AreLines (lined S r) 1 (steps (first_core S.set story.found) story.opening) story.lines
  lines_mid = joined S r 1 mid story.lines went.lines

  rises_mid : MomentsRise (steps (first_core S.set story.found) story.opening).moment (lines_events story.lines) r.new.moment
  rises_mid =
      subst (λ (es : Events). MomentsRise mid.moment es r.new.moment) (flat_same story.lines)
      (rises_rest first story.found.opened r.new.moment story.opening line_events (let is = moment_is in omega (arith, is)) went.rises)

  new_mid : MayBeginAll S.set.name (lines_events story.lines) (steps (first_core S.set story.found) story.opening)
  new_mid = laws.new_lines (lined S r) 1 mid story.lines r.new.moment turn_mid next_mid rises_mid lines_mid

  -- ---- all of them

  pub come_all : AllMayCome S.commands (first_core S.set story.found) (all_events story)
  come_all =
      come_both S.commands first story.opening line_events come_opening
      (subst (λ (es : Events). AllMayCome S.commands mid es) (sym (flat_same story.lines)) (laws.come_lines (lined S r) 1 mid story.lines r.new.moment next_mid rises_mid lines_mid))

  pub new_all : MayBeginAll S.set.name (all_events story) (first_core S.set story.found)
  new_all =
      begin_both S.set.name first story.opening line_events (laws.new_opening S.set.name false first story.opening walks)
      (subst (λ (es : Events). MayBeginAll S.set.name es mid) (sym (flat_same story.lines)) new_mid)

  pub addressed_all : AllAddressed (judging_by (lined S r) S.set.limits) (all_events story) (first_core S.set story.found)
  addressed_all =
      addressed_both by first story.opening line_events (settle_addressed by false 0 first story.opening walks)
      (subst (λ (es : Events). AllAddressed by es mid) (sym (flat_same story.lines)) (lines_addressed (lined S r) S.set.limits (laws.asks by) 1 mid story.lines next_mid new_mid lines_mid))
