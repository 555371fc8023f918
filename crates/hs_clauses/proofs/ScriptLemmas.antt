-- The events of a script come: those that are due for opening, and those of its lines.
use Rattle.std.proofs.Common.{◌≡◌, sym, subst, ℕ, ◌++◌, Bool, true, List, [], ◌∷◌, Option, None, refl, arith}
use Rattle.hs_answered.specs.Telling.{Judging}
use Rattle.hs_standing.proofs.AddressedLemmas.{AllAddressed, LinesAsk, lines_addressed, settle_addressed}
use Rattle.hs_standing.specs.Answered.{KeepsRecordRoom, TellTheirBlocks}
use Rattle.hs_cluster.specs.Kept.{AreTold}
use Rattle.hs_core_words.specs.declared.event.Event.{Event}
use Rattle.hs_core_words.specs.Opening.{new_core}
use Rattle.hs_core_words.specs.State.{Core}
use Rattle.hs_core_words.specs.Step.{step}
use Rattle.hs_effects.specs.Logged.{MayBeginAll}
use Rattle.hs_events.specs.Course.{steps}
use Rattle.hs_events.specs.Due.{Events, MomentsRise, is_walk, next_due}
use Rattle.hs_events.specs.Found.{Found, first_core, opens_with}
use Rattle.hs_events.specs.Whole.{open_whole}
use Rattle.hs_journal.specs.Events.{client_op}
use Rattle.hs_limits.specs.declared.address.Address.{Address}
use Rattle.hs_standing.specs.Script.{AreLines, IsNext, Script, all_events}
use Rattle.hs_model.specs.declared.command.Command.{Command}
use Rattle.hs_clauses.proofs.AlongLemmas.{rises_front, rises_rest}
use Rattle.hs_clauses.proofs.FirstLemmas.{Stays, opens_first}
use Rattle.hs_clauses.specs.Along.{AllCome}
use Rattle.hs_clauses.proofs.WholeReadLemmas.{tell_soundly}
use Rattle.hs_clauses.specs.Run.{script_of}
use Rattle.hs_standing.proofs.RunLemmas.{LawsBelow}
use Rattle.hs_standing.specs.Run.{RunBegins}
use Rattle.hs_standing.specs.Standing.{judging_of}
use Rattle.hs_standing.specs.Start.{Start}
use Rattle.hs_told.specs.InTurn.{AllMayCome, IsInTurn, after_all}

-- the laws below, in one place
pub record ScriptLaws : Type 0 where
  pub opening : (commands : ℕ → Option Command) (whole : Bool) (core : Core) (es : Events) (to : ℕ) → client_op (commands 0) ≡ None → core.progress.event_line ≡ 0 → MomentsRise core.moment es to → is_walk next_due whole 0 core es ≡ true → AllMayCome commands core es
  pub first : (commands : ℕ → Option Command) (whole : Bool) (core : Core) (es : Events) → client_op (commands 0) ≡ None → core.progress.event_line ≡ 0 → is_walk next_due whole 0 core es ≡ true → IsNext commands (steps core es) 1
  pub lines : (s : Script) (line : ℕ) (core : Core) (lines : List Events) (to : ℕ) → IsNext s.commands core line → MomentsRise core.moment (all_events lines) to → AreLines s line core lines → AllMayCome s.commands core (all_events lines)
  pub opening_new : (name : List ℕ → Address) (whole : Bool) (core : Core) (es : Events) → is_walk next_due whole 0 core es ≡ true → MayBeginAll name es core
  pub lines_new : (s : Script) (line : ℕ) (core : Core) (lines : List Events) (to : ℕ) → IsInTurn s.commands core → IsNext s.commands core line → MomentsRise core.moment (all_events lines) to → AreLines s line core lines → MayBeginAll s.name (all_events lines) core
  pub turns : (commands : ℕ → Option Command) (core : Core) (es : List (Event × ℕ)) → IsInTurn commands core → AllMayCome commands core es → IsInTurn commands (after_all core es)
  pub asks : (by : Judging) → LinesAsk by

-- ---- events that come

all_come : (by : Judging) (core : Core) (es : Events) → AllMayCome by.commands core es → MayBeginAll by.name es core → AllAddressed by es core → AllCome by core es
all_come by core [] may new addressed = tt
all_come by core (e ∷ es) may new addressed = (
  λ going. record { may = may.0 going; begins = new.0; addressed = addressed.0 },
  all_come by (step e.0 e.1 core) es may.1 new.1 addressed.1,
)

come_append : (by : Judging) (core : Core) (es fs : Events) → AllCome by core es → AllCome by (steps core es) fs → AllCome by core (es ++ fs)
come_append by core [] fs one two = two
come_append by core (e ∷ es) fs one two = (one.0, come_append by (step e.0 e.1 core) es fs one.1 two)

same_steps : (core : Core) (es : Events) → after_all core es ≡ steps core es
same_steps core [] = refl
same_steps core (e ∷ es) = same_steps (step e.0 e.1 core) es

pub script_comes : (laws : ScriptLaws) (start : Start) (past done : Bool) (core : Core) (opening : Events) (lines : List Events) (to : ℕ) → client_op (start.commands 0) ≡ None → core.progress.event_line ≡ 0 → IsInTurn start.commands core
    → MomentsRise core.moment (opening ++ all_events lines) to → is_walk next_due done 0 core opening ≡ true → AreLines (script_of start past) 1 (steps core opening) lines → AllCome (judging_of start) core (opening ++ all_events lines)
script_comes laws start past done core opening lines to nobody none turn rise walks are =
    come_append (judging_of start) core opening (all_events lines)
    (all_come (judging_of start) core opening may (laws.opening_new start.set.name done core opening walks) (settle_addressed (judging_of start) done 0 core opening walks))
    (all_come (judging_of start) (steps core opening) (all_events lines) (laws.lines (script_of start past) 1 (steps core opening) lines to next rest are) new
    (lines_addressed (script_of start past) start.set.limits (laws.asks (judging_of start)) 1 (steps core opening) lines next new are))
  where
    may : AllMayCome start.commands core opening
    may = laws.opening start.commands done core opening to nobody none (rises_front core.moment to opening (all_events lines) rise) walks

    next : IsNext start.commands (steps core opening) 1
    next = laws.first start.commands done core opening nobody none walks

    rest : MomentsRise (steps core opening).moment (all_events lines) to
    rest = rises_rest core core.moment to opening (all_events lines) (omega arith) rise

    new : MayBeginAll start.set.name (all_events lines) (steps core opening)
    new = laws.lines_new (script_of start past) 1 (steps core opening) lines to
        (subst (λ (d : Core). IsInTurn start.commands d) (same_steps core opening) (laws.turns start.commands core opening turn may)) next rest are

-- ---- a script's run, from opening on

module _ (below : LawsBelow) (laws : ScriptLaws) (start : Start) (found : Found) (b : RunBegins start found) (past done : Bool) (opening : Events) (lines : List Events) (to : ℕ)
    (rise : MomentsRise found.opened (opening ++ all_events lines) to) (walks : is_walk next_due done 0 (first_core start.set found) opening ≡ true)
    (are : AreLines (script_of start past) 1 (steps (first_core start.set found) opening) lines) where
  come : AllCome (judging_of start) (first_core start.set found) (opening ++ all_events lines)
  come =
      let first : Stays (new_core start.set.shape start.set.limits (opens_with start.set found) found.opened) (first_core start.set found) = opens_first start.set.shape start.set.limits (opens_with start.set found) found.opened in
      script_comes laws start past done (first_core start.set found) opening lines to b.nobody first.event_line (below.opens start.commands start.set.shape start.set.limits (opens_with start.set found) found.opened b.nobody)
      (subst (λ (m : ℕ). MomentsRise m (opening ++ all_events lines) to) (sym first.moment) rise) walks are

  pub script_tells : KeepsRecordRoom (first_core start.set found) (opening ++ all_events lines) → AreTold (open_whole start.set found) (opening ++ all_events lines)
      → TellTheirBlocks (judging_of start) start.entry (first_core start.set found) (opening ++ all_events lines)
  script_tells room told = tell_soundly below start found (opening ++ all_events lines) b come room told
