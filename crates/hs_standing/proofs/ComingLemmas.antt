-- An event that may come, and begins as its line asks, may come to a core that stands.
use Rattle.std.proofs.Common.{◌≡◌, ℕ, Option, Some, None, refl}
use Rattle.std.specs.Option.{option_map}
use Rattle.hs_answered.specs.Telling.{Judging}
use Rattle.hs_core_words.specs.declared.event.Event.{Event}
use Rattle.hs_core_words.specs.declared.event.Event.TheVariants as event
use Rattle.hs_core_words.specs.State.{Core}
use Rattle.hs_effects.specs.Logged.{MayBegin}
use Rattle.hs_journal.specs.Events.{client_op}
use Rattle.hs_standing.specs.Coming.{ComesAddressed, ReportsBlocks}
use Rattle.hs_standing.specs.Commands.{IsLineOf}
use Rattle.hs_standing.specs.Legal.{MayStand}
use Rattle.hs_model.specs.declared.op.Op.{Op}
use Rattle.hs_model.specs.Store.{Store}
use Rattle.hs_told.specs.InTurn.{MayCome, bare}

pub may_stand : (by : Judging) (start : Store) (core : Core) (e : Event) (moment : ℕ) → MayCome by.commands core e moment → MayBegin by.name e core → ComesAddressed by e core → ReportsBlocks by start e core → MayStand by start e core
may_stand by start core (event.Line line o) moment may fresh addressed reports = by_command (client_op (by.commands line)) refl may.begins.asks
  where
    by_command : (x : Option Op) → client_op (by.commands line) ≡ x → option_map bare x ≡ Some (bare o) → IsLineOf by core line o
    by_command None e asks = absurd (cc asks)
    by_command (Some said) e asks = record { fresh = fresh; says = record { said = said; asks = e; same = λ cs. addressed said cs e } }
may_stand by start core (event.Report peer d) moment may fresh addressed reports = reports
may_stand by start core (event.Turn line peer) moment may fresh addressed reports = may.begins.nobody
may_stand by start core (event.Deliver line number) moment may fresh addressed reports = may.begins.nobody
may_stand by start core (event.Lose line number) moment may fresh addressed reports = may.begins.nobody
may_stand by start core (event.Repeat line number) moment may fresh addressed reports = may.begins.nobody
may_stand by start core (event.Nudge line peer) moment may fresh addressed reports = may.begins.nobody
may_stand by start core (event.Fail line peer) moment may fresh addressed reports = may.begins.nobody
may_stand by start core (event.Start line peer) moment may fresh addressed reports = may.begins.nobody
