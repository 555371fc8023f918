use Rattle.std.proofs.Common.{◌∙◌, sym, refl}
use Rattle.hs_run.specs.OneLine.{Bad, Blank, Commanded, Unread}
use Rattle.hs_run.proofs.KindLemmas.{bad_said, read_bad, read_none, read_some, unserved_bad}
use Rattle.hs_run.proofs.ReadyLemmas.{blank_ready}
use Rattle.hs_run.proofs.run.Run.begin.Goals as goal

pub returns-in-Err-BadLine-clause-does : goal.returns-in-Err-BadLine-clause-does
returns-in-Err-BadLine-clause-does g c = Bad (bad_said _ (read_bad _ _ c.in-Err-BadLine.field-0-is c.in-Err-BadLine.ensures.exact)) refl refl

pub returns-in-Err-NoMemory-clause-does : goal.returns-in-Err-NoMemory-clause-does
returns-in-Err-NoMemory-clause-does g c = Unread refl refl

pub returns-in-None-clause-does : goal.returns-in-None-clause-does
returns-in-None-clause-does g c = Blank (read_none _ _ c.in-None.is c.in-Ok.ensures.exact) refl refl

pub returns-in-None-clause-ready : goal.returns-in-None-clause-ready
returns-in-None-clause-ready g c = blank_ready g.D.Disk.tells _ c.requires.ready

pub returns-then-not-is_served-clause-does : goal.returns-then-not-is_served-clause-does
returns-then-not-is_served-clause-does g c = Bad (unserved_bad _ c.in-Some.command (read_some _ _ c.in-Some.command c.in-Some.is c.in-Ok.ensures.exact) (sym c.is_served.ensures ∙ c.if-not-is_served.true)) refl refl

pub returns-else-not-is_served-clause-does : goal.returns-else-not-is_served-clause-does
returns-else-not-is_served-clause-does g c = Commanded c.in-Some.command (read_some _ _ c.in-Some.command c.in-Some.is c.in-Ok.ensures.exact) c.run_command.ensures.runs
