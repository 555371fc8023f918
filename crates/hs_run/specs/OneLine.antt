-- What one line of a script does to a run.
use Rattle.std.specs.Prelude.{Err, IfErr, List, Ok, Option, Result, drop, length, true, ℕ, ⊤, ◌+◌, ◌<◌, ◌≡◌}
use Rattle.hs_cluster.specs.Calls.{RunsLine}
use Rattle.hs_cluster.specs.declared.fault.ClusterFault.{ClusterFault}
use Rattle.hs_cluster.specs.Disks.{stands_of}
use Rattle.hs_cluster.specs.Kept.{Shows}
use Rattle.hs_cluster.specs.Running.{Running}
use Rattle.hs_events.specs.Commands.{is_served}
use Rattle.hs_limits.specs.declared.address.Address.{Address}
use Rattle.hs_model.specs.declared.command.Command.{Command}
use Rattle.hs_moments.specs.Moments.{Since}
use Rattle.hs_script.specs.Reading.{Reading, blank, says}
use Rattle.hs_script.specs.Scripts.{is_bad}
use Rattle.hs_script.specs.Text.{text}
use Rattle.hs_run.specs.declared.stop.Stop.{Stop}
use Rattle.hs_run.specs.declared.stop.Stop.TheVariants as stop
use Rattle.hs_run.specs.Between.{Point, span_of}
use Rattle.hs_run.specs.Puts.{Puts}
use Rattle.hs_run.specs.Stopping.{IsPutStop, end_of}

-- from one point of a run to another, with what it came to
pub record Stretch : Type 0 where
  pub old : Point
  pub new : Point
  pub result : Result ⊤ Stop

-- the cluster ran a command up to a moment, and then what was answered was put
pub record RunsCommand (tells : Type 0) (name : List ℕ → Address) (asked : Command) (part : Stretch) : Type 0 where
  pub mid : ℕ
  pub did : Result ⊤ ClusterFault
  pub put : Result ⊤ Stop
  pub served : is_served asked ≡ true
  pub line : part.new.line ≡ part.old.line + 1
  pub runs : RunsLine name (part.old.line + 1) asked part.old.now mid part.old.cluster part.new.cluster did (Shows tells (span_of part.old mid part.new) did)
  pub puts : Puts mid part.new.now (text (drop (length part.old.cluster.core.journal) part.new.cluster.core.journal)) part.old.got part.new.got put
  pub only : IfErr put IsPutStop
  pub ended : part.result ≡ end_of did put
  pub some : put ≡ Err stop.WriteFault → 0 < length (text (drop (length part.old.cluster.core.journal) part.new.cluster.core.journal))
  pub since : tells → Since (stands_of part.new.disks)

-- from one moment to another, with what a sink had got, and has
pub record Printing : Type 0 where
  pub before : ℕ
  pub now : ℕ
  pub old : Option (List (ℕ × ℕ))
  pub new : Option (List (ℕ × ℕ))

-- what opening has answered was put; an opening that did not come to its end stops the run
pub record IsOpeningPut (did : Result ⊤ ClusterFault) (cluster : Running) (part : Printing) (result : Result ⊤ Stop) : Type 0 where
  pub put : Result ⊤ Stop
  pub puts : Puts part.before part.now (text cluster.core.journal) part.old part.new put
  pub only : IfErr put IsPutStop
  pub ended : result ≡ end_of did put
  pub some : put ≡ Err stop.WriteFault → 0 < length (text cluster.core.journal)

-- a line, by what it says: a bad one and one that could not be read for want of memory leave all as it was; one that says nothing is gone past
pub data DoesLine (tells : Type 0) (name : List ℕ → Address) (said : Reading) (part : Stretch) : Type 0 where
  Bad : is_bad said ≡ true → part.new ≡ part.old → part.result ≡ Err stop.BadLine → DoesLine tells name said part
  Unread : part.new ≡ part.old → part.result ≡ Err stop.NoMemory → DoesLine tells name said part
  Blank : said ≡ blank → part.new ≡ record part.old { line = part.old.line + 1 } → part.result ≡ Ok tt → DoesLine tells name said part
  Commanded : (asked : Command) → said ≡ says asked → RunsCommand tells name asked part → DoesLine tells name said part
