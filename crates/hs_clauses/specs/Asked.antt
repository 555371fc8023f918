-- A script as its lines see it, and how a run of it begins.
use Rattle.hs_standing.specs.Script.{Script as Lined}
use Rattle.hs_promise.specs.Ending.{ending_of}
use Rattle.hs_promise.specs.Entry.{entry_store}
use Rattle.hs_promise.specs.Run.{Ran, Script}
use Rattle.hs_standing.specs.Start.{Start}

-- the script of a run as its lines see it
abbrev pub lined : Script → Ran → Lined
lined S r = record { name = S.set.name; commands = S.commands; past = (ending_of r.ending).past }

-- how a run begins: at the store at entry
abbrev pub start_of : Script → Ran → Start
start_of S r = record { set = S.set; commands = S.commands; entry = entry_store S r }
