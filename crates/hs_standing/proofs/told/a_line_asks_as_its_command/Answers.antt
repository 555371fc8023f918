use Rattle.hs_standing.proofs.AskedLemmas.{line_comes}
use Rattle.hs_standing.proofs.told.a_line_asks_as_its_command.Goals as goal

pub returns : goal.returns
returns c = line_comes
