use Rattle.hs_standing.proofs.ReopenLemmas.{reopens_there}
use Rattle.hs_standing.proofs.reopening.what_stands_reopens.Goals as goal

pub returns : goal.returns
returns c = λ start stop journal images whole shape one peers at stands begun good. reopens_there start stop journal images whole c.no_line_waits_twice.ensures shape one peers at stands begun good
