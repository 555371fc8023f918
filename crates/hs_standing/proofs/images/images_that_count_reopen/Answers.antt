use Rattle.hs_standing.specs.Stands.{StandsWhereGood}
use Rattle.hs_standing.proofs.ImageLemmas.{images_along, images_reopen}
use Rattle.hs_standing.proofs.images.images_that_count_reopen.Goals as goal

pub returns-clause-reopens : goal.returns-clause-reopens
returns-clause-reopens c = λ machine start stop journal images shape one peers at good. images_reopen machine (StandsWhereGood machine start stop) start stop journal shape one peers at at.tells.sane images good

pub returns-clause-again : goal.returns-clause-again
returns-clause-again c = λ machine start stop journal images shape one peers at good. images_along machine (StandsWhereGood machine start stop) start stop journal shape one peers at at.tells.sane images good
