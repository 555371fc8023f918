use Rattle.hs_deeds.proofs.BareLemmas.{bare_is}
use Rattle.hs_deeds.proofs.GoOnLemmas.{tells_nothing, tells_on}
use Rattle.hs_deeds.specs.On.{AreUnanswered, Whatever}
use Rattle.hs_deeds.proofs.history.deeds_go_on.Goals as goal

pub returns-clause-bare : goal.returns-clause-bare
returns-clause-bare c = λ core cs folded. bare_is core cs folded

pub returns-clause-opens : goal.returns-clause-opens
returns-clause-opens c = λ limits core none. tells_nothing limits core none

pub returns-clause-goes : goal.returns-clause-goes
returns-clause-goes c = λ limits start cs behind old new folded later on its. tells_on Whatever limits start cs behind old new folded later on tt its

pub returns-clause-line : goal.returns-clause-line
returns-clause-line c = λ limits start cs behind old new folded later on known its. tells_on (AreUnanswered old) limits start cs behind old new folded later on known its
