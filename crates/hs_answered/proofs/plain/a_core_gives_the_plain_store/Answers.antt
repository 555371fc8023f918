use Rattle.hs_core_words.specs.Looking.{shape_of}
use Rattle.hs_answered.proofs.PlainLemmas.{opened_is, plain_is}
use Rattle.hs_answered.proofs.plain.a_core_gives_the_plain_store.Goals as goal

pub returns-clause-folded : goal.returns-clause-folded
returns-clause-folded c = λ cs core folded. plain_is (shape_of core) core cs folded.own folded.catalogues

pub returns-clause-opened : goal.returns-clause-opened
returns-clause-opened c = λ set lists core is. opened_is set lists core is
