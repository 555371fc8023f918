use Rattle.hs_asking.proofs.AskLemmas.{ask_judged}
use Rattle.hs_asking.proofs.NamedLemmas.{answers_named}
use Rattle.hs_asking.proofs.SaneLemmas.{answers_sane}
use Rattle.hs_asking.proofs.laws.an_ask_is_judged.Goals as goal

pub returns-clause-judged : goal.returns-clause-judged
returns-clause-judged g c = ask_judged

pub returns-clause-sane : goal.returns-clause-sane
returns-clause-sane g c = answers_sane

pub returns-clause-named : goal.returns-clause-named
returns-clause-named g c = answers_named
