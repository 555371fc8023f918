use Rattle.hs_answered.proofs.ShownLemmas.{pointers_are, shown}
use Rattle.hs_answered.proofs.shown.views_show_the_store.Goals as goal

pub returns-clause-shown : goal.returns-clause-shown
returns-clause-shown c = λ cs core o folded addressed. shown cs core o folded addressed

pub returns-clause-pointers : goal.returns-clause-pointers
returns-clause-pointers c = λ cs core o a folded addressed looks. pointers_are cs core o folded addressed a looks
