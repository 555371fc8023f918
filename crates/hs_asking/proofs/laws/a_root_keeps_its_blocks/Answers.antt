use Rattle.hs_asking.proofs.RootLemmas.{root_stays}
use Rattle.hs_asking.proofs.laws.a_root_keeps_its_blocks.Goals as goal

pub returns-clause-kept : goal.returns-clause-kept
returns-clause-kept c = λ limits s events key root sane legal never kept. (root_stays limits s events key root sane legal never kept).0

pub returns-clause-stays : goal.returns-clause-stays
returns-clause-stays c = λ limits s events key root sane legal never kept. (root_stays limits s events key root sane legal never kept).1
