use Rattle.hs_tree.proofs.LevelLemmas.{last_level, levels_are}
use Rattle.hs_tree.proofs.laws.a_tree_is_its_levels.Goals as goal

pub returns-clause-levels : goal.returns-clause-levels
returns-clause-levels c = levels_are

pub returns-clause-top : goal.returns-clause-top
returns-clause-top c = last_level
