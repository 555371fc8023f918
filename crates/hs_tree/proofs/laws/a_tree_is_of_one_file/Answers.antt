use Rattle.hs_tree.proofs.OneFileLemmas.{one_file}
use Rattle.hs_tree.proofs.laws.a_tree_is_of_one_file.Goals as goal

pub returns : goal.returns
returns c = one_file
