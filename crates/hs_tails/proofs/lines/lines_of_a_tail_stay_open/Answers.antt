use Rattle.hs_tails.proofs.LineLemmas.{lines_on}
use Rattle.hs_tails.proofs.lines.lines_of_a_tail_stay_open.Goals as goal

pub returns : goal.returns
returns c = λ begun event old new shard tail x fresh none t. lines_on old new x fresh shard tail none t
