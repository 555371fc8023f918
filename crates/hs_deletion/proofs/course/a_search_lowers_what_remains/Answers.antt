use Rattle.hs_deletion.proofs.CourseLemmas.{remaining_searched}
use Rattle.hs_deletion.proofs.course.a_search_lowers_what_remains.Goals as goal

pub returns : goal.returns
returns c = record { lowered = λ layout m shard e. rw e (remaining_searched layout m shard) }
