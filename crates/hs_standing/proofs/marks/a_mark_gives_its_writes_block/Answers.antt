use Rattle.hs_standing.proofs.ToldLemmas.{is_written}
use Rattle.hs_standing.proofs.marks.a_mark_gives_its_writes_block.Goals as goal

pub returns : goal.returns
returns c = λ name cs core folded order its shard number line least block a low leads did. is_written name cs core folded order its shard number line least block a low leads did
