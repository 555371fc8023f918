use Rattle.hs_limits.proofs.ReadingLemmas.{spelling_begins_none}
use Rattle.hs_block.proofs.block.no_spelling_begins_another.Goals as goal

pub returns : goal.returns
returns c = λ a b rest bounds_a addressed_a bounds_b addressed_b e. spelling_begins_none a b rest bounds_a addressed_a bounds_b addressed_b e
