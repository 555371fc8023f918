use Rattle.hs_tails.proofs.BehindLemmas.{first_taken, other_taken}
use Rattle.hs_tails.proofs.tails.each_tail_rests_behind_an_entry.Goals as goal

pub returns-clause-first : goal.returns-clause-first
returns-clause-first c = λ set cs shard front entry rest shape may t. first_taken set shape cs shard front entry may rest t

pub returns-clause-other : goal.returns-clause-other
returns-clause-other c = λ set cs shard front entry another at_front tail shape may t apart. other_taken set shape cs shard front entry may another at_front tail t apart
