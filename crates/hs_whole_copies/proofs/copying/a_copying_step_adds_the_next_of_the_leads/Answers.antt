use Rattle.hs_whole_copies.proofs.CopiedLemmas.{next_copied}
use Rattle.hs_whole_copies.proofs.copying.a_copying_step_adds_the_next_of_the_leads.Goals as goal

pub returns : goal.returns
returns c = λ shard c copies peer from number k own first. next_copied shard c copies k peer from number own first
