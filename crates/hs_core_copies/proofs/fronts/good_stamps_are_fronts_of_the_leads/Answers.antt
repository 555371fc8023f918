use Rattle.hs_core_copies.proofs.RunLemmas.{front_in_step, stamps_in_step}
use Rattle.hs_core_copies.proofs.fronts.good_stamps_are_fronts_of_the_leads.Goals as goal

pub returns : goal.returns
returns c = record {
  stamps = λ shard core copies st peer lead own good leads. stamps_in_step shard core copies st peer lead own good leads;
  effects = λ shard core copies st peer own good. front_in_step shard core copies st peer own good;
}
