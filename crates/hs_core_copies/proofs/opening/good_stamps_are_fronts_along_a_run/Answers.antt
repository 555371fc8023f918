use Rattle.hs_core_copies.proofs.OpeningLemmas.{front_in_run, stamps_in_run}
use Rattle.hs_core_copies.proofs.opening.good_stamps_are_fronts_along_a_run.Goals as goal

pub returns : goal.returns
returns c = record {
  stamps = λ shape limits taken moment shard log events core may is on peer lead own good leads.
      stamps_in_run shape limits taken moment shard log events core may is on peer lead own good leads;
  effects = λ shape limits taken moment shard log events core may is on peer own good.
      front_in_run shape limits taken moment shard log events core may is on peer own good;
}
