use Rattle.hs_settled.proofs.MachineLemmas.{OfMachines, core_follows}
use Rattle.hs_settled.proofs.machine.a_core_counts_right.Goals as goal

pub returns : goal.returns
returns c = λ by start core cs some its.
    let laws : OfMachines = record {
      joined = c.folds_follow_the_machine.ensures.joined;
      counts = c.counts_of_catalogues_are_right.ensures.counts;
      none = c.no_reached_block_is_a_wrong_zero.ensures.none;
      found = c.each_unreached_block_is_found.ensures.found;
    } in
    core_follows laws by start core cs some its
