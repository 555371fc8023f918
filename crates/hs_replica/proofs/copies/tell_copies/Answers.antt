use Rattle.std.proofs.Common.{rules, arith, ◌∙◌}
use Rattle.hs_replica.proofs.TellLemmas.{tell_next}
use Rattle.hs_replica.proofs.copies.tell_copies.Goals as goal

pub loop-index-preserved : goal.loop-index-preserved
loop-index-preserved c = record {
  told = tell_next c.args.members.now c.args.first c.loop-index.index c.loop-index.copies.items c.index_mut.result.now c.tell.new.self (search rules) (search rules) (search rules) ∙ c.loop-index.invariant.told;
  len = search rules;
}
