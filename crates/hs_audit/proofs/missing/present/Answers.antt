use Rattle.std.proofs.Common.{arith}
use Rattle.std.proofs.lemmas.Grind.{common_steps}
use Rattle.hs_audit.proofs.MissingLemmas.{one_present}
use Rattle.hs_audit.proofs.missing.present.Goals as goal

pub loop-block-preserved : goal.loop-block-preserved
loop-block-preserved c =
    one_present c.loop-block.set.keys c.insert.new.self.keys c.args.blocks.now c.loop-block.block-index c.block-item.result (omega arith) (grind (arith, common_steps)) c.in_ok-insert.ensures.updates.0 c.loop-block.invariant
