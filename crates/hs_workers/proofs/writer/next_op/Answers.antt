use Rattle.std.proofs.Common.{refl, rules}
use Rattle.hs_script.specs.Loads.{writer_of}
use Rattle.hs_workers.proofs.writer.next_op.Goals as goal

pub returns-in_ok-block_op-in-Writing-clause-value : goal.returns-in_ok-block_op-in-Writing-clause-value
returns-in_ok-block_op-in-Writing-clause-value g c =
    let h = c.in_ok-block_op-in-Writing.ensures.value (writer_of (g.A.Addresser.name c.args.naming.now) c.args.seed c.args.writer c.args.files) refl c.requires in search rules
