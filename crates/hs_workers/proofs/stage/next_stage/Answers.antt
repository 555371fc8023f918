use Rattle.std.proofs.Common.{refl, rules}
use Rattle.hs_script.specs.Loads.{writer_of}
use Rattle.hs_workers.proofs.stage.next_stage.Goals as goal

pub returns-in-New : goal.returns-in-New
returns-in-New g c files =
    let h = c.behind_block.ensures (writer_of (g.A.Addresser.name c.args.naming.now) c.args.seed c.args.writer files) refl in search rules
