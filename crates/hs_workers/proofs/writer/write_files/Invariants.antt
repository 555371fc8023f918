use Rattle.hs_script.specs.Loads.{writer_of}
use Rattle.hs_workers.specs.Stages.{stage_told}
use Rattle.hs_workers.proofs.AskLemmas.{Stands}
use Rattle.hs_workers.proofs.writer.write_files.Given as goal

abbrev pub invariant-loop : goal.invariant-loop
invariant-loop g l =
    let noted = g.B.Pass.Pass.noted in
    Stands (writer_of (g.A.Addresser.name l.naming) l.seed l.writer l.files) (noted l.fn.pass) (noted l.pass) (stage_told l.stage)
