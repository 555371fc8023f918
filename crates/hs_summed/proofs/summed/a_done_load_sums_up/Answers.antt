use Rattle.hs_load.specs.Loaded.{close_of, handed_of, load_of}
use Rattle.hs_summed.proofs.SumLemmas.{load_done, sums_up}
use Rattle.hs_summed.proofs.summed.a_done_load_sums_up.Goals as goal

pub returns : goal.returns
returns g c = λ name shape seed writers files r loaded done.
    sums_up _ (load_of name shape seed writers files) r.old.moment loaded.old loaded.new (handed_of r) (close_of r)
    (load_done _ (load_of name shape seed writers files) (handed_of r) (close_of r) done r.old.moment loaded.old loaded.new loaded.ends)
