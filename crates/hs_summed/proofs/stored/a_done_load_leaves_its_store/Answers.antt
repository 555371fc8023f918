use Rattle.hs_load.specs.Loaded.{close_of, handed_of, load_of}
use Rattle.hs_summed.proofs.StoreLemmas.{store_left}
use Rattle.hs_summed.proofs.SumLemmas.{load_done}
use Rattle.hs_summed.proofs.stored.a_done_load_leaves_its_store.Goals as goal

pub returns : goal.returns
returns g c = λ name shape seed writers files r loaded. record {
  loaded = loaded;
  fits = c.a_load_begins_its_last_lines.ensures name shape seed writers files r loaded;
  store = λ done.
      store_left c.a_history_is_its_deeds.ensures.lines c.catalogues_in_memory_are_folds.ensures.list _ (load_of name shape seed writers files) r.old.moment loaded.old loaded.new (handed_of r) (close_of r)
      (load_done _ (load_of name shape seed writers files) (handed_of r) (close_of r) done r.old.moment loaded.old loaded.new loaded.ends);
}
