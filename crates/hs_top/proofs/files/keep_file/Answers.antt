use Rattle.hs_top.proofs.files.keep_file.Goals as goal

pub returns-clause-stores : goal.returns-clause-stores
returns-clause-stores g c = λ sink. record {
  stores = c.run_store.ensures.stores sink;
  plainly = λ told one sound. c.a_file_is_kept.ensures.store _ _ _ _ told one (g.A.Addresser.sized c.args.naming.now) sound (c.run_store.ensures.stores sink);
  whole = λ told one sound. c.a_key_is_kept_whole.ensures _ _ _ _ told one (g.A.Addresser.sized c.args.naming.now) sound (c.run_store.ensures.stores sink);
}
