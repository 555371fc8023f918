use Rattle.hs_top.proofs.files.copy_key.Goals as goal

pub returns-clause-copies : goal.returns-clause-copies
returns-clause-copies g c = λ source. record {
  copies = c.run_copy.ensures.copies source;
  plainly = λ told one each sound. c.a_root_is_copied.ensures _ _ _ _ _ told one each (g.A.Addresser.sized c.args.naming.now) sound (c.run_copy.ensures.copies source);
  stays = λ told one sound. c.a_copied_store_stays.ensures _ _ _ _ _ told one (g.A.Addresser.sized c.args.naming.now) sound (c.run_copy.ensures.copies source);
}
