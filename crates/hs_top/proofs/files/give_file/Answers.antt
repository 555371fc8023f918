use Rattle.hs_top.proofs.files.give_file.Goals as goal

pub returns-clause-fetches : goal.returns-clause-fetches
returns-clause-fetches g c = λ source. record {
  fetches = c.run_fetch.ensures.fetches source;
  plainly = λ told one sound. c.a_file_is_kept.ensures.fetch _ _ _ _ told one (g.A.Addresser.sized c.args.naming.now) sound (c.run_fetch.ensures.fetches source);
}
