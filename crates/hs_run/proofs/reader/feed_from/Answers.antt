use Rattle.std.proofs.lemmas.List.{take_rest}
use Rattle.hs_run.proofs.FeedLemmas.{feed_found, no_feed_found}
use Rattle.hs_run.proofs.reader.feed_from.Goals as goal

pub returns-in-Some-clause-found : goal.returns-in-Some-clause-found
returns-in-Some-clause-found c = feed_found _ _ _ (rw (c.in-Some.is, take_rest c.args.bytes.now c.args.from) at c.memchr.ensures)

pub returns-in-None-clause-none : goal.returns-in-None-clause-none
returns-in-None-clause-none c = no_feed_found _ _ (rw (c.in-None.is, take_rest c.args.bytes.now c.args.from) at c.memchr.ensures)
