use Rattle.std.proofs.Common.{◌∙◌}
use Rattle.hs_model.proofs.SetLemmas.{contains_is_among}
use Rattle.hs_load.proofs.reaching.has.Goals as goal

pub returns : goal.returns
returns c = c.contains.ensures ∙ contains_is_among c.args.seen.now.keys c.args.address.now
