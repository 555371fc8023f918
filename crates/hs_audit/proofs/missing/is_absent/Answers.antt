use Rattle.std.proofs.Common.{◌∙◌, ap, not}
use Rattle.hs_model.proofs.SetLemmas.{contains_is_among}
use Rattle.hs_audit.proofs.missing.is_absent.Goals as goal

pub returns : goal.returns
returns c = ap not (c.contains.ensures ∙ contains_is_among c.args.present.now.keys c.args.address.now)
