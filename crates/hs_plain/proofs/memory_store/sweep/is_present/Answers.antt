use Rattle.std.proofs.Common.{◌∙◌}
use Rattle.std.proofs.lemmas.Map.Made.{is_some-lookup}
use Rattle.std.specs.BTreeMap.{is_at}
use Rattle.std.specs.Map.{keys_of}
use Rattle.hs_model.specs.Store.{address_cmp}
use Rattle.hs_model.proofs.SetLemmas.{contains_is_among}
use Rattle.hs_plain.proofs.memory_store.sweep.is_present.Goals as goal

pub returns : goal.returns
returns c =
    c.contains_key.ensures ∙ is_some-lookup (is_at (address_cmp c.args.address.now)) c.args.blocks.now.entries ∙ contains_is_among (keys_of c.args.blocks.now.entries) c.args.address.now
