use Rattle.std.proofs.Common.{◌∙◌}
use Rattle.hs_entry.proofs.ListLemmas.{prefix_where}
use Rattle.hs_entry.proofs.list.EntryList.is_prefix_of.Goals as goal

pub returns : goal.returns
returns c =
    prefix_where c.args.self.now c.args.other.now c.as_slice-2.result.now c.as_slice.result.now c.begins.result (c.as_slice-2.ensures ∙ c.self.view_is) (c.as_slice.ensures ∙ c.other.view_is) c.begins.ensures
