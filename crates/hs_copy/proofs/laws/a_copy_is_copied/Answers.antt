use Rattle.hs_copy.proofs.CopiedLemmas.{copied_from}
use Rattle.hs_copy.proofs.laws.a_copy_is_copied.Goals as goal

pub returns : goal.returns
returns c = copied_from
