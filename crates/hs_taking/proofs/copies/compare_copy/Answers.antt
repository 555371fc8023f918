use Rattle.std.proofs.Common.{◌∙◌, sym}
use Rattle.hs_taking.proofs.copies.compare_copy.Goals as goal

pub compare_at-requires-clause-other : goal.compare_at-requires-clause-other
compare_at-requires-clause-other g c = c.requires.viewed c.in-Viewed.other (sym c.replace.ensures.value ∙ c.in-Viewed.is)
