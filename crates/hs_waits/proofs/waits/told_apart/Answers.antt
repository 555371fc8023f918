use Rattle.std.proofs.Common.{refl, sym, ◌∙◌}
use Rattle.std.proofs.lemmas.Map.Text.{is_eq-slice_cmp}
use Rattle.std.specs.Cmp.{tied_then, unsigned_tied}
use Rattle.std.specs.Cmp.Lexicographic.{slice_cmp}
use Rattle.std.specs.Ordering.{nat_cmp}
use Rattle.hs_waits.specs.declared.cause.Cause.TheVariants.{View, BlockRoom, RootRoom, Block, Other}
use Rattle.hs_waits.proofs.waits.told_apart.Goals as goal

pub returns : goal.returns
returns c (View s) (View t) = unsigned_tied s t
returns c (BlockRoom s) (BlockRoom t) = unsigned_tied s t
returns c (RootRoom s) (RootRoom t) = unsigned_tied s t
returns c (Block s a) (Block t b) = sym (tied_then (nat_cmp s t) (slice_cmp nat_cmp a.0 b.0)) ∙ rw (unsigned_tied s t, is_eq-slice_cmp a.0 b.0) refl
returns c (Other s) (Other t) = unsigned_tied s t
returns c a b = refl
