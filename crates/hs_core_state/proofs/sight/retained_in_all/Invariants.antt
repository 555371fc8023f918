use Rattle.std.proofs.Common.{◌≡◌, ◌≤◌, ◌*◌, take}
use Rattle.std.specs.Prelude.{sum_by}
use Rattle.hs_roots.specs.Roots.{retained_count}
use Rattle.hs_core_state.proofs.sight.retained_in_all.Given as goal

abbrev pub invariant-loop-catalogue : goal.invariant-loop-catalogue
invariant-loop-catalogue l = record {
  sum : l.sum ≡ sum_by (λ c. retained_count c.roots) (take l.catalogue-index l.catalogues);
  fits : l.sum ≤ l.catalogue-index * 4294967296;
}
