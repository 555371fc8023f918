-- The plain store that catalogues in memory give, shard by shard.
use Rattle.std.specs.Prelude.{ℕ, ◌+◌, List, [], ◌∷◌}
use Rattle.hs_fold.specs.Runs.Facts.{Catalogue as Folded}
use Rattle.hs_limits.specs.declared.shape.Shape.{Shape}
use Rattle.hs_memory.specs.Forget.{forget}
use Rattle.hs_model.specs.Store.{Store}
use Rattle.hs_shard.specs.Plain.{add_shard}

-- some folds, from a shard on, as memory has them, put into a plain store one after another
abbrev pub add_folds : Shape → ℕ → List Folded → Store → Store
add_folds shape shard [] s = s
add_folds shape shard (c ∷ cs) s = add_folds shape (shard + 1) cs (add_shard (forget shape shard c) s)
