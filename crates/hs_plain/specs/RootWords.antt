-- What the store in memory looks up among its roots, and how it keeps them.
use Rattle.std.specs.Prelude.{ℕ, List, [], ◌∷◌, ◌++◌, Option, Some, None, find, map}
use Rattle.std.specs.Option.{option_map}
use Rattle.hs_limits.specs.declared.address.Address.{Address}
use Rattle.hs_plain.specs.declared.roots.DroppedRoot.{DroppedRoot}
use Rattle.hs_model.specs.Judge.{drop_root, roots_with}
use Rattle.hs_model.specs.Store.{Root, is_retained, place_root}

-- the address that a key retains
abbrev pub retained_address : List Root → List ℕ → Option Address
retained_address roots key = option_map (λ root. root.address) (find (is_retained key) roots)

-- the roots where a key retains an address, unless it retains one already
abbrev pub keeping : List Root → List ℕ → Address → List Root
keeping roots key address = roots_with (find (is_retained key) roots) roots (record { key = key; address = address; dropped = None })

-- the roots with the retained one of a key dropped in an epoch
abbrev pub dropping : List Root → List ℕ → ℕ → List Root
dropping roots key epoch = drop_root (find (is_retained key) roots) roots key epoch

-- ---- roots that are kept in two parts

-- a key that retains an address
abbrev pub kept_root : List ℕ × Address → Root
kept_root e = record { key = e.0; address = e.1; dropped = None }

-- a root that was dropped
abbrev pub gone_root : DroppedRoot → Root
gone_root root = record { key = root.key; address = root.address; dropped = Some root.epoch }

-- roots, each at its place
abbrev pub in_place : List Root → List Root
in_place [] = []
in_place (root ∷ roots) = place_root root (in_place roots)

-- what keys retain and what was dropped, in the order of roots
abbrev pub roots_of : List (List ℕ × Address) → List DroppedRoot → List Root
roots_of kept gone = in_place (map kept_root kept ++ map gone_root gone)
