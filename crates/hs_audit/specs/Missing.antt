-- What the retained roots of a store reach that is not there.
use Rattle.std.specs.BTreeSet.{insert_key}
use Rattle.std.specs.Prelude.{List, [], ◌∷◌, filter, is_none, map}
use Rattle.hs_limits.specs.declared.address.Address.{Address}
use Rattle.hs_model.specs.Reach.{reached_from}
use Rattle.hs_model.specs.Store.{Store, address_cmp, block_at}

-- some addresses ascending, each once
abbrev pub ascending : List Address → List Address
ascending [] = []
ascending (a ∷ rest) = insert_key address_cmp (ascending rest) a

-- the addresses of the roots that are not dropped
abbrev pub kept_by_roots : Store → List Address
kept_by_roots s = map (λ root. root.address) (filter (λ root. is_none root.dropped) s.roots)

-- the addresses, ascending and each once, that a root which is not dropped reaches and that are not present
unfoldable pub missing : Store → List Address
missing s = ascending (filter (λ a. is_none (block_at s a)) (reached_from s (kept_by_roots s)))
