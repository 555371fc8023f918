-- That a store has nothing but what its retained roots reach.
use Rattle.std.specs.Prelude.{List, filter, is_none, map}
use Rattle.hs_limits.specs.declared.address.Address.{Address}
use Rattle.hs_model.specs.Listed.{IsPresent}
use Rattle.hs_model.specs.Reach.{IsReached}
use Rattle.hs_model.specs.Store.{Store}

-- what the retained roots keep
abbrev pub kept_addresses : Store → List Address
kept_addresses s = map (λ root. root.address) (filter (λ root. is_none root.dropped) s.roots)

-- each present block is reached from them
abbrev pub EachIsReached : Store → Type 0
EachIsReached s = (a : Address) → IsPresent s a → IsReached s (kept_addresses s) a
