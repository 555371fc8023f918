-- Stores in which no address stands for two blocks.
use Rattle.std.specs.List.{IsDistinct}
use Rattle.std.specs.Map.{keys_of}
use Rattle.hs_model.specs.Reach.{is_same}
use Rattle.hs_model.specs.Store.{Store}

-- no present block has the address of one after it
abbrev pub HasDistinctAddresses : Store → Type 0
HasDistinctAddresses s = IsDistinct is_same (keys_of s.blocks)
