-- What is sealed of a peer's list.
use Rattle.std.specs.Prelude.{ℕ, take}
use Rattle.hs_events.specs.Whole.{Whole, floor, reach}
use Rattle.hs_fold.specs.Shards.Setting.{Numbered}

-- how much of a peer's list is on its disk at least: what it has sealed
abbrev pub sealed_front : Whole → ℕ → Numbered
sealed_front c peer = take (floor c peer) (reach c peer)
