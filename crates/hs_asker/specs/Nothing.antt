-- With what nobody's asker began.
use Rattle.std.specs.Prelude.{[], replicate}
use Rattle.hs_limits.specs.Limits.{greatest_limits}
use Rattle.hs_asker.specs.Going.{AtEntry}

abbrev pub nothing : AtEntry
nothing = record { set = record { name = λ bytes. record { 0 = replicate 32 0 }; limits = greatest_limits; shape = record { shards = 1; copies = 1 } }; moment = 0; disks = [] }
