-- How a run stops, and which status that is.
use Rattle.std.specs.Prelude.{Err, Ok, Result, ℕ, ⊤, ◌+◌}
use Rattle.hs_cluster.specs.declared.fault.ClusterFault.{ClusterFault}
use Rattle.hs_cluster.specs.declared.fault.ClusterFault.TheVariants as cluster
use Rattle.hs_promise.specs.declared.status.Status.{Status}
use Rattle.hs_promise.specs.declared.status.Status.TheVariants as status
use Rattle.hs_run.specs.declared.stop.Stop.{Stop}
use Rattle.hs_run.specs.declared.stop.Stop.TheVariants as stop

-- the stop that a fault of the cluster is
abbrev pub of_cluster : ClusterFault → Stop
of_cluster (cluster.WrongShape peer found) = stop.WrongShape peer found
of_cluster (cluster.ShardLost shard) = stop.ShardLost shard
of_cluster cluster.OpsFull = stop.OpsFull
of_cluster cluster.NoMemory = stop.NoMemory

-- what was done came so far, and was then put so far: a text that was not put whole comes first
abbrev pub end_of : Result ⊤ ClusterFault → Result ⊤ Stop → Result ⊤ Stop
end_of did (Err halt) = Err halt
end_of (Ok x) (Ok y) = Ok tt
end_of (Err fault) (Ok y) = Err (of_cluster fault)

-- the status of a run that stopped behind a line, or came to its end
abbrev pub status_of : Result ⊤ Stop → ℕ → Status
status_of (Ok x) line = status.Done
status_of (Err (stop.WrongShape peer found)) line = status.WrongShape peer found
status_of (Err (stop.ShardLost shard)) line = status.ShardLost shard
status_of (Err stop.BadLine) line = status.BadLine (line + 1)
status_of (Err stop.ReadFault) line = status.ReadFault
status_of (Err stop.WriteFault) line = status.WriteFault
status_of (Err stop.NoMemory) line = status.NoMemory
status_of (Err stop.OpsFull) line = status.OpsFull
status_of (Err stop.InputFull) line = status.InputFull

-- a text is not put whole only where the sink failed or memory was wanting
abbrev pub IsPutStop : Stop → Type 0
IsPutStop (stop.WrongShape peer found) = ⊥
IsPutStop (stop.ShardLost shard) = ⊥
IsPutStop stop.BadLine = ⊥
IsPutStop stop.ReadFault = ⊥
IsPutStop stop.WriteFault = ⊤
IsPutStop stop.NoMemory = ⊤
IsPutStop stop.OpsFull = ⊥
IsPutStop stop.InputFull = ⊥
