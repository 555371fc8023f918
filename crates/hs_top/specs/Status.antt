-- What the program says of a status.
use Rattle.std.specs.Prelude.{ℕ, List, [], ◌++◌, codes, decimal}
use Rattle.hs_promise.specs.declared.status.Status.{Status}
use Rattle.hs_promise.specs.declared.status.Status.TheVariants as status
use Rattle.hs_script.specs.Text.{refusal_text}

-- the exit status
abbrev pub status_code : Status → ℕ
status_code status.Done = 0
status_code status.Usage = 2
status_code (status.BadLine line) = 3
status_code (status.ShardLost shard) = 4
status_code status.ReadFault = 5
status_code status.WriteFault = 6
status_code status.NoMemory = 7
status_code (status.WrongShape peer found) = 8
status_code (status.Mismatch session place told kept) = 9
status_code status.OpsFull = 10
status_code (status.Torn peer place told kept) = 11
status_code (status.NotEmpty blocks roots) = 12
status_code status.InputFull = 13
status_code (status.Refused reply) = 14
status_code (status.NotATree address) = 15
status_code (status.NoSource peer) = 16
status_code (status.CopyFull blocks) = 17

-- the line on standard error, each behind the program's name
abbrev pub fault_text : Status → List ℕ
fault_text status.Done = []
fault_text status.Usage = codes "hydra: usage: hydra COMMAND DIR G R [words]\n"
fault_text (status.BadLine line) = codes "hydra: line " ++ (decimal line ++ codes " is not in the script language\n")
fault_text (status.ShardLost shard) = codes "hydra: shard " ++ (decimal shard ++ codes " has no good peer\n")
fault_text status.ReadFault = codes "hydra: the input could not be read\n"
fault_text status.WriteFault = codes "hydra: the output could not be written\n"
fault_text status.NoMemory = codes "hydra: out of memory\n"
fault_text (status.WrongShape peer found) = codes "hydra: the disk of peer " ++ (decimal peer ++ codes " is of another store\n")
fault_text (status.Mismatch session place told kept) = codes "hydra: a writer's answer differs from the journal\n"
fault_text status.OpsFull = codes "hydra: the journal is full\n"
fault_text (status.Torn peer place told kept) = codes "hydra: a worker's entries differ from the book\n"
fault_text (status.NotEmpty blocks roots) = codes "hydra: the store is not empty\n"
fault_text status.InputFull = codes "hydra: the input is too long\n"
fault_text (status.Refused reply) = codes "hydra: refused: " ++ (refusal_text reply ++ codes "\n")
fault_text (status.NotATree address) = codes "hydra: the root is not a stored file\n"
fault_text (status.NoSource peer) = codes "hydra: peer " ++ (decimal peer ++ codes " has no log to copy from\n")
fault_text (status.CopyFull blocks) = codes "hydra: the root reaches more than " ++ (decimal blocks ++ codes " blocks\n")
