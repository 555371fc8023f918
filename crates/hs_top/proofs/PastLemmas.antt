-- A run that opened no core did not go past its opening.
use Rattle.std.proofs.Common.{◌≡◌, inl, inr, true, arith}
use Rattle.hs_promise.specs.declared.status.Status.{Status}
use Rattle.hs_promise.specs.declared.status.Status.TheVariants as status
use Rattle.hs_promise.specs.Ending.{ending_of}
use Rattle.hs_promise.specs.Lost.{IsPast}
use Rattle.hs_promise.specs.Machine.{NeverOpened}
use Rattle.hs_promise.specs.Run.{Ran}

closed_past : (st : Status) → (ending_of st).closed ≡ true → (ending_of st).past ≡ true → ⊥
closed_past status.Usage e p = cc p
closed_past (status.WrongShape peer found) e p = cc p
closed_past status.Done e p = cc e
closed_past (status.BadLine line) e p = cc e
closed_past (status.ShardLost shard) e p = cc e
closed_past status.ReadFault e p = cc e
closed_past status.WriteFault e p = cc e
closed_past status.NoMemory e p = cc e
closed_past status.OpsFull e p = cc e
closed_past status.InputFull e p = cc e
closed_past (status.Mismatch session place told kept) e p = cc e
closed_past (status.Torn peer place told kept) e p = cc e
closed_past (status.NotEmpty blocks roots) e p = cc e
closed_past (status.Refused reply) e p = cc e
closed_past (status.NotATree address) e p = cc e
closed_past (status.NoSource peer) e p = cc p
closed_past (status.CopyFull blocks) e p = cc e

pub wanting_past : (st : Status) → (ending_of st).wanting ≡ true → (ending_of st).past ≡ true → ⊥
wanting_past status.NoMemory e p = cc p
wanting_past status.Usage e p = cc e
wanting_past (status.WrongShape peer found) e p = cc e
wanting_past status.Done e p = cc e
wanting_past (status.BadLine line) e p = cc e
wanting_past (status.ShardLost shard) e p = cc e
wanting_past status.ReadFault e p = cc e
wanting_past status.WriteFault e p = cc e
wanting_past status.OpsFull e p = cc e
wanting_past status.InputFull e p = cc e
wanting_past (status.Mismatch session place told kept) e p = cc e
wanting_past (status.Torn peer place told kept) e p = cc e
wanting_past (status.NotEmpty blocks roots) e p = cc e
wanting_past (status.Refused reply) e p = cc e
wanting_past (status.NotATree address) e p = cc e
wanting_past (status.NoSource peer) e p = cc e
wanting_past (status.CopyFull blocks) e p = cc e

pub never_past : (r : Ran) → NeverOpened r → IsPast r 0 → ⊥
never_past r never past = elim past [
  | inl more ↦ let none = never.line in omega (arith, more, none)
  | inr here ↦ elim never.cause [
    | inl closed ↦ closed_past r.ending closed here.1
    | inr wanting ↦ wanting_past r.ending wanting here.1
  ]
]
