-- One operation, and how its calls change it.
use Rattle.std.specs.Prelude.{ℕ, List, Option}
use Rattle.hs_desk.specs.declared.what.What.{What}
use Rattle.hs_limits.specs.declared.address.Address.{Address}
use Rattle.hs_model.specs.declared.op.Op.{Op}
use Rattle.hs_ops.specs.Going.{begin, go, on_bytes, on_effect}
use Rattle.hs_ops.specs.Views.{OpView}
use Rattle.hs_ops.specs.declared.operation.Stage.{Stage}
use Rattle.hs_ops.specs.declared.operation.Stage.TheVariants.{New, Waiting, Reading, Logged}
use Rattle.hs_ops.specs.declared.step.OpStep.{OpStep}
use Rattle.hs_ops.specs.declared.step.OpStep.TheVariants.{Answer, Propose, Compare, Wait}

-- the line that asked, what it asks, and how far it has come
pub record Operation : Type 0 where
  pub line : ℕ
  pub op : Op
  pub stage : Stage

abbrev pub new_operation : ℕ → Op → Operation
new_operation line o = record { line = line; op = o; stage = New }

-- ---- the next step

-- it is begun first, and goes on from then on
abbrev pub go_from : Stage → OpView → ℕ → Op → OpStep
go_from New v line o = begin v line o
go_from Waiting v line o = go v line o
go_from (Reading number) v line o = go v line o
go_from Logged v line o = go v line o

abbrev pub go_step : OpView → Operation → OpStep
go_step v operation = go_from operation.stage v operation.line operation.op

-- the number of the entry whose bytes it wants; entries are numbered from 1
abbrev pub wanted_number : Stage → ℕ
wanted_number New = 0
wanted_number Waiting = 0
wanted_number (Reading number) = number
wanted_number Logged = 0

abbrev pub bytes_step : OpView → Option (List ℕ) → List Address → Operation → OpStep
bytes_step v bytes pointers operation = on_bytes v operation.line (record { number = wanted_number operation.stage; bytes = bytes; pointers = pointers }) operation.op

abbrev pub effect_step : OpView → What → Operation → OpStep
effect_step v w operation = on_effect v operation.line w operation.op

-- ---- the operation after a step

abbrev pub stage_after : OpStep → Stage → Stage
stage_after (Answer reply) stage = stage
stage_after (Propose entry) stage = Logged
stage_after (Compare number) stage = Reading number
stage_after Wait stage = Waiting

abbrev pub after_step : OpStep → Operation → Operation
after_step step operation = record operation { stage = stage_after step operation.stage }
