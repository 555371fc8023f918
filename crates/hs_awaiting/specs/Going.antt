-- How an operation goes on by what it sees.
use Rattle.std.specs.BTreeMap.{is_at}
use Rattle.std.specs.Map.{lookup, set_value}
use Rattle.std.specs.Ordering.{nat_cmp}
use Rattle.std.specs.Prelude.{ℕ, List, []}
use Rattle.hs_awaiting.specs.declared.next.Next.{Next}
use Rattle.hs_awaiting.specs.declared.next.Next.TheVariants as next
use Rattle.hs_awaiting.specs.declared.waiting.Waiting.{Waiting}
use Rattle.hs_awaiting.specs.Words.{change_with, ◌▸◌}
use Rattle.hs_limits.specs.declared.address.Address.{Address}
use Rattle.hs_limits.specs.declared.address.Held.{Held}
use Rattle.hs_ops.specs.declared.step.OpStep.{OpStep}
use Rattle.hs_ops.specs.declared.step.OpStep.TheVariants as step
use Rattle.hs_ops.specs.Operations.{Operation, after_step, bytes_step, effect_step, go_step}
use Rattle.hs_ops.specs.Views.{OpView}

-- its next step, that at reported bytes, or that at the effect of its entry
abbrev pub next_step : Next → List Address → OpView → Operation → OpStep
next_step next.Go pointers v operation = go_step v operation
next_step (next.Bytes bytes) pointers v operation = bytes_step v bytes pointers operation
next_step (next.Effect did) pointers v operation = effect_step v did operation

-- the operation where a step leaves it
abbrev pub judged_by : OpStep → Waiting → Waiting
judged_by s w = record w { operation = after_step s w.operation }

-- what a reply gives to hold; other steps give nothing
abbrev pub given_by : OpStep → List Held → List Held
given_by (step.Answer reply) helds = helds
given_by (step.Propose entry) helds = []
given_by (step.Compare number) helds = []
given_by step.Wait helds = []

-- the operation of a line stands after its step, by what it sees
abbrev pub judge_in : Next → List Address → OpView → ℕ → List (ℕ × Waiting) → List (ℕ × Waiting)
judge_in how pointers v line operations =
    operations ▸ change_with (lookup (is_at (nat_cmp line)) operations) (λ w es. set_value (is_at (nat_cmp line)) es (judged_by (next_step how pointers v w.operation) w))
