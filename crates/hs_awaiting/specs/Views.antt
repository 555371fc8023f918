-- What a new view of a shard does to its operations.
use Rattle.std.specs.Prelude.{ℕ, ◌==◌, ◌&&◌, Bool, false, not, nat_le, if◌then◌else◌}
use Rattle.hs_awaiting.specs.declared.wait.Wait.{Wait}
use Rattle.hs_awaiting.specs.declared.wait.Wait.TheVariants as wait
use Rattle.hs_awaiting.specs.declared.waiting.Waiting.{Waiting}

-- whether what is waited for is an entry up to this number
abbrev pub is_within : ℕ → Wait → Bool
is_within last (wait.Entry number) = nat_le number last
is_within last other = false

-- an operation of the shard starts again, but for one whose entry still stands in the lead's list
abbrev pub restarted : ℕ → ℕ → Waiting → Waiting
restarted shard last w = if w.shard == shard && not (is_within last w.wait) then record w { wait = wait.View } else w
