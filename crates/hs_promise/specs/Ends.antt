-- How a run ends in its script: after how many lines, and with which bytes taken.
use Rattle.std.specs.Prelude.{List, [], length, take, ℕ, ◌++◌, ◌+◌, ◌≡◌, ◌≤◌}
use Rattle.hs_script.specs.Lines.{lines_of}
use Rattle.hs_script.specs.Scripts.{IsBad, complete_lines, input_limit}
use Rattle.hs_promise.specs.Run.{Ran}
use Rattle.hs_promise.specs.declared.status.Status.{Status}
use Rattle.hs_promise.specs.declared.status.Status.TheVariants as status

-- by its status, after how many of these lines a run ended, with which bytes taken and which left; never as only a command ends that runs no script
abbrev pub HasEnded : Status → List (List ℕ) → ℕ → List ℕ → List ℕ → Type 0
HasEnded status.Done lines line taken left = (line ≡ length lines) × (left ≡ []) × (length taken ≤ input_limit)
HasEnded status.Usage lines line taken left = (line ≡ 0) × (taken ≡ [])
HasEnded (status.BadLine n) lines line taken left = (n ≡ line + 1) × IsBad lines n × (length taken ≤ input_limit)
HasEnded (status.ShardLost shard) lines line taken left = (line ≡ 0 → taken ≡ []) × (length taken ≤ input_limit)
HasEnded status.ReadFault lines line taken left = (line ≡ complete_lines taken) × (length taken ≤ input_limit)
HasEnded status.WriteFault lines line taken left = (line ≡ 0 → taken ≡ []) × (length taken ≤ input_limit)
HasEnded status.NoMemory lines line taken left = length taken ≤ input_limit
HasEnded (status.WrongShape peer found) lines line taken left = (line ≡ 0) × (taken ≡ [])
HasEnded (status.Mismatch session place told kept) lines line taken left = ⊥
HasEnded status.OpsFull lines line taken left = (line ≡ 0 → taken ≡ []) × (length taken ≤ input_limit)
HasEnded (status.Torn peer place told kept) lines line taken left = ⊥
HasEnded (status.NotEmpty blocks roots) lines line taken left = ⊥
HasEnded status.InputFull lines line taken left = (line ≡ complete_lines (take input_limit taken)) × (length taken ≡ input_limit + 1)
HasEnded (status.Refused reply) lines line taken left = ⊥
HasEnded (status.NotATree address) lines line taken left = ⊥
HasEnded (status.NoSource peer) lines line taken left = ⊥
HasEnded (status.CopyFull blocks) lines line taken left = ⊥

-- a script that is told, with the part of it that was taken: no line that was begun is bad, and each is a line of the script
pub record Ends (r : Ran) (script left : List ℕ) : Type 0 where
  pub taken : List ℕ
  pub parted : taken ++ left ≡ script
  pub good : (n : ℕ) → n ≤ r.line → IsBad (lines_of script) n → ⊥
  pub within : r.line ≤ length (lines_of script)
  pub cause : HasEnded r.ending (lines_of script) r.line taken left
