-- So far, the front of the handles is written.
use Rattle.std.proofs.Common.{◌≡◌, ◌++◌, take}
use Rattle.hs_script.specs.Text.{handles_text}
use Rattle.hs_script.proofs.data.put_handles.Given as goal

abbrev pub invariant-loop-handle : goal.invariant-loop-handle
invariant-loop-handle l = l.out.items ≡ l.initial.out.items ++ handles_text (take l.handle-index l.handles)
