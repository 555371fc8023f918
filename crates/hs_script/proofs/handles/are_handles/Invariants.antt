-- So far, each word passed is a handle.
use Rattle.std.proofs.Common.{◌≡◌, length, is_some}
use Rattle.hs_script.specs.Giving.{more_words}
use Rattle.hs_script.specs.Parts.{handles_of}
use Rattle.hs_script.proofs.handles.are_handles.Given as goal

abbrev pub invariant-words : goal.invariant-words
invariant-words l = is_some (handles_of (more_words l.rest)) ≡ is_some (handles_of (more_words l.left))

abbrev pub decreases-words : goal.decreases-words
decreases-words l = length l.left
