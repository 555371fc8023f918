-- So far, the handles of the words passed are taken.
use Rattle.std.proofs.Common.{◌≡◌, length}
use Rattle.hs_script.specs.Giving.{more_words}
use Rattle.hs_script.specs.Parts.{handles_of}
use Rattle.hs_script.proofs.HandleLemmas.{after}
use Rattle.hs_script.proofs.handles.handles_of.Given as goal

abbrev pub invariant-words : goal.invariant-words
invariant-words l = handles_of (more_words l.rest) ≡ after l.handles (handles_of (more_words l.left))

abbrev pub decreases-words : goal.decreases-words
decreases-words l = length l.left
