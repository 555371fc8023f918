use Rattle.hs_copies.proofs.LineLemmas.{does_owned}
use Rattle.hs_copies.proofs.RunLemmas.{opened_owned}
use Rattle.hs_copies.proofs.lines.pending_entries_are_of_open_lines.Goals as goal

pub returns : goal.returns
returns c = record {
  opened = λ line waits view log good lead what leads none. opened_owned line view log good lead what leads none waits;
  kept = λ line w event r o a. (does_owned line w event r o a).1;
}
