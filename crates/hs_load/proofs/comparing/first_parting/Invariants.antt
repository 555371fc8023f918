-- So far the answers are the owner's.
use Rattle.std.proofs.Common.{◌≡◌, ◌≤◌, length, take}
use Rattle.hs_load.specs.Compared.{own_answers}
use Rattle.hs_load.specs.Owners.{is_of}
use Rattle.hs_load.proofs.comparing.first_parting.Given as goal

abbrev pub invariant-loop-place : goal.invariant-loop-place
invariant-loop-place l = record {
  within : l.place ≤ length l.journal;
  long : l.next ≤ length l.kept;
  same : take l.next l.kept ≡ own_answers (is_of l.sessions l.owner) (take l.place l.journal);
}
