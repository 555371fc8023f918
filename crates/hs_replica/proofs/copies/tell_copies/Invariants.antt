use Rattle.std.proofs.Common.{◌≡◌, length}
use Rattle.hs_replica.proofs.TellLemmas.{told_behind}
use Rattle.hs_replica.specs.Group.{tell_from}
use Rattle.hs_replica.proofs.copies.tell_copies.Given as goal

-- telling those that are left leads to what telling all leads to
abbrev pub invariant-loop-index : goal.invariant-loop-index
invariant-loop-index l = record {
  told : told_behind l.members l.first l.index l.copies.items ≡ tell_from l.members l.first l.initial.copies.items;
  len : length l.copies.items ≡ length l.initial.copies.items;
}
