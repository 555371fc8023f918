use Rattle.std.proofs.Common.{◌≡◌, ◌+◌, ◌<◌, ◌≤◌, drop, length}
use Rattle.std.specs.Option.{IfSome}
use Rattle.hs_members.specs.Members.{longest}
use Rattle.hs_replica.specs.Group.{good_from}
use Rattle.hs_replica.proofs.replica.lead_of.Given as goal

abbrev pub invariant-loop-index : goal.invariant-loop-index
invariant-loop-index l = record {
  value : l.best ≡ longest (good_from (l.first + l.index) (drop l.index l.copies));
  within : IfSome l.best (λ b. (l.first ≤ b.0) × (b.0 < l.first + length l.copies));
}
