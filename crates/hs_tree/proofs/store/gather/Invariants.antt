use Rattle.std.proofs.Common.{◌-◌, ◌≡◌, ◌≤◌, [], None}
use Rattle.hs_asking.specs.Shown.{Shown}
use Rattle.hs_tree.proofs.GatherLemmas.{SoFar}
use Rattle.hs_tree.specs.Storing.{IsTaking, IsUnderWay}
use Rattle.hs_tree.proofs.store.gather.Given as goal

abbrev pub invariant-loop-bytes : goal.invariant-loop-bytes
invariant-loop-bytes g l = record {
  going : (g.B.Asker.shows l.asker).ended ≡ None;
  later : g.S.Source.faults l.fn.source ≤ g.S.Source.faults l.source;
  fits : l.bytes ≤ 67108864;
  under : IsUnderWay (g.A.Addresser.name l.naming) l.session (g.B.Asker.shows l.asker) l.upper.items l.lower.items l.bytes;
  so_far : (start : Shown g.B.Asker.tells) → IsTaking (g.A.Addresser.name l.naming) l.session start (g.B.Asker.shows l.fn.asker) l.fn.upper.items l.fn.lower.items []
      → SoFar (g.A.Addresser.name l.naming) l.session start (g.B.Asker.shows l.asker) l.upper.items l.lower.items l.bytes (g.S.Source.left l.fn.source) (g.S.Source.left l.source);
}

abbrev pub decreases-loop-bytes : goal.decreases-loop-bytes
decreases-loop-bytes g l = 67108864 - l.bytes
