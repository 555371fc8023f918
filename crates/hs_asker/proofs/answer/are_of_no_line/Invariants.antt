use Rattle.std.specs.List.{AllByRecursion}
use Rattle.std.proofs.Common.{◌≡◌, length, take}
use Rattle.hs_asking.specs.Asked.{IsOfNoLine}
use Rattle.hs_asker.proofs.answer.are_of_no_line.Given as goal

abbrev pub invariant-loop-entry : goal.invariant-loop-entry
invariant-loop-entry l = AllByRecursion IsOfNoLine (take l.entry-index l.entries) × (l.entry-index-end ≡ length l.entries)
