use Rattle.std.proofs.Common.{◌≡◌, drop}
use Rattle.hs_awaiting.specs.Words.{each}
use Rattle.hs_core_state.specs.Keeping.{KeepsCore}
use Rattle.hs_core_words.specs.Operating.{resume}
use Rattle.hs_core.proofs.resuming.resume_each.Given as goal

abbrev pub invariant-loop-line : goal.invariant-loop-line
invariant-loop-line l = record {
  resumed : each (drop l.line-index l.lines) resume l.core ≡ each l.lines resume l.initial.core;
  kept : KeepsCore l.initial.core l.core;
}
