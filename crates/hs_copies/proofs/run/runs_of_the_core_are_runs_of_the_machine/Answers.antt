use Rattle.hs_copies.proofs.CoreRunLemmas.{all_from_opening, one_call}
use Rattle.hs_copies.proofs.FailLemmas.{alike_stands, elsewhere_stands}
use Rattle.hs_copies.proofs.JoinLemmas.{step_under_way}
use Rattle.hs_copies.proofs.run.runs_of_the_core_are_runs_of_the_machine.Goals as goal

pub returns : goal.returns
returns c = record {
  call = one_call;
  copying = λ line c s peer number leads st m. step_under_way c s st peer number leads m.0 m.1 m.2 m.3 m.4 m.5;
  alike = λ line c s m rejoins st a. alike_stands c s st m rejoins a;
  elsewhere = λ line c s peer new st some n. elsewhere_stands c s st peer new some n;
  run = all_from_opening;
}
